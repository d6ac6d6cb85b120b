-- The lines of faults, as bytes, and the statuses.
use Rattle.std.specs.Prelude.{ℕ, List, [], ◌++◌, codes, decimal, Option, Some, None}
use Rattle.qs_script.specs.declared.fault.ReadFault.{ReadFault}
use Rattle.qs_script.specs.declared.fault.ReadFault.TheVariants as read
use Rattle.qs_check.specs.declared.fault_places.fault.CheckFault.{CheckFault}
use Rattle.qs_check.specs.declared.fault_places.fault.CheckFault.TheVariants as check
use Rattle.qs_played.specs.declared.fault.PlayFault.{PlayFault}
use Rattle.qs_played.specs.declared.fault.PlayFault.TheVariants as play
use Rattle.qs_played.specs.declared.fault.RunFault.{RunFault}
use Rattle.qs_played.specs.declared.fault.RunFault.TheVariants as run
use Rattle.qs_serial.specs.declared.fault.OrderFault.{OrderFault}
use Rattle.qs_serial.specs.declared.fault.OrderFault.TheVariants as order_fault
use Rattle.qs_outcomes.specs.declared.fault.OutcomesFault.{OutcomesFault}
use Rattle.qs_outcomes.specs.declared.fault.OutcomesFault.TheVariants as outcomes
use Rattle.qs_report.specs.declared.faults.Fault.{Fault}
use Rattle.qs_report.specs.declared.faults.Fault.TheVariants.{CommandLine, Input, Read, Check, Play, Order, Run, Outcomes, Memory}

abbrev pub read_words : ReadFault → List ℕ
read_words read.Size = codes "read 1 Size"
read_words (read.Byte line) = codes "read 2 Byte"
read_words (read.Number line) = codes "read 3 Number"
read_words (read.Name line) = codes "read 4 Name"
read_words (read.Form line) = codes "read 5 Form"
read_words read.Memory = codes "read 6 Memory"

-- the line of the text, of a fault that has one
abbrev pub read_place : ReadFault → Option ℕ
read_place read.Size = None
read_place (read.Byte line) = Some line
read_place (read.Number line) = Some line
read_place (read.Name line) = Some line
read_place (read.Form line) = Some line
read_place read.Memory = None

abbrev pub check_words : CheckFault → List ℕ
check_words check.Twice = codes "check 1 Twice"
check_words check.UnknownObject = codes "check 2 UnknownObject"
check_words check.ReservedTwice = codes "check 3 ReservedTwice"
check_words check.NotReserved = codes "check 4 NotReserved"
check_words check.UnknownOp = codes "check 5 UnknownOp"
check_words check.Arity = codes "check 6 Arity"
check_words check.LeaveOutside = codes "check 7 LeaveOutside"
check_words check.Limit = codes "check 8 Limit"
check_words check.Range = codes "check 9 Range"
check_words check.Load = codes "check 10 Load"
check_words check.Weight = codes "check 11 Weight"
check_words check.Memory = codes "check 12 Memory"
check_words check.UnknownTemplate = codes "check 13 UnknownTemplate"
check_words check.Count = codes "check 14 Count"
check_words check.OtherKind = codes "check 15 OtherKind"

abbrev pub play_words : PlayFault → List ℕ
play_words play.Memory = codes "play 1 Memory"
play_words play.Actor = codes "play 2 Actor"
play_words play.Rounds = codes "play 3 Rounds"

-- an order is one of the ways to play
abbrev pub order_words : OrderFault → List ℕ
order_words order_fault.Memory = codes "play 1 Memory"
order_words order_fault.Order = codes "play 4 Order"

abbrev pub run_words : RunFault → List ℕ
run_words run.Memory = codes "run 1 Memory"
run_words run.Threads = codes "run 2 Threads"

abbrev pub outcomes_words : OutcomesFault → List ℕ
outcomes_words outcomes.Memory = codes "outcomes 1 Memory"
outcomes_words outcomes.Limit = codes "outcomes 2 Limit"
outcomes_words outcomes.Order = codes "outcomes 3 Order"

abbrev pub fault_words : Fault → List ℕ
fault_words CommandLine = codes "command line"
fault_words Input = codes "input"
fault_words (Read fault) = read_words fault
fault_words (Check fault) = check_words fault
fault_words (Play fault) = play_words fault
fault_words (Order fault) = order_words fault
fault_words (Run fault) = run_words fault
fault_words (Outcomes fault) = outcomes_words fault
fault_words Memory = codes "memory"

abbrev pub fault_place : Fault → Option ℕ
fault_place (Read fault) = read_place fault
fault_place _ = None

abbrev pub place_text : Option ℕ → List ℕ
place_text None = []
place_text (Some line) = codes " line " ++ decimal line

-- the line of a fault
abbrev pub fault_text : Fault → List ℕ
fault_text fault = codes "refused: " ++ fault_words fault ++ place_text (fault_place fault) ++ codes "\n"

-- what is refused has 2, out of memory or of threads 3, the input 4
abbrev pub fault_status : Fault → ℕ
fault_status CommandLine = 2
fault_status Input = 4
fault_status (Read read.Memory) = 3
fault_status (Read _) = 2
fault_status (Check check.Memory) = 3
fault_status (Check _) = 2
fault_status (Play play.Memory) = 3
fault_status (Play _) = 2
fault_status (Order order_fault.Memory) = 3
fault_status (Order order_fault.Order) = 2
fault_status (Run _) = 3
fault_status (Outcomes outcomes.Memory) = 3
fault_status (Outcomes outcomes.Limit) = 2
fault_status (Outcomes outcomes.Order) = 2
fault_status Memory = 3
