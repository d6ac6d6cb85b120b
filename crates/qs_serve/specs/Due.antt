-- Beside what the headline reaches (`audit/Due.antt`): what else contracts and proofs use.
use Rattle.std.specs.Prelude.{◌≡◌, ◌≢◌, ◌≤◌, ℕ, ◌⊎◌, List, [], ◌∷◌, ◌++◌, min, take, Bool, true, false, if◌then◌else◌, ◌&&◌, Option, Some, None, Ok, Err, Result, Vec, ⊤, IfSome, IsErr, IsOkAnd, MatchBool, unwrap_or}
use Rattle.std.specs.Global.{Global}
use Rattle.std.specs.Io.KnownBytes.{Appends}
use Rattle.qs_script.specs.declared.fault.ReadFault.TheVariants as read
use Rattle.qs_check.specs.declared.fault_places.fault.CheckFault.TheVariants as check_fault
use Rattle.qs_played.specs.declared.fault.PlayFault.TheVariants as play_fault
use Rattle.qs_serial.specs.audit.NamedOrders.{order_of}
use Rattle.qs_meaning.specs.audit.Serial.{IsLegal}
use Rattle.qs_serial.specs.declared.fault.OrderFault.{OrderFault}
use Rattle.qs_serial.specs.declared.fault.OrderFault.TheVariants as order_fault
use Rattle.qs_outcomes.specs.Outcomes.{HasMoreThanAfter, OutcomesShape}
use Rattle.qs_outcomes.specs.declared.fault.OutcomesFault.{OutcomesFault}
use Rattle.qs_outcomes.specs.declared.fault.OutcomesFault.TheVariants as outcomes_fault
use Rattle.qs_standings.specs.Lists.{HasOne}
use Rattle.qs_standings.specs.Standings.{StandingShape}
use Rattle.qs_levels.specs.meaning.Fronts.{AreFrontsAfter}
use Rattle.qs_outcomes.specs.alike.AlikeOutcomes.{AlikeShape, AreAlikeOutcomes}
use Rattle.qs_outcomes.specs.Reached.{HasMore}
use Rattle.qs_alike.specs.Followed.{only_reduced}
use Rattle.qs_alike.specs.Changes.{AreAllAlike, AreClasses, Classes}
use Rattle.qs_dot.specs.ChartDot.{IsChartDot}
use Rattle.qs_report.specs.declared.faults.Fault.{Fault}
use Rattle.qs_report.specs.declared.faults.Fault.TheVariants as fault
use Rattle.qs_report.specs.Faults.{fault_text, fault_status}
use Rattle.qs_report.specs.Report.{counts_text}
use Rattle.qs_report.specs.GraphText.{IsGraphText}
use Rattle.qs_dot.specs.DotText.{IsDotText}
use Rattle.qs_dot.specs.node_lines.NodeLines.{node_lines}
use Rattle.qs_conditions.specs.declared.claim.Claim.{Claim}
use Rattle.qs_conditions.specs.declared.claim.Quantifier.{Quantifier}
use Rattle.qs_outcomes.specs.Answers.{AnswerShape}
use Rattle.qs_questions.specs.Claims.{HasMoreFor}
use Rattle.qs_questions.specs.Questions.{first_unknown_in, first_unknown_of}
use Rattle.qs_json.specs.AlikeJson.{all_alike_json}
use Rattle.qs_json.specs.FrontsJson.{all_fronts_json}
use Rattle.qs_json.specs.AnswerJson.{IsAnswerJson, json_of_answer}
use Rattle.qs_json.specs.EstimateJson.{estimate_json}
use Rattle.qs_json.specs.TallyJson.{tally_json}
use Rattle.qs_json.specs.FaultJson.{fault_json}
use Rattle.qs_json.specs.GraphJson.{IsGraphJson}
use Rattle.qs_json.specs.EndsJson.{IsEndsJson, ends_json}
use Rattle.qs_json.specs.OutcomesJson.{IsOutcomesJson, listed_json}
use Rattle.qs_json.specs.RunJson.{counts_json}
use Rattle.qs_report.specs.AlikeText.{alike_text}
use Rattle.qs_report.specs.FrontsText.{fronts_text}
use Rattle.qs_report.specs.AnswerText.{IsAnswerText, is_yes, text_of_answer}
use Rattle.qs_report.specs.EndsText.{IsEndsText, end_texts}
use Rattle.qs_report.specs.EstimateText.{estimate_text}
use Rattle.qs_report.specs.TallyText.{tally_text}
use Rattle.qs_outcomes.specs.estimate.Estimates.{IsEstimateAfter}
use Rattle.qs_outcomes.specs.declared.estimate.estimate.Estimate.{Estimate}
use Rattle.qs_run.specs.many.Refusals.{IsRefusedTally, LetRunsStart}
use Rattle.qs_run.specs.many.Repeats.{IsTallyBy}
use Rattle.qs_tally.specs.Tallies.{TallyShape}
use Rattle.qs_report.specs.OutcomesText.{IsOutcomesText, listed_text}
use Rattle.std.specs.List.{AllByRecursion}
use Rattle.qs_text.specs.SortedTexts.{IsInOrder}
use Rattle.qs_text.specs.TellApart.{IsEndOfWords}
use Rattle.qs_text.specs.Texts.{AppendsFront}
use Rattle.qs_script.specs.audit.Reads.{IsScriptText}
use Rattle.qs_script.specs.Reads.{IsRefused}
use Rattle.qs_script.specs.declared.tree.tree.Item.{Item}
use Rattle.qs_check.specs.audit.Checked.{fault_of}
use Rattle.qs_check.specs.audit.resolution.Resolve.{program_of_items}
use Rattle.qs_program.specs.audit.Program.{ProgramShape}
use Rattle.qs_syncset.specs.audit.Codes.{AreCodes, ClientCode}
use Rattle.qs_core_laws.specs.CoreSchedule.{IsPlayedIn}
use Rattle.qs_core_laws.specs.orders.CoreOrders.{IsPlayedInOrderOn}
use Rattle.qs_plain_laws.specs.PlainSchedule.{IsPlayed}
use Rattle.qs_plain_laws.specs.orders.PlainOrders.{IsPlayedInOrder}
use Rattle.qs_played.specs.declared.fault.PlayFault.{PlayFault}
use Rattle.qs_played.specs.declared.fault.RunFault.{RunFault}
use Rattle.qs_played.specs.audit.Played.{Played}
use Rattle.qs_played.specs.audit.Schedule.{most_rounds}
use Rattle.qs_played.specs.declared.schedule.actor.Actor.{Actor}
use Rattle.qs_objects.specs.declared.held.Ticket.{Ticket}
use Rattle.qs_syncset.specs.declared.mode.Mode.{Mode}
use Rattle.qs_syncset.specs.declared.mode.Mode.TheVariants.{Both}
use Rattle.qs_report.specs.SyncTable.{IsExactTable, TableShape}
use Rattle.qs_report.specs.SyncsText.{syncs_text}
use Rattle.qs_json.specs.SyncsJson.{syncs_json}
use Rattle.qs_steps.specs.CoreQueues.{core_queues}
use Rattle.qs_steps.specs.CoreSteps.{core_steps}
use Rattle.qs_steps.specs.Orders.{PlayOrder, PlayOrderIn, core_order_queues, core_order_steps, plain_order_queues, plain_order_steps}
use Rattle.qs_steps.specs.PlainQueues.{plain_queues}
use Rattle.qs_steps.specs.PlainSteps.{plain_steps}
use Rattle.qs_run_laws.specs.Outcomes.{IsOutcome}
use Rattle.qs_run.specs.Starts.{IsRefusal, LetAllStart, worker_count}
use Rattle.qs_line.specs.audit.Named.{actors_of, clients_of}
use Rattle.qs_line.specs.declared.fault.ListFault.{ListFault}
use Rattle.qs_line.specs.declared.fault.ListFault.TheVariants as list_fault
use Rattle.qs_line.specs.declared.line.Format.{Format}
use Rattle.qs_line.specs.declared.line.Format.TheVariants as format
use Rattle.qs_line.specs.declared.line.GraphFormat.{GraphFormat}
use Rattle.qs_line.specs.declared.line.GraphFormat.TheVariants as graph_format
use Rattle.qs_line.specs.declared.line.OutcomesFormat.{OutcomesFormat}
use Rattle.qs_line.specs.declared.line.OutcomesFormat.TheVariants as outcomes_format
use Rattle.qs_line.specs.declared.line.LineFault.{LineFault}
use Rattle.qs_line.specs.declared.line.LineFault.TheVariants as line_fault
use Rattle.qs_line.specs.declared.line.ReportStyle.{ReportStyle}
use Rattle.qs_line.specs.declared.line.ReportFormat.{ReportFormat}
use Rattle.qs_line.specs.declared.line.ReportFormat.TheVariants as report_format
use Rattle.qs_line.specs.declared.line.Settings.{Settings}
use Rattle.qs_line.specs.declared.question.Question.{Question}
use Rattle.qs_line.specs.declared.question.Question.TheVariants as question
use Rattle.qs_conditions.specs.declared.condition.Summand.{Summand}
use Rattle.qs_questions.specs.SumValues.{AreValuesOf}
use Rattle.qs_questions.specs.declared.sums.SumValue.{SumValue}
use Rattle.qs_report.specs.ValuesText.{IsValuesText, text_of_values}
use Rattle.qs_json.specs.ValuesJson.{IsValuesJson, json_of_values}
use Rattle.qs_steps.specs.declared.wanted.Form.{Form}
use Rattle.qs_steps.specs.declared.wanted.Form.TheVariants as form
use Rattle.qs_line.specs.declared.parts.Part.{Part}
use Rattle.qs_line.specs.audit.Line.{Line, PlanShape, Request, alike, ask, asks, by_order, by_schedule, check, estimate, fronts, graph, help, outcomes, play, refused, rules, run, syncs, tally, version}
use Rattle.qs_line.specs.Line.{format_by, format_of_request, line_in, request_of}
use Rattle.qs_line.specs.ScriptClaims.{claims_in}
use Rattle.qs_serve.specs.audit.RunReports.{report_by}
use Rattle.qs_serve.specs.Reading.{Reading}
use Rattle.qs_serve.specs.declared.due.Due.{Due}
use Rattle.qs_serve.specs.declared.due.Due.TheVariants.{Text, No, Refused}
use Rattle.qs_serve.specs.audit.Due.{told_report, longest}

-- a refusal, as text, or as JSON with further fields, which say in words why and where
abbrev pub refusal_in : Format → (details : List ℕ) → Fault → List ℕ
refusal_in format.Text details f = fault_text f
refusal_in format.Json details f = fault_json f details

abbrev pub due_text : Format → (details : List ℕ) → Due → List ℕ
due_text how details (Text bytes) = bytes.items
due_text how details (No bytes) = bytes.items
due_text how details (Refused f) = refusal_in how details f

abbrev pub due_status : Due → ℕ
due_status (Text bytes) = 0
due_status (No bytes) = 1
due_status (Refused f) = fault_status f

-- the line of this fault is due
abbrev pub IsRefusedBy : Fault → Due → Type 0
IsRefusedBy f (Text bytes) = ⊥
IsRefusedBy f (No bytes) = ⊥
IsRefusedBy f (Refused g) = g ≡ f

-- an allocation failed: in reading, in checking, in playing, in finding outcomes, or elsewhere
abbrev pub IsOutOfMemory : Due → Type 0
IsOutOfMemory (Refused fault.Memory) = Unit {0}
IsOutOfMemory (Refused (fault.Read read.Memory)) = Unit {0}
IsOutOfMemory (Refused (fault.Check check_fault.Memory)) = Unit {0}
IsOutOfMemory (Refused (fault.Play play_fault.Memory)) = Unit {0}
IsOutOfMemory (Refused (fault.Order order_fault.Memory)) = Unit {0}
IsOutOfMemory (Refused (fault.Outcomes outcomes_fault.Memory)) = Unit {0}
IsOutOfMemory _ = ⊥

-- a text that was made, or that an allocation failed
abbrev pub IsTextOf : {E : Type 0} → Result (Vec ℕ Global) E → Due → Type 0
IsTextOf (Ok bytes) due = due ≡ Text bytes
IsTextOf (Err e) due = due ≡ Refused fault.Memory

-- a program's counts, as text or as JSON
abbrev pub counts_by_format : Format → ProgramShape → List ℕ
counts_by_format format.Text p = counts_text p
counts_by_format format.Json p = counts_json p

-- this report between these lines; or that an allocation failed
abbrev pub IsReportBetween : (steps queues : List ℕ) → ReportStyle → ProgramShape → Played → Due → Type 0
IsReportBetween steps queues style p played (Text bytes) =
    bytes.items ≡ told_report steps queues (report_by style p played)
IsReportBetween steps queues style p played (No bytes) = ⊥
IsReportBetween steps queues style p played (Refused f) = f ≡ fault.Memory

-- this report alone
abbrev pub IsReportOf : ReportStyle → ProgramShape → Played → Due → Type 0
IsReportOf style p played (Text bytes) = bytes.items ≡ report_by style p played
IsReportOf style p played (No bytes) = ⊥
IsReportOf style p played (Refused f) = f ≡ fault.Memory

-- a list of outcomes, as text or as JSON
abbrev pub listed_in : Format → ProgramShape → OutcomesShape → List ℕ
listed_in format.Text p all = listed_text p all
listed_in format.Json p all = listed_json p all

-- the texts of the ends of these outcomes
abbrev pub ends_in : Format → ProgramShape → OutcomesShape → List (List ℕ)
ends_in format.Text p all = end_texts p all.found
ends_in format.Json p all = ends_json p all.found

-- this list, or the ends alone in the order of their texts, all of them of numbers of 64 bits, by which a text tells its
-- end
abbrev pub IsTextOfList : (ends : Bool) → Format → ProgramShape → OutcomesShape → List ℕ → Type 0
IsTextOfList false how p all text = text ≡ listed_in how p all
IsTextOfList true how p all text = AllByRecursion (IsEndOfWords p) all.found × IsInOrder (ends_in how p all) text

-- such a text; or that an allocation failed
abbrev pub IsListOf : (ends : Bool) → Format → ProgramShape → OutcomesShape → Due → Type 0
IsListOf ends how p all (Text bytes) = IsTextOfList ends how p all bytes.items
IsListOf ends how p all (No bytes) = ⊥
IsListOf ends how p all (Refused f) = f ≡ fault.Memory

-- an answer, as text or as JSON
abbrev pub answer_in : Format → ProgramShape → Claim → AnswerShape → List ℕ
answer_in format.Text p claim a = text_of_answer p claim.line claim.quantifier a
answer_in format.Json p claim a = json_of_answer p claim.line claim.quantifier a

-- this answer, which is yes or no; or that an allocation failed
abbrev pub IsAnswered : Format → ProgramShape → Claim → AnswerShape → Due → Type 0
IsAnswered how p claim a (Text bytes) =
    (is_yes claim.quantifier a ≡ true) × (bytes.items ≡ answer_in how p claim a)
IsAnswered how p claim a (No bytes) =
    (is_yes claim.quantifier a ≡ false) × (bytes.items ≡ answer_in how p claim a)
IsAnswered how p claim a (Refused f) = f ≡ fault.Memory

-- a tally of so many runs, as text or as JSON
abbrev pub tally_in : Format → ProgramShape → (runs : ℕ) → TallyShape → List ℕ
tally_in format.Text p runs t = tally_text p runs t
tally_in format.Json p runs t = tally_json p runs t

-- this tally; or that an allocation failed
abbrev pub IsCounted : Format → ProgramShape → (runs : ℕ) → TallyShape → Due → Type 0
IsCounted how p runs t (Text bytes) = bytes.items ≡ tally_in how p runs t
IsCounted how p runs t (No bytes) = ⊥
IsCounted how p runs t (Refused f) = f ≡ fault.Memory

-- the ends of many runs have the numbers of outcomes, where there are no more configurations than these
abbrev pub most_numbered : ℕ
most_numbered = 1000000

-- an estimate, as text or as JSON
abbrev pub estimate_in : Format → Estimate → List ℕ
estimate_in format.Text e = estimate_text e
estimate_in format.Json e = estimate_json e

-- this estimate; or that an allocation failed
abbrev pub IsEstimated : Format → Estimate → Due → Type 0
IsEstimated how e (Text bytes) = bytes.items ≡ estimate_in how e
IsEstimated how e (No bytes) = ⊥
IsEstimated how e (Refused f) = f ≡ fault.Memory

-- an estimate of how many configurations there can be after the blocks of some clients
abbrev pub IsEstimateText : Format → ProgramShape → (clients : List ℕ) → List ℕ → Type 0
IsEstimateText how p clients text =
    (e : Estimate) × IsEstimateAfter p (order_of clients) e × (text ≡ estimate_in how e)

-- one of all alike outcomes, as text or as JSON
abbrev pub alike_in : Format → ProgramShape → AlikeShape → List ℕ
alike_in format.Text p all = alike_text p all.found all.counts all.configurations
alike_in format.Json p all = all_alike_json p all.found all.counts all.configurations

-- clients are of one class exactly where they have the same text
abbrev pub AreTheClasses : ProgramShape → Classes → Type 0
AreTheClasses p k = AreClasses p k × AreAllAlike p k

-- There is a list of one of all outcomes that differ by alike clients in each other's places, where all clients with
-- the same text are alike, with exactly the number of configurations that orders lead to, which is within the limit,
-- whose text this is.
unfoldable pub IsAlikeText : Format → ProgramShape → (limit : ℕ) → List ℕ → Type 0
IsAlikeText how p limit text =
    (k : Classes) × AreTheClasses p k × ((all : AlikeShape) × AreAlikeOutcomes p k all
    × (all.configurations ≤ limit) × (text ≡ alike_in how p all))

-- fronts, as text or as JSON
abbrev pub fronts_in : Format → ProgramShape → List StandingShape → List ℕ
fronts_in format.Text p found = fronts_text p found
fronts_in format.Json p found = all_fronts_json p found

-- There is a list of the configurations after the blocks of some clients and so many blocks more, of at least one,
-- whose text this is.
unfoldable pub IsFrontsText : Format → ProgramShape → (blocks : ℕ) → (clients : List ℕ) → List ℕ → Type 0
IsFrontsText how p blocks clients text =
    (found : List StandingShape) × AreFrontsAfter p (order_of clients) blocks found × (¬ (found ≡ []))
    × (text ≡ fronts_in how p found)

-- this is the text for each of some lists of clients, one behind another
abbrev pub AreFrontsTexts : Format → ProgramShape → (blocks : ℕ) → (orders : List (List Part)) → List ℕ → Type 0
AreFrontsTexts how p blocks [] text = text ≡ []
AreFrontsTexts how p blocks (order ∷ orders) text =
    (own rest : List ℕ) × IsOkAnd (clients_of p order) (λ clients. IsFrontsText how p blocks clients own)
    × AreFrontsTexts how p blocks orders rest × (text ≡ own ++ rest)

-- after as many rounds as a line plays by default, 1,000,000, a run has finished, whatever was picked before them
abbrev pub FinishesByDefault : (rounds : ℕ) → Played → Type 0
FinishesByDefault rounds played = rounds ≡ most_rounds → played.finished ≡ true

-- what is shown under the plain rules: the state after the picks of the actors that a list names in the program, and
-- the rounds of a schedule, which is the end where these are as many as by default; or the blocks that the clients of
-- an order name, in this order, each of them ended
abbrev pub IsShownByRules : PlanShape → ProgramShape → Played → Type 0
IsShownByRules (by_schedule rounds picks) p played =
    IsOkAnd (actors_of p picks) (λ actors. IsPlayed p actors rounds (Ok played)) × FinishesByDefault rounds played
IsShownByRules (by_order list) p played =
    IsOkAnd (clients_of p list) (λ clients. IsLegal p (order_of clients) × IsPlayedInOrder p (order_of clients) played)

-- the same in the optimised machine
abbrev pub IsShownByPlay : Mode → ℕ → PlanShape → ProgramShape → Played → Type 0
IsShownByPlay mode size (by_schedule rounds picks) p played =
    IsOkAnd (actors_of p picks) (λ actors. IsPlayedIn p mode size actors rounds (Ok played))
    × FinishesByDefault rounds played
IsShownByPlay mode size (by_order list) p played =
    IsOkAnd (clients_of p list) (λ clients. IsLegal p (order_of clients)
    × IsPlayedInOrderOn p mode size (order_of clients) played)

-- how many requests a chunk holds by default
abbrev pub default_chunk : ℕ
default_chunk = 8

-- the order whose blocks are counted: the one that a list names in the program; or that of the run by a schedule in the
-- optimised machine, with the mode and the size of chunks that a line has by default
abbrev pub IsCountedOrder : PlanShape → ProgramShape → List Ticket → Type 0
IsCountedOrder (by_schedule rounds picks) p order =
    (played : Played) × IsShownByPlay Both default_chunk (by_schedule rounds picks) p played × (order ≡ played.order)
IsCountedOrder (by_order list) p order =
    IsOkAnd (clients_of p list) (λ clients. IsLegal p (order_of clients) × (order ≡ order_of clients))

-- a table of synchronisations, as text or as JSON
abbrev pub syncs_in : Format → ProgramShape → TableShape → List ℕ
syncs_in format.Text p t = syncs_text p t
syncs_in format.Json p t = syncs_json p t

-- this table; or that an allocation failed
abbrev pub IsTabled : Format → ProgramShape → TableShape → Due → Type 0
IsTabled how p t (Text bytes) = bytes.items ≡ syncs_in how p t
IsTabled how p t (No bytes) = ⊥
IsTabled how p t (Refused f) = f ≡ fault.Memory

-- There is a table of how many synchronisations each block of an order sends in each mode, with the exact numbers, whose
-- text this is.
abbrev pub IsSyncsText : Format → ProgramShape → List Ticket → List ℕ → Type 0
IsSyncsText how p order text = (t : TableShape) × IsExactTable p order t × (text ≡ syncs_in how p t)

-- how steps and queues are told beside a report in a format
abbrev pub form_of : ReportFormat → Form
form_of report_format.Text = form.Text
form_of report_format.Json = form.Json
form_of report_format.Svg = form.Text

-- the lines of the steps of a schedule under the plain rules, by the actors that its picks name in the program; or of
-- actors that play the blocks of an order, one after another
abbrev pub AreStepsOfRules : Form → PlanShape → ProgramShape → List ℕ → Type 0
AreStepsOfRules how (by_schedule rounds picks) p lines =
    IsOkAnd (actors_of p picks) (λ actors. lines ≡ plain_steps how p actors rounds)
AreStepsOfRules how (by_order list) p lines =
    IsOkAnd (clients_of p list) (λ clients. (actors : List Actor) × PlayOrder p (order_of clients) actors
    × (lines ≡ plain_order_steps how p actors))

-- and those of the queues at its end
abbrev pub AreQueuesOfRules : Form → PlanShape → ProgramShape → List ℕ → Type 0
AreQueuesOfRules how (by_schedule rounds picks) p lines =
    IsOkAnd (actors_of p picks) (λ actors. lines ≡ plain_queues how p actors rounds)
AreQueuesOfRules how (by_order list) p lines =
    IsOkAnd (clients_of p list) (λ clients. (actors : List Actor) × PlayOrder p (order_of clients) actors
    × (lines ≡ plain_order_queues how p actors))

-- the same in the optimised machine, by the codes of the mode
abbrev pub AreStepsOfPlay : Form → Mode → ℕ → PlanShape → ProgramShape → List ℕ → Type 0
AreStepsOfPlay how mode size (by_schedule rounds picks) p lines =
    IsOkAnd (actors_of p picks) (λ actors. (code : ℕ → ClientCode) × AreCodes p mode code
    × (lines ≡ core_steps how p code size actors rounds))
AreStepsOfPlay how mode size (by_order list) p lines =
    IsOkAnd (clients_of p list) (λ clients. (code : ℕ → ClientCode) × AreCodes p mode code × (actors : List Actor)
    × PlayOrderIn p code size (order_of clients) actors × (lines ≡ core_order_steps p code size how actors))

abbrev pub AreQueuesOfPlay : Form → Mode → ℕ → PlanShape → ProgramShape → List ℕ → Type 0
AreQueuesOfPlay how mode size (by_schedule rounds picks) p lines =
    IsOkAnd (actors_of p picks) (λ actors. (code : ℕ → ClientCode) × AreCodes p mode code
    × (lines ≡ core_queues how p code size actors rounds))
AreQueuesOfPlay how mode size (by_order list) p lines =
    IsOkAnd (clients_of p list) (λ clients. (code : ℕ → ClientCode) × AreCodes p mode code × (actors : List Actor)
    × PlayOrderIn p code size (order_of clients) actors × (lines ≡ core_order_queues p code size how actors))

-- what stands beside a report: lines of this kind where they are asked for, and else nothing
abbrev pub AreLinesWhere : (asked : Bool) → (List ℕ → Type 0) → List ℕ → Type 0
AreLinesWhere true Are lines = Are lines
AreLinesWhere false Are lines = lines ≡ []

-- for each client, block and node of its graph the line of the script's text
abbrev pub Lines : Type 0
Lines = List (List (List ℕ))

-- the graphs of a program, as lines of words, as JSON or as a drawing, which tells the lines of the script's text
abbrev pub IsTextOfGraphs : GraphFormat → Lines → ProgramShape → List ℕ → Type 0
IsTextOfGraphs graph_format.Text lines p text = IsGraphText p text
IsTextOfGraphs graph_format.Json lines p text = IsGraphJson p text
IsTextOfGraphs graph_format.Dot lines p text = IsDotText p lines text

-- so many configurations there may be where outcomes are asked for: a drawing has no more than 200
abbrev pub limit_in : OutcomesFormat → (limit : ℕ) → ℕ
limit_in (outcomes_format.List how) limit = limit
limit_in (outcomes_format.Ends how) limit = limit
limit_in outcomes_format.Dot limit = min limit 200

-- all outcomes of a program after the blocks of some clients, or their ends alone, as text or as JSON, or the
-- configurations that lead to them as a drawing
abbrev pub IsTextOfOutcomes : OutcomesFormat → ProgramShape → (limit : ℕ) → (clients : List ℕ) → List ℕ → Type 0
IsTextOfOutcomes (outcomes_format.List format.Text) p limit clients text = IsOutcomesText p limit clients text
IsTextOfOutcomes (outcomes_format.List format.Json) p limit clients text = IsOutcomesJson p limit clients text
IsTextOfOutcomes (outcomes_format.Ends format.Text) p limit clients text = IsEndsText p limit clients text
IsTextOfOutcomes (outcomes_format.Ends format.Json) p limit clients text = IsEndsJson p limit clients text
IsTextOfOutcomes outcomes_format.Dot p limit clients text =
    IsChartDot p (limit_in outcomes_format.Dot limit) clients text

-- the answer to a claim on a program after the blocks of some clients, yes or no, as text or as JSON
abbrev pub IsClaimAnswer : Format → ProgramShape → Claim → (limit : ℕ) → (clients : List ℕ) → (holds : Bool)
    → List ℕ → Type 0
IsClaimAnswer format.Text p claim limit clients holds text = IsAnswerText p claim.line claim limit clients holds text
IsClaimAnswer format.Json p claim limit clients holds text = IsAnswerJson p claim.line claim limit clients holds text

-- the values of a sum at these ends, as text or as JSON
abbrev pub values_in : Format → List SumValue → OutcomesShape → List ℕ
values_in format.Text values all = text_of_values values all
values_in format.Json values all = json_of_values values all

-- the values that a sum has after the blocks of some clients, as text or as JSON
abbrev pub IsValuesAnswer : Format → ProgramShape → (sum : List Summand) → (limit : ℕ) → (clients : List ℕ) → List ℕ → Type 0
IsValuesAnswer format.Text p sum limit clients text = IsValuesText p sum limit clients text
IsValuesAnswer format.Json p sum limit clients text = IsValuesJson p sum limit clients text

-- the answer to a question; where it asks for values, it counts as yes
abbrev pub IsAnswerTextTo : Format → ProgramShape → Question → (limit : ℕ) → (clients : List ℕ) → (holds : Bool)
    → List ℕ → Type 0
IsAnswerTextTo how p (question.Claim claim) limit clients holds text = IsClaimAnswer how p claim limit clients holds text
IsAnswerTextTo how p (question.Values sum) limit clients holds text =
    (holds ≡ true) × IsValuesAnswer how p sum limit clients text

-- the answers to questions, one behind another; together they are yes where each of them is
abbrev pub AreAnswersTo : Format → ProgramShape → (limit : ℕ) → (clients : List ℕ) → List Question → (hold : Bool)
    → List ℕ → Type 0
AreAnswersTo how p limit clients [] hold text = (hold ≡ true) × (text ≡ [])
AreAnswersTo how p limit clients (q ∷ questions) hold text =
    (own rest : List ℕ) × (holds others : Bool) × IsAnswerTextTo how p q limit clients holds own
    × AreAnswersTo how p limit clients questions others rest × (hold ≡ (holds && others)) × (text ≡ own ++ rest)

-- a question's condition or sum speaks of what the program has
abbrev pub IsOfProgram : ProgramShape → Question → Type 0
IsOfProgram p (question.Claim claim) = first_unknown_in p claim.condition ≡ None
IsOfProgram p (question.Values sum) = first_unknown_of p sum ≡ None

-- the answers to a request that asks something, and that of what the program has
abbrev pub IsAnswerBy : Request → ProgramShape → (holds : Bool) → List ℕ → Type 0
IsAnswerBy (ask questions how limit threads front) p holds text =
    (questions ≢ []) × AllByRecursion (IsOfProgram p) questions
    × IsOkAnd (clients_of p front) (λ clients. AreAnswersTo how p limit clients questions holds text)
IsAnswerBy _ p holds text = ⊥

-- what a request makes of a program: its counts; its graphs; the report of its run by the plain rules or in the
-- optimised machine; how many synchronisations each mode sends for an order; the report of an outcome which its run on threads may have, or how often each end came in so many of
-- these; after the blocks of some clients, how many configurations there can be; or, after these and of so many
-- configurations at most, that a claim holds, or all its outcomes, by as many threads as may be; or, after each of some
-- lists, the configurations after so many blocks more; or one of all alike outcomes. Each is written in the format that
-- is asked for, and a report with what was refused and with the counts of synchronisations where they are asked for,
-- after a line for each step where these are, and before what lies where at the end of a run that has not finished.
abbrev pub IsTextBy : Request → Lines → ProgramShape → List ℕ → Type 0
IsTextBy (check how) lines p text = text ≡ counts_by_format how p
IsTextBy (graph how) lines p text = IsTextOfGraphs how lines p text
IsTextBy (rules style plan) lines p text =
    (played : Played) × (steps queues : List ℕ) × IsShownByRules plan p played
    × AreLinesWhere style.steps (AreStepsOfRules (form_of style.format) plan p) steps
    × AreLinesWhere style.queues (AreQueuesOfRules (form_of style.format) plan p) queues
    × (text ≡ told_report steps queues (report_by style p played))
IsTextBy (play style mode size plan) lines p text =
    (played : Played) × (steps queues : List ℕ) × IsShownByPlay mode size plan p played
    × AreLinesWhere style.steps (AreStepsOfPlay (form_of style.format) mode size plan p) steps
    × AreLinesWhere style.queues (AreQueuesOfPlay (form_of style.format) mode size plan p) queues
    × (text ≡ told_report steps queues (report_by style p played))
IsTextBy (syncs how plan) lines p text =
    (order : List Ticket) × IsCountedOrder plan p order × IsSyncsText how p order text
IsTextBy (run style mode size) lines p text =
    (outcome : Played) × IsOutcome p mode size outcome × (text ≡ report_by style p outcome)
IsTextBy (tally how mode size times) lines p text =
    (t : TallyShape) × IsTallyBy p mode size times most_numbered t × (text ≡ tally_in how p times t)
IsTextBy (estimate how front) lines p text =
    IsOkAnd (clients_of p front) (λ clients. IsEstimateText how p clients text)
IsTextBy (ask questions how limit threads front) lines p text = IsAnswerBy (ask questions how limit threads front) p true text
IsTextBy (fronts how blocks limit orders) lines p text = AreFrontsTexts how p blocks orders text
IsTextBy (alike how limit) lines p text = IsAlikeText how p limit text
IsTextBy (outcomes how limit threads front) lines p text =
    IsOkAnd (clients_of p front) (λ clients. IsTextOfOutcomes how p limit clients text)

-- a list of a plan names nobody in the program: a part of it is at fault
abbrev pub IsUnnamed : PlanShape → ProgramShape → Type 0
IsUnnamed (by_schedule rounds picks) p = IsErr (actors_of p picks)
IsUnnamed (by_order list) p = IsErr (clients_of p list)

-- so does the list that a request asks by, or it asks nothing, or one of its questions asks for what the program does not
-- have
abbrev pub IsUnnamedBy : Request → ProgramShape → Type 0
IsUnnamedBy (rules style plan) p = IsUnnamed plan p
IsUnnamedBy (play style mode size plan) p = IsUnnamed plan p
IsUnnamedBy (syncs how plan) p = IsUnnamed plan p
IsUnnamedBy (ask questions how limit threads front) p =
    (questions ≡ []) ⊎ (HasOne (λ q. ¬ IsOfProgram p q) questions ⊎ IsErr (clients_of p front))
IsUnnamedBy (estimate how front) p = IsErr (clients_of p front)
IsUnnamedBy (fronts how blocks limit orders) p = HasOne (λ order. IsErr (clients_of p order)) orders
IsUnnamedBy (outcomes how limit threads front) p = IsErr (clients_of p front)
IsUnnamedBy _ p = ⊥

-- what is due by the fault of a list: a part at fault is one of the command line
abbrev pub IsDueOfList : ListFault → Due → Type 0
IsDueOfList list_fault.Memory due = IsRefusedBy fault.Memory due
IsDueOfList (list_fault.Part place why) due = IsRefusedBy fault.CommandLine due

-- why a schedule that a request asks for is not played
abbrev pub IsUnplayedBy : Request → ProgramShape → PlayFault → Type 0
IsUnplayedBy (rules style (by_schedule rounds picks)) p f =
    IsOkAnd (actors_of p picks) (λ actors. IsPlayed p actors rounds (Err f))
IsUnplayedBy (play style mode size (by_schedule rounds picks)) p f =
    IsOkAnd (actors_of p picks) (λ actors. IsPlayedIn p mode size actors rounds (Err f))
IsUnplayedBy (syncs how (by_schedule rounds picks)) p f =
    IsOkAnd (actors_of p picks) (λ actors. IsPlayedIn p Both default_chunk actors rounds (Err f))
IsUnplayedBy _ p f = ⊥

-- why the order of some clients is not played: it is not legal, or it is and an allocation failed
abbrev pub IsUnordered : ProgramShape → List ℕ → OrderFault → Type 0
IsUnordered p clients order_fault.Order = ¬ IsLegal p (order_of clients)
IsUnordered p clients order_fault.Memory = IsLegal p (order_of clients)

-- why an order that a request asks for is not played
abbrev pub IsUnorderedBy : Request → ProgramShape → OrderFault → Type 0
IsUnorderedBy (rules style (by_order list)) p f = IsOkAnd (clients_of p list) (λ clients. IsUnordered p clients f)
IsUnorderedBy (play style mode size (by_order list)) p f =
    IsOkAnd (clients_of p list) (λ clients. IsUnordered p clients f)
IsUnorderedBy (syncs how (by_order list)) p f = IsOkAnd (clients_of p list) (λ clients. IsUnordered p clients f)
IsUnorderedBy _ p f = ⊥

-- a run on threads is asked for; it may want memory or threads on any program
abbrev pub IsRun : Request → Type 0
IsRun (run style mode size) = Unit {0}
IsRun (tally how mode size times) = Unit {0}
IsRun _ = ⊥

-- why outcomes after the blocks of some clients are not listed: there are more configurations than the limit, the
-- clients name no legal order, or an allocation failed
abbrev pub IsUnlisted : ProgramShape → ℕ → List ℕ → OutcomesFault → Type 0
IsUnlisted p limit clients outcomes_fault.Limit = HasMoreThanAfter p (order_of clients) limit
IsUnlisted p limit clients outcomes_fault.Order = ¬ IsLegal p (order_of clients)
IsUnlisted p limit clients outcomes_fault.Memory = Unit {0}

-- why a claim is not answered after the blocks of some clients
abbrev pub IsUnansweredClaim : ProgramShape → Claim → ℕ → List ℕ → OutcomesFault → Type 0
IsUnansweredClaim p claim limit clients outcomes_fault.Limit = HasMoreFor claim p (order_of clients) limit
IsUnansweredClaim p claim limit clients outcomes_fault.Order = ¬ IsLegal p (order_of clients)
IsUnansweredClaim p claim limit clients outcomes_fault.Memory = Unit {0}

-- why a question is not answered
abbrev pub IsUnanswered : ProgramShape → Question → ℕ → List ℕ → OutcomesFault → Type 0
IsUnanswered p (question.Claim claim) limit clients f = IsUnansweredClaim p claim limit clients f
IsUnanswered p (question.Values sum) limit clients f = IsUnlisted p limit clients f

-- why there is no estimate after the blocks of some clients: they name no legal order
abbrev pub IsUnestimated : ProgramShape → List ℕ → OutcomesFault → Type 0
IsUnestimated p clients f = (f ≡ outcomes_fault.Order) × (¬ IsLegal p (order_of clients))

-- why the configurations after so many blocks more are not listed: there are more configurations than the limit on the
-- way, the clients name no legal order or none goes on by so many blocks, or an allocation failed
abbrev pub AreNoFronts : ProgramShape → (blocks limit : ℕ) → (clients : List ℕ) → OutcomesFault → Type 0
AreNoFronts p blocks limit clients outcomes_fault.Limit = HasMoreThanAfter p (order_of clients) limit
AreNoFronts p blocks limit clients outcomes_fault.Order =
    (¬ IsLegal p (order_of clients)) ⊎ AreFrontsAfter p (order_of clients) blocks []
AreNoFronts p blocks limit clients outcomes_fault.Memory = Unit {0}

-- why one of all alike outcomes is not listed: there are more configurations than the limit of which none becomes
-- another, or an allocation failed
abbrev pub AreUnlistedAlike : ProgramShape → (limit : ℕ) → OutcomesFault → Type 0
AreUnlistedAlike p limit outcomes_fault.Limit = (k : Classes) × AreTheClasses p k × HasMore p k only_reduced [] limit
AreUnlistedAlike p limit outcomes_fault.Order = ⊥
AreUnlistedAlike p limit outcomes_fault.Memory = Unit {0}

-- why outcomes that a request asks for are not listed
abbrev pub IsUnlistedBy : Request → ProgramShape → OutcomesFault → Type 0
IsUnlistedBy (ask questions how limit threads front) p f =
    IsOkAnd (clients_of p front) (λ clients. HasOne (λ q. IsUnanswered p q limit clients f) questions)
IsUnlistedBy (estimate how front) p f = IsOkAnd (clients_of p front) (λ clients. IsUnestimated p clients f)
IsUnlistedBy (fronts how blocks limit orders) p f =
    HasOne (λ order. IsOkAnd (clients_of p order) (λ clients. AreNoFronts p blocks limit clients f)) orders
IsUnlistedBy (alike how limit) p f = AreUnlistedAlike p limit f
IsUnlistedBy (outcomes how limit threads front) p f =
    IsOkAnd (clients_of p front) (λ clients. IsUnlisted p (limit_in how limit) clients f)
IsUnlistedBy _ p f = ⊥

-- a list of outcomes in a format, or of their ends alone
abbrev pub listed_as : (ends : Bool) → Format → OutcomesFormat
listed_as ends how = if ends then outcomes_format.Ends how else outcomes_format.List how

-- what is due of the outcomes after the blocks of some clients: their text, why they are not listed, or that an
-- allocation failed
abbrev pub IsDueAfter : OutcomesFormat → ProgramShape → (limit : ℕ) → (clients : List ℕ) → Due → Type 0
IsDueAfter how p limit clients (Text bytes) = IsTextOfOutcomes how p limit clients bytes.items
IsDueAfter how p limit clients (No bytes) = ⊥
IsDueAfter how p limit clients (Refused fault.Memory) = Unit {0}
IsDueAfter how p limit clients (Refused (fault.Outcomes f)) = IsUnlisted p (limit_in how limit) clients f
IsDueAfter how p limit clients (Refused _) = ⊥

-- why there is no text of the configurations after the blocks of some clients and so many blocks more
abbrev pub IsFaultOfFronts : ProgramShape → (blocks limit : ℕ) → (clients : List ℕ) → Fault → Type 0
IsFaultOfFronts p blocks limit clients fault.Memory = Unit {0}
IsFaultOfFronts p blocks limit clients (fault.Outcomes f) = AreNoFronts p blocks limit clients f
IsFaultOfFronts p blocks limit clients _ = ⊥

-- and of those after the blocks of the clients that a list names
abbrev pub IsFaultOfOrder : ProgramShape → (blocks limit : ℕ) → (order : List Part) → Fault → Type 0
IsFaultOfOrder p blocks limit order fault.Memory = Unit {0}
IsFaultOfOrder p blocks limit order fault.CommandLine = IsErr (clients_of p order)
IsFaultOfOrder p blocks limit order (fault.Outcomes f) =
    IsOkAnd (clients_of p order) (λ clients. AreNoFronts p blocks limit clients f)
IsFaultOfOrder p blocks limit order _ = ⊥

-- what is due of a question after the blocks of some clients: the answer, why there is none, or that an allocation failed
abbrev pub IsAnswerAfterDue : Format → ProgramShape → Question → (limit : ℕ) → (clients : List ℕ) → Due → Type 0
IsAnswerAfterDue how p q limit clients (Text bytes) = IsAnswerTextTo how p q limit clients true bytes.items
IsAnswerAfterDue how p q limit clients (No bytes) = IsAnswerTextTo how p q limit clients false bytes.items
IsAnswerAfterDue how p q limit clients (Refused fault.Memory) = Unit {0}
IsAnswerAfterDue how p q limit clients (Refused (fault.Outcomes f)) = IsUnanswered p q limit clients f
IsAnswerAfterDue how p q limit clients (Refused _) = ⊥

-- what is due of the values of a sum at these ends: their text, or that an allocation failed
abbrev pub AreValuesDue : Format → ProgramShape → (sum : List Summand) → OutcomesShape → Due → Type 0
AreValuesDue how p sum all (Text bytes) =
    (values : List SumValue) × AreValuesOf p sum all.found values × (bytes.items ≡ values_in how values all)
AreValuesDue how p sum all (No bytes) = ⊥
AreValuesDue how p sum all (Refused f) = f ≡ fault.Memory

-- what is due of questions after the blocks of some clients: the answers, why there is none to one of them, or that an
-- allocation failed
abbrev pub AreAnswersDue : Format → ProgramShape → List Question → (limit : ℕ) → (clients : List ℕ) → Due → Type 0
AreAnswersDue how p questions limit clients (Text bytes) = AreAnswersTo how p limit clients questions true bytes.items
AreAnswersDue how p questions limit clients (No bytes) = AreAnswersTo how p limit clients questions false bytes.items
AreAnswersDue how p questions limit clients (Refused fault.Memory) = Unit {0}
AreAnswersDue how p questions limit clients (Refused (fault.Outcomes f)) =
    HasOne (λ q. IsUnanswered p q limit clients f) questions
AreAnswersDue how p questions limit clients (Refused _) = ⊥

-- the answers to some questions, and behind them those to others
abbrev pub IsJoinedDue : Due → Due → Due → Type 0
IsJoinedDue one other due =
    (how : Format) (p : ProgramShape) (first second : List Question) (limit : ℕ) (clients : List ℕ)
    → AreAnswersDue how p first limit clients one → AreAnswersDue how p second limit clients other
    → AreAnswersDue how p (first ++ second) limit clients due

-- an answer in parts: its text, and whether it is yes
abbrev pub HasParts : Due → Result (Vec ℕ Global × Bool) Fault → Type 0
HasParts due (Ok part) = due ≡ (if part.1 then Text part.0 else No part.0)
HasParts due (Err f) = due ≡ Refused f

-- what is due of a table of the order that some clients name: its text, why the order is not played, or that an
-- allocation failed
abbrev pub IsTableDue : Format → ProgramShape → (clients : List ℕ) → Due → Type 0
IsTableDue how p clients (Text bytes) = IsLegal p (order_of clients) × IsSyncsText how p (order_of clients) bytes.items
IsTableDue how p clients (No bytes) = ⊥
IsTableDue how p clients (Refused fault.Memory) = Unit {0}
IsTableDue how p clients (Refused (fault.Order f)) = IsUnordered p clients f
IsTableDue how p clients (Refused _) = ⊥

-- the client of a ticket
abbrev pub client_of : Ticket → ℕ
client_of t = t.client

-- why a request makes nothing of a program
abbrev pub IsRefusedFor : Request → ProgramShape → Fault → Type 0
IsRefusedFor request p fault.CommandLine = IsUnnamedBy request p
IsRefusedFor request p (fault.Play f) = IsUnplayedBy request p f
IsRefusedFor request p (fault.Order f) = IsUnorderedBy request p f
IsRefusedFor request p (fault.Run f) = IsRun request
IsRefusedFor request p (fault.Outcomes f) = IsUnlistedBy request p f
IsRefusedFor request p _ = ⊥

-- what a request makes of a program, with these lines for the nodes of its graphs
abbrev pub IsDueOfProgram : Request → Lines → ProgramShape → Due → Type 0
IsDueOfProgram request lines p (Text bytes) = IsTextBy request lines p bytes.items
IsDueOfProgram request lines p (No bytes) = IsAnswerBy request p false bytes.items
IsDueOfProgram request lines p (Refused f) = IsRefusedFor request p f

-- the lines that were found are these, where graphs are to be drawn; nothing else tells them
abbrev pub AreLinesFor : Request → (found lines : Lines) → Type 0
AreLinesFor (graph graph_format.Dot) found lines = found ≡ lines
AreLinesFor (graph graph_format.Text) found lines = ⊤
AreLinesFor (graph graph_format.Json) found lines = ⊤
AreLinesFor (check how) found lines = ⊤
AreLinesFor (rules style plan) found lines = ⊤
AreLinesFor (play style mode size plan) found lines = ⊤
AreLinesFor (syncs how plan) found lines = ⊤
AreLinesFor (run style mode size) found lines = ⊤
AreLinesFor (tally how mode size times) found lines = ⊤
AreLinesFor (ask questions how limit threads front) found lines = ⊤
AreLinesFor (estimate how front) found lines = ⊤
AreLinesFor (fronts how blocks limit orders) found lines = ⊤
AreLinesFor (alike how limit) found lines = ⊤
AreLinesFor (outcomes how limit threads front) found lines = ⊤

-- what a request that has its questions makes of a text: the result of its program, or the fault of the text, of its script,
-- of the list whose names are the script's, of its schedule, of its order, of its threads or of its outcomes
abbrev pub IsDueOfWhole : Request → List ℕ → Due → Type 0
IsDueOfWhole request text (Text bytes) =
    (s : List Item) × IsScriptText text s × (fault_of s ≡ None)
    × IsTextBy request (node_lines text s) (program_of_items s) bytes.items
IsDueOfWhole request text (No bytes) =
    (s : List Item) × IsScriptText text s × (fault_of s ≡ None)
    × IsAnswerBy request (program_of_items s) false bytes.items
IsDueOfWhole request text (Refused (fault.Read f)) = IsRefused f text
IsDueOfWhole request text (Refused (fault.Check f)) = (s : List Item) × IsScriptText text s × (fault_of s ≡ Some f)
IsDueOfWhole request text (Refused fault.CommandLine) =
    (s : List Item) × IsScriptText text s × (fault_of s ≡ None) × IsUnnamedBy request (program_of_items s)
IsDueOfWhole request text (Refused (fault.Play f)) =
    (s : List Item) × IsScriptText text s × (fault_of s ≡ None) × IsUnplayedBy request (program_of_items s) f
IsDueOfWhole request text (Refused (fault.Order f)) =
    (s : List Item) × IsScriptText text s × (fault_of s ≡ None) × IsUnorderedBy request (program_of_items s) f
IsDueOfWhole request text (Refused (fault.Run f)) =
    (s : List Item) × IsScriptText text s × (fault_of s ≡ None) × IsRun request
IsDueOfWhole request text (Refused (fault.Outcomes f)) =
    (s : List Item) × IsScriptText text s × (fault_of s ≡ None) × IsUnlistedBy request (program_of_items s) f
IsDueOfWhole request text (Refused _) = ⊥

-- the claims of a script's text; none where one of them can't be read
abbrev pub claims_of_script : List ℕ → List Question
claims_of_script text = unwrap_or (claims_in text) []

-- the questions of a line, or where it has none the claims of the script
abbrev pub questions_or : (of_line of_script : List Question) → List Question
questions_or [] of_script = of_script
questions_or (q ∷ questions) of_script = q ∷ questions

-- a request with the claims of a script, where it asks questions and has none
abbrev pub with_claims : Request → List Question → Request
with_claims (ask questions how limit threads front) of_script = ask (questions_or questions of_script) how limit threads front
with_claims request of_script = request

-- what a request makes of a text: where it asks questions and has none, the claims of the text are asked
abbrev pub IsDueOfText : Request → List ℕ → Due → Type 0
IsDueOfText request text due = IsDueOfWhole (with_claims request (claims_of_script text)) text due

-- why a text has no program: it is no script, or its script is refused
abbrev pub IsFaultOfText : List ℕ → Fault → Type 0
IsFaultOfText text (fault.Read f) = IsRefused f text
IsFaultOfText text (fault.Check f) = (s : List Item) × IsScriptText text s × (fault_of s ≡ Some f)
IsFaultOfText text _ = ⊥

-- the same, or that an allocation failed
abbrev pub IsUnreadable : List ℕ → Fault → Type 0
IsUnreadable text f = IsOutOfMemory (Refused f) ⊎ IsFaultOfText text f

-- the program of a text, and the lines of the text for the nodes of its graphs where a request draws these
abbrev pub IsProgramOf : Request → List ℕ → (found : Lines) → ProgramShape → Type 0
IsProgramOf request text found p =
    (s : List Item) × IsScriptText text s × (fault_of s ≡ None) × (p ≡ program_of_items s)
    × AreLinesFor request found (node_lines text s)

-- a request for runs on threads
abbrev pub takes_threads : Request → Bool
takes_threads (run style mode size) = true
takes_threads (tally how mode size times) = true
takes_threads _ = false

-- what a request makes of a program where there are no threads: what takes them is refused, as a fault of the line
abbrev pub IsDueWithoutThreads : Request → Lines → ProgramShape → Due → Type 0
IsDueWithoutThreads request lines p due =
    IsOutOfMemory due
    ⊎ MatchBool (takes_threads request) (IsRefusedBy fault.CommandLine due) (IsDueOfProgram request lines p due)

-- what a request makes of a text where there are no threads
abbrev pub IsDueOfTextAlone : Request → List ℕ → Due → Type 0
IsDueOfTextAlone request text due =
    IsOutOfMemory due
    ⊎ MatchBool (takes_threads request) (IsRefusedBy fault.CommandLine due) (IsDueOfText request text due)

-- What a run on threads has asked its starter: its report is due, or an allocation failed in writing it, only where all
-- workers were let start; and the run is refused only as a refused run asks.
abbrev pub HasAsked : {S : Type 0} → (S → ℕ → Bool → S → Type 0) → ProgramShape → S → S → Due → Type 0
HasAsked Answers p before after (Text bytes) = LetAllStart Answers 0 (worker_count p) before after
HasAsked Answers p before after (No bytes) = ⊥
HasAsked Answers p before after (Refused (fault.Run f)) = IsRefusal Answers (worker_count p) f before after
HasAsked Answers p before after (Refused f) = LetAllStart Answers 0 (worker_count p) before after

-- what the runs of a tally have asked their starter, one after another: each was let start, or one was refused
abbrev pub HasAskedTimes : {S : Type 0} → (S → ℕ → Bool → S → Type 0) → (times : ℕ) → ProgramShape → S → S → Due → Type 0
HasAskedTimes Answers times p before after (Text bytes) = LetRunsStart Answers times (worker_count p) before after
HasAskedTimes Answers times p before after (No bytes) = ⊥
HasAskedTimes Answers times p before after (Refused (fault.Run f)) =
    IsRefusedTally Answers times (worker_count p) f before after
HasAskedTimes Answers times p before after (Refused f) = ⊤

-- what is asked of a starter, where runs on threads are asked for; nothing else asks it
abbrev pub HasAskedFor : {S : Type 0} → (S → ℕ → Bool → S → Type 0) → Request → ProgramShape → S → S → Due → Type 0
HasAskedFor Answers (run style mode size) p before after due = HasAsked Answers p before after due
HasAskedFor Answers (tally how mode size times) p before after due = HasAskedTimes Answers times p before after due
HasAskedFor Answers _ p before after due = ⊤

-- the text is a script that is accepted, and this is so of its program
abbrev pub IsOfScript : List ℕ → (ProgramShape → Type 0) → Type 0
IsOfScript text Is = (s : List Item) × IsScriptText text s × (fault_of s ≡ None) × Is (program_of_items s)

-- So it is of the input's script: a text is due only where all starts were let, and a refusal of a run only where one
-- was refused so.
abbrev pub HasStarted : (Let : ProgramShape → Type 0) → (Failed : RunFault → ProgramShape → Type 0) → Option (List ℕ) → Due → Type 0
HasStarted Let Failed known (Text bytes) = IfSome known (λ input. IsOfScript (take longest input) Let)
HasStarted Let Failed known (Refused (fault.Run f)) = IfSome known (λ input. IsOfScript (take longest input) (Failed f))
HasStarted Let Failed known _ = ⊤

-- by the line and the input
abbrev pub IsStartedBy : {S : Type 0} → (S → ℕ → Bool → S → Type 0) → Line → Option (List ℕ) → S → S → Due → Type 0
IsStartedBy Answers (asks (run style mode size)) known before after due =
    HasStarted (λ p. LetAllStart Answers 0 (worker_count p) before after)
    (λ f p. IsRefusal Answers (worker_count p) f before after) known due
IsStartedBy Answers (asks (tally how mode size times)) known before after due =
    HasStarted (λ p. LetRunsStart Answers times (worker_count p) before after)
    (λ f p. IsRefusedTally Answers times (worker_count p) f before after) known due
IsStartedBy Answers _ known before after due = ⊤

-- a text is due: that of a result, or that of an answer that is no
abbrev pub IsSomeText : Due → Type 0
IsSomeText (Text bytes) = ⊤
IsSomeText (No bytes) = ⊤
IsSomeText (Refused f) = ⊥

-- the text of a result is due, whose status is 0, such as that of help or of the version
abbrev pub IsResultText : Due → Type 0
IsResultText (Text bytes) = ⊤
IsResultText (No bytes) = ⊥
IsResultText (Refused f) = ⊥

-- what is due, by the line, the input's bytes where they are known, and whether a read has failed; the texts of help
-- and of the version are clap's, and the page on the language is that of `language_page`
abbrev pub IsDue : Line → Option (List ℕ) → Bool → Due → Type 0
IsDue refused known failed due = IsRefusedBy fault.Memory due ⊎ IsRefusedBy fault.CommandLine due
IsDue help known failed due = IsRefusedBy fault.Memory due ⊎ IsResultText due
IsDue version known failed due = IsRefusedBy fault.Memory due ⊎ IsResultText due
IsDue (asks request) known true due = IsRefusedBy fault.Input due
IsDue (asks request) known false due =
    (¬ IsRefusedBy fault.Input due)
    × (IsOutOfMemory due ⊎ IfSome known (λ bytes. IsDueOfText request (take longest bytes) due))

-- no read has failed, and the input's bytes are a script that is accepted, with this program and, where its graphs are to
-- be drawn, these lines for their nodes
abbrev pub IsProgramRead : Request → Option (List ℕ) → Bool → Lines → ProgramShape → Type 0
IsProgramRead request known failed lines p =
    (failed ≡ false) × IfSome known (λ bytes. IsProgramOf request (take longest bytes) lines p)

-- the settings are those of a request with the claims of the input's script, where these are asked
abbrev pub AreWholeSettings : Request → Option (List ℕ) → Settings → Type 0
AreWholeSettings request known settings =
    (found : List Question) × (request_of settings ≡ with_claims request found)
    × IfSome known (λ bytes. found ≡ claims_of_script (take longest bytes))

-- so it is for the settings of a line
abbrev pub IsAsked : Line → Option (List ℕ) → Bool → Settings → Lines → ProgramShape → Type 0
IsAsked line known failed settings lines p =
    (request : Request) × (line ≡ asks request) × AreWholeSettings request known settings
    × IsProgramRead (request_of settings) known failed lines p

-- a fault that is found before anything is made of a program
abbrev pub IsFoundBefore : Fault → Type 0
IsFoundBefore (fault.Play f) = ⊥
IsFoundBefore (fault.Order f) = ⊥
IsFoundBefore (fault.Run f) = ⊥
IsFoundBefore (fault.Outcomes f) = ⊥
IsFoundBefore _ = ⊤

-- a fault of this kind is due where a line asks for something
abbrev pub IsUnbegun : Line → Due → Type 0
IsUnbegun (asks request) (Refused f) = IsFoundBefore f
IsUnbegun (asks request) (Text bytes) = ⊥
IsUnbegun (asks request) (No bytes) = ⊥
IsUnbegun _ due = ⊤

-- what is due by the fault of a line that gave no settings
abbrev pub IsDueOfFault : LineFault → Due → Type 0
IsDueOfFault line_fault.Refused due = IsRefusedBy fault.CommandLine due
IsDueOfFault (line_fault.Help text) due = IsResultText due
IsDueOfFault (line_fault.Version text) due = IsResultText due
IsDueOfFault line_fault.Memory due = IsRefusedBy fault.Memory due

-- the format of what is due by the answer of reading a line: text, where it gave no settings
abbrev pub format_of_answer : Result Settings LineFault → Format
format_of_answer (Ok settings) = format_of_request (request_of settings)
format_of_answer (Err f) = format.Text

-- that memory ran out, as text
abbrev pub IsTextOfMemory : Due → Format → Type 0
IsTextOfMemory due format.Text = IsRefusedBy fault.Memory due
IsTextOfMemory due format.Json = ⊥

-- what is due by a line and a script's text where there are no threads; the texts of help and of the version are clap's,
-- and the page on the language is that of `language_page`
abbrev pub IsDueOfLine : Line → List ℕ → Due → Type 0
IsDueOfLine refused text due = IsRefusedBy fault.Memory due ⊎ IsRefusedBy fault.CommandLine due
IsDueOfLine help text due = IsRefusedBy fault.Memory due ⊎ IsResultText due
IsDueOfLine version text due = IsRefusedBy fault.Memory due ⊎ IsResultText due
IsDueOfLine (asks request) text due = IsDueOfTextAlone request text due

-- it is written in the format that the line asks for; or that memory ran out is said as text, before the line was read
abbrev pub IsFormatOfLine : Line → Due → Format → Type 0
IsFormatOfLine line due how = (how ≡ format_by line) ⊎ IsTextOfMemory due how

-- what is due is written in the format that the line asks for; or that memory ran out is said as text, before the line
-- was read, so that nothing of the input was read
abbrev pub IsFormat : Line → (before after : Reading) → Due → Format → Type 0
IsFormat line before after due how = (how ≡ format_by line) ⊎ (IsTextOfMemory due how × (after ≡ before))

-- the input's text was read, and is kept
abbrev pub IsTextRead : Option (List ℕ) → List ℕ → Type 0
IsTextRead known kept = IfSome known (λ all. kept ≡ take longest all)

-- the text that was read is kept, by which a fault is told; unless a read failed, or memory ran out
abbrev pub IsTextKept : Option (List ℕ) → Due → List ℕ → Type 0
IsTextKept known (Text bytes) kept = IfSome known (λ all. kept ≡ take longest all)
IsTextKept known (No bytes) kept = IfSome known (λ all. kept ≡ take longest all)
IsTextKept known (Refused fault.Input) kept = ⊤
IsTextKept known (Refused fault.Memory) kept = ⊤
IsTextKept known (Refused _) kept = IfSome known (λ all. kept ≡ take longest all)

-- so it is where a line asks for something
abbrev pub IsKeptBy : Line → Option (List ℕ) → Due → List ℕ → Type 0
IsKeptBy (asks request) known due kept = IsTextKept known due kept
IsKeptBy help known due kept = ⊤
IsKeptBy version known due kept = ⊤
IsKeptBy refused known due kept = ⊤

-- all of the due text was written, with its status
abbrev pub IsDone : Format → (details : List ℕ) → Option (List ℕ) → Option (List ℕ) → Due → ℕ → Type 0
IsDone how details old new due status = Appends old new (due_text how details due) × (status ≡ due_status due)

-- a front of the due text was written; all of it, with its status, exactly where no write and no flush has failed
abbrev pub Serves : List (List ℕ) → (before after : Reading) → Option (List ℕ) → Option (List ℕ) → Bool → ℕ → Type 0
Serves words before after old new write_failed status =
    (due : Due) × (how : Format) × (details : List ℕ) × IsDue (line_in words) before.remaining after.has_failed due
    × IsFormat (line_in words) before after due how
    × AppendsFront old new (due_text how details due) × MatchBool write_failed (status ≡ 4) (IsDone how details old new due status)

-- the same, with what a run on threads has asked its starter
abbrev pub ServesStarting : {S : Type 0} → (S → ℕ → Bool → S → Type 0) → S → S → List (List ℕ)
    → (before after : Reading) → Option (List ℕ) → Option (List ℕ) → Bool → ℕ → Type 0
ServesStarting Answers unasked asked words before after old new write_failed status =
    (due : Due) × (how : Format) × (details : List ℕ) × IsDue (line_in words) before.remaining after.has_failed due
    × IsFormat (line_in words) before after due how × IsStartedBy Answers (line_in words) before.remaining unasked asked due
    × AppendsFront old new (due_text how details due) × MatchBool write_failed (status ≡ 4) (IsDone how details old new due status)
