-- What is said of a fault, and of the limits that a script leaves.
use Rattle.std.specs.Prelude.{◌≡◌, ◌⊎◌, ⊤, ℕ, Bool, true, false, ◌||◌, List, [], ◌++◌, codes, Option, Some, None, Ok, Err}
use Rattle.std.specs.Io.KnownBytes.{Keeps}
use Rattle.qs_script.specs.declared.tokens.token.Token.{Token}
use Rattle.qs_script.specs.declared.tokens.lex.TokenFault.{TokenFault}
use Rattle.qs_script.specs.audit.tokens.Tokens.{same, tokens_of}
use Rattle.qs_script.specs.audit.grammar.Grammar.{IsScript}
use Rattle.qs_script.specs.declared.fault.ReadFault.TheVariants as read
use Rattle.qs_script.specs.declared.tree.tree.Item.{Item}
use Rattle.qs_check.specs.declared.fault_places.fault.CheckFault.TheVariants as check
use Rattle.qs_played.specs.declared.fault.PlayFault.TheVariants as play
use Rattle.qs_played.specs.declared.fault.RunFault.TheVariants as run
use Rattle.qs_serial.specs.declared.fault.OrderFault.TheVariants as order
use Rattle.qs_outcomes.specs.declared.fault.OutcomesFault.TheVariants as outcomes
use Rattle.qs_report.specs.declared.faults.Fault.{Fault}
use Rattle.qs_report.specs.declared.faults.Fault.TheVariants.{Input, Read, Check, Play, Order, Run, Outcomes, Memory}
use Rattle.qs_messages.specs.CheckTold.{IsCheckTold}
use Rattle.qs_messages.specs.ReadTold.{IsFormTold, IsTokenTold}
use Rattle.qs_messages.specs.LimitsText.{limits_text}
use Rattle.qs_messages.specs.declared.limit_use.templates.TemplateUse.{TemplateUse}
use Rattle.qs_program.specs.audit.Program.{ProgramShape}
use Rattle.qs_text.specs.Texts.{AppendsFront}

-- a word of the line asks for a drawing
abbrev pub is_drawing : List ℕ → Bool
is_drawing word = same word (codes "dot") || same word (codes "--format=dot")

-- the words on more configurations than there may be, by whether a drawing is asked for
abbrev pub limit_words : Bool → List ℕ
limit_words true =
    codes "error: a drawing has at most 200 configurations, and no more than `--limit` says; there are more\n"
    ++ codes "  = help: `--after LIST` draws only what comes after some blocks\n"
    ++ codes "  = help: without `--format dot` the outcomes are listed; `qs estimate` says how many configurations there"
    ++ codes " can be\n"
limit_words false =
    codes "error: there are more configurations than the limit\n"
    ++ codes "  = help: `--limit N` sets another limit, up to 4294967295; without it, it is 1000000\n"
    ++ codes "  = help: `--after LIST` looks only at what comes after some blocks, so that a search can be cut"
    ++ codes " into parts\n"

-- the words of a fault that has no place in the script and is of no part of the line, by whether a drawing is asked
-- for; none of another
abbrev pub plain_words : Bool → Fault → Option (List ℕ)
plain_words draws Memory = Some (codes "error: memory ran out\n")
plain_words draws (Read read.Size) =
    Some (codes "error: a script has at most 65536 bytes, and this text has more\n")
plain_words draws (Read read.Memory) = Some (codes "error: memory ran out while the script was read\n")
plain_words draws (Check check.Memory) = Some (codes "error: memory ran out while the script was checked\n")
plain_words draws (Play play.Memory) = Some (codes "error: memory ran out while the script was played\n")
plain_words draws (Play play.Rounds) = Some (codes "error: `--rounds` is at most 1000000\n")
plain_words draws (Order order.Memory) = Some (codes "error: memory ran out while the script was played\n")
plain_words draws (Run run.Memory) = Some (codes "error: memory ran out before the script was run\n")
plain_words draws (Run run.Threads) =
    Some (codes "error: a thread could not be started\n"
    ++ codes "  = help: each client and each object has a thread of its own; `qs play` takes none\n")
plain_words draws (Outcomes outcomes.Memory) = Some (codes "error: memory ran out while outcomes were looked for\n")
plain_words draws (Outcomes outcomes.Limit) = Some (limit_words draws)
plain_words draws fault = None

-- what is said of a text that can't be read
pub record IsReadTold (text said : List ℕ) : Type 0 where
  pub token : (fault : TokenFault) → tokens_of text ≡ Err fault → IsTokenTold text fault [] said
  pub form : (ts : List Token) → tokens_of text ≡ Ok ts → ((s : List Item) → IsScript s ts → ⊥)
      → IsFormTold text [] said
  pub script : (ts : List Token) (s : List Item) → tokens_of text ≡ Ok ts → IsScript s ts → said ≡ []

-- what is said of another fault: a diagnosis of the script, or words on the line
abbrev pub IsDueOf : List ℕ → Fault → List ℕ → Type 0
IsDueOf text (Read fault) said = IsReadTold text said
IsDueOf text (Check fault) said = IsCheckTold text [] said
IsDueOf text fault said = ⊤

-- a front of a fault's own words was written; or, of another fault, nothing, or a front of what is due
abbrev pub IsToldBy : List ℕ → Fault → Option (List ℕ) → (old new : Option (List ℕ)) → Type 0
IsToldBy text fault (Some plain) old new = AppendsFront old new plain
IsToldBy text fault None old new =
    Keeps old new ⊎ ((said : List ℕ) × IsDueOf text fault said × AppendsFront old new said)

-- a front of a line on the input was written, with words on why it could not be read
abbrev pub IsInputTold : (old new : Option (List ℕ)) → Type 0
IsInputTold old new =
    (why : List ℕ) × AppendsFront old new (codes "error: the script could not be read from standard input" ++ why)

-- what is written of a fault, by whether the line asks for a drawing
abbrev pub IsFaultTold : Bool → List ℕ → Fault → (old new : Option (List ℕ)) → Type 0
IsFaultTold draws text Input old new = IsInputTold old new
IsFaultTold draws text fault old new = IsToldBy text fault (plain_words draws fault) old new

-- nothing was written, or a front of the lines of what a script of so many bytes, with these templates and this program,
-- uses and leaves of each limit
abbrev pub AreLimitsTold : ℕ → TemplateUse → ProgramShape → Option (List ℕ) → Option (List ℕ) → Type 0
AreLimitsTold bytes templates p old new =
    Keeps old new ⊎ ((said : List ℕ) × (said ≡ limits_text bytes templates p) × AppendsFront old new said)
