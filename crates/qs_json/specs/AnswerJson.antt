-- The answer to a claim on a program: one object on a line.
use Rattle.std.specs.Prelude.{◌≡◌, ◌≤◌, ℕ, Bool, List, ◌++◌, codes, decimal, if◌then◌else◌, nat_eq, Option, Some, None}
use Rattle.qs_objects.specs.declared.held.Ticket.{Ticket}
use Rattle.qs_program.specs.audit.Program.{ProgramShape}
use Rattle.qs_serial.specs.audit.NamedOrders.{order_of}
use Rattle.qs_conditions.specs.Claims.{word}
use Rattle.qs_conditions.specs.declared.claim.Claim.{Claim}
use Rattle.qs_conditions.specs.declared.claim.Quantifier.{Quantifier}
use Rattle.qs_conditions.specs.declared.claim.Quantifier.TheVariants as q
use Rattle.qs_outcomes.specs.Answers.{AnswerShape}
use Rattle.qs_questions.specs.Claims.{IsAnswerTo}
use Rattle.qs_standings.specs.Standings.{StandingShape}
use Rattle.qs_report.specs.AnswerText.{is_yes}
use Rattle.qs_json.specs.audit.Pieces.{array, field, first_field, truth}
use Rattle.qs_json.specs.OutcomesJson.{next_client_json, standing_fields}

-- the quantifier with true or false; before it the line of the file of claims on which the claim stands, unless it
-- stands on the command line
abbrev pub answer_fields : (line : ℕ) → Quantifier → Bool → List ℕ
answer_fields line q holds =
    if nat_eq line 0
    then first_field (word q) (truth holds)
    else first_field (codes "line") (decimal line) ++ field (word q) (truth holds)

-- the order of a witness: a complete order, or one after whose blocks the program stands there
abbrev pub order_field : Quantifier → List Ticket → List ℕ
order_field q.Always order = first_field (codes "order") (array next_client_json order)
order_field q.Some order = first_field (codes "order") (array next_client_json order)
order_field q.Throughout order = first_field (codes "after") (array next_client_json order)
order_field q.Ever order = first_field (codes "after") (array next_client_json order)
order_field q.Never order = first_field (codes "after") (array next_client_json order)

-- an order, and where the program stands after it
abbrev pub witness_json : ProgramShape → Quantifier → StandingShape → List ℕ
witness_json p q s = order_field q s.order ++ standing_fields p s ++ codes "}"

abbrev pub witness_or_null : ProgramShape → Quantifier → Option StandingShape → List ℕ
witness_or_null p q None = codes "null"
witness_or_null p q (Some s) = witness_json p q s

abbrev pub witness_field : ProgramShape → Quantifier → Option StandingShape → List ℕ
witness_field p q witness = field (codes "witness") (witness_or_null p q witness)

-- where the claim stands, the answer, the witness, and how many configurations were noted
abbrev pub json_of_answer : ProgramShape → (line : ℕ) → Quantifier → AnswerShape → List ℕ
json_of_answer p line q a =
    answer_fields line q (is_yes q a) ++ witness_field p q a.witness
    ++ field (codes "configurations") (decimal a.configurations) ++ codes "}\n"

-- There is an answer to the claim on the program after the blocks of these clients, with no more configurations than
-- the limit; it is yes or no, and this is its text, with that line.
unfoldable pub IsAnswerJson : ProgramShape → (line : ℕ) → Claim → (limit : ℕ) → (front : List ℕ) → (holds : Bool) → List ℕ
    → Type 0
IsAnswerJson p line claim limit front holds text =
    (a : AnswerShape) × IsAnswerTo claim p (order_of front) a × (a.configurations ≤ limit)
    × (holds ≡ is_yes claim.quantifier a) × (text ≡ json_of_answer p line claim.quantifier a)
