-- The answer to a claim on a program, as bytes.
use Rattle.std.specs.Prelude.{◌≡◌, ◌≤◌, ℕ, Bool, List, [], ◌++◌, codes, if◌then◌else◌, length, nat_eq, Option, Some, None, is_some}
use Rattle.qs_program.specs.audit.Program.{ProgramShape}
use Rattle.qs_serial.specs.audit.NamedOrders.{order_of}
use Rattle.qs_conditions.specs.Claims.{answer_by, word}
use Rattle.qs_conditions.specs.declared.claim.Claim.{Claim}
use Rattle.qs_conditions.specs.declared.claim.Quantifier.{Quantifier}
use Rattle.qs_conditions.specs.declared.claim.Quantifier.TheVariants as q
use Rattle.qs_outcomes.specs.Answers.{AnswerShape}
use Rattle.qs_questions.specs.Claims.{IsAnswerTo}
use Rattle.qs_standings.specs.Standings.{StandingShape}
use Rattle.qs_text.specs.audit.Texts.{count_line, texts_up_to}
use Rattle.qs_report.specs.OutcomesText.{client_line, clients_text, object_line}

-- the line of the file of claims on which the claim stands; none where it stands on the command line
abbrev pub place_line : (line : ℕ) → List ℕ
place_line line = if nat_eq line 0 then [] else count_line (codes "line") line

-- the quantifier with yes or no
abbrev pub answer_line : Quantifier → Bool → List ℕ
answer_line q holds = word q ++ (if holds then codes " yes\n" else codes " no\n")

-- what stands before the order of a witness: a complete order, or one after whose blocks the program stands there
abbrev pub lead_word : Quantifier → List ℕ
lead_word q.Always = codes "order"
lead_word q.Some = codes "order"
lead_word q.Throughout = codes "after"
lead_word q.Ever = codes "after"
lead_word q.Never = codes "after"

-- an order, and where the program stands after it
abbrev pub witness_text : ProgramShape → Quantifier → StandingShape → List ℕ
witness_text p q s =
    lead_word q ++ codes " " ++ clients_text s.order ++ codes "\n" ++ texts_up_to (length p.objects) (object_line p s)
    ++ texts_up_to (length p.clients) (client_line p s)

abbrev pub witness_text_in : ProgramShape → Quantifier → Option StandingShape → List ℕ
witness_text_in p q None = []
witness_text_in p q (Some s) = witness_text p q s

-- whether the answer is yes: all are as the condition says where none was found that is not, and some is where one was
-- found
abbrev pub is_yes : Quantifier → AnswerShape → Bool
is_yes q a = answer_by q (is_some a.witness)

-- where the claim stands, yes or no, the witness, and how many configurations were noted
abbrev pub text_of_answer : ProgramShape → (line : ℕ) → Quantifier → AnswerShape → List ℕ
text_of_answer p line q a =
    place_line line ++ answer_line q (is_yes q a) ++ witness_text_in p q a.witness
    ++ count_line (codes "configurations") a.configurations

-- There is an answer to the claim on the program after the blocks of these clients, with no more configurations than
-- the limit; it is yes or no, and this is its text, with that line.
unfoldable pub IsAnswerText : ProgramShape → (line : ℕ) → Claim → (limit : ℕ) → (front : List ℕ) → (holds : Bool) → List ℕ
    → Type 0
IsAnswerText p line claim limit front holds text =
    (a : AnswerShape) × IsAnswerTo claim p (order_of front) a × (a.configurations ≤ limit)
    × (holds ≡ is_yes claim.quantifier a) × (text ≡ text_of_answer p line claim.quantifier a)
