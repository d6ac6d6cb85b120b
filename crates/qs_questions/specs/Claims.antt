-- What a claim asks of the outcomes of a program, where alike clients change places but for those whose variables its
-- condition names.
use Rattle.std.specs.Prelude.{◌≡◌, ℕ, Bool, List}
use Rattle.qs_objects.specs.declared.held.Ticket.{Ticket}
use Rattle.qs_program.specs.audit.Program.{ProgramShape}
use Rattle.qs_meaning.specs.Configurations.{OrderOutcome}
use Rattle.qs_conditions.specs.Claims.{seeks}
use Rattle.qs_conditions.specs.Conditions.{Tree, steps_of}
use Rattle.qs_conditions.specs.declared.claim.Claim.{Claim}
use Rattle.qs_conditions.specs.declared.claim.Quantifier.{Quantifier}
use Rattle.qs_conditions.specs.declared.claim.Quantifier.TheVariants as q
use Rattle.qs_alike.specs.Changes.{Classes}
use Rattle.qs_alike.specs.Followed.{Orders, all_legal, only_reduced}
use Rattle.qs_outcomes.specs.Answers.{AnswerShape, IsAnswerAfter, IsBlind}
use Rattle.qs_outcomes.specs.Reached.{HasMore}
use Rattle.qs_outcomes.specs.throughout.Courses.{IsCourseAnswerAfter}
use Rattle.qs_questions.specs.Answering.{answer_of}
use Rattle.qs_questions.specs.NamedClients.{AreClassesFor}
use Rattle.qs_questions.specs.Questions.{holds_at, value_at}

-- whether an outcome is one that the answer to a claim looks for: one of which the condition holds, or does not
abbrev pub is_sought : Claim → ProgramShape → OrderOutcome → Bool
is_sought claim p o = seeks claim.quantifier (answer_of (value_at p o) claim.condition)

-- the answer to a claim: found among the ends of complete orders, or among all that legal orders lead to
abbrev pub IsAnswerBy : Quantifier → ProgramShape → Classes → List Ticket → (OrderOutcome → Bool) → AnswerShape → Type 0
IsAnswerBy q.Always p k front asked a = IsAnswerAfter p k front asked a
IsAnswerBy q.Some p k front asked a = IsAnswerAfter p k front asked a
IsAnswerBy q.Throughout p k front asked a = IsCourseAnswerAfter p k front asked a
IsAnswerBy q.Ever p k front asked a = IsCourseAnswerAfter p k front asked a
IsAnswerBy q.Never p k front asked a = IsCourseAnswerAfter p k front asked a

-- over one of all configurations that differ by a change of alike clients
abbrev pub IsAnswerTo : Claim → ProgramShape → List Ticket → AnswerShape → Type 0
IsAnswerTo claim p front a =
    (k : Classes) × AreClassesFor p claim.condition k × IsAnswerBy claim.quantifier p k front (is_sought claim p) a

-- the orders that the search for an answer follows
abbrev pub orders_for : Quantifier → Orders
orders_for q.Always = only_reduced
orders_for q.Some = only_reduced
orders_for q.Throughout = all_legal
orders_for q.Ever = all_legal
orders_for q.Never = all_legal

-- there are more configurations than the limit, of those that are looked at
abbrev pub HasMoreFor : Claim → ProgramShape → List Ticket → (limit : ℕ) → Type 0
HasMoreFor claim p front limit =
    (k : Classes) × AreClassesFor p claim.condition k × HasMore p k (orders_for claim.quantifier) front limit

-- The steps of a condition answer what the condition says.
abbrev pub StepsAnswer : Type 0
StepsAnswer =
    (p : ProgramShape) (o : OrderOutcome) (claim : Claim) (c : Tree) → claim.condition ≡ steps_of c
    → is_sought claim p o ≡ seeks claim.quantifier (holds_at p c o)

-- A change of these classes changes nothing of what is asked for.
abbrev pub ChangesKeepSought : Type 0
ChangesKeepSought =
    (p : ProgramShape) (claim : Claim) (k : Classes) → AreClassesFor p claim.condition k → IsBlind k (is_sought claim p)
