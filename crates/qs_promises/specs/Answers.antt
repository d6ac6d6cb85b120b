-- What the answer to a claim says of the runs of a program.
use Rattle.std.specs.Prelude.{◌≡◌, Bool, true, false, List, ◌++◌, ℕ, is_some}
use Rattle.std.specs.List.{AllByRecursion}
use Rattle.qs_objects.specs.declared.held.Ticket.{Ticket}
use Rattle.qs_program.specs.audit.Program.{ProgramShape}
use Rattle.qs_program.specs.Sound.{IsSound}
use Rattle.qs_meaning.specs.audit.Configurations.{IsComplete}
use Rattle.qs_meaning.specs.Configurations.{outcome_of}
use Rattle.qs_meaning.specs.audit.Serial.{IsLegal}
use Rattle.qs_conditions.specs.Claims.{answer_by}
use Rattle.qs_conditions.specs.Conditions.{Tree, steps_of}
use Rattle.qs_conditions.specs.declared.claim.Claim.{Claim}
use Rattle.qs_conditions.specs.declared.claim.Quantifier.{Quantifier}
use Rattle.qs_conditions.specs.declared.claim.Quantifier.TheVariants as q
use Rattle.qs_outcomes.specs.Answers.{AnswerShape}
use Rattle.qs_outcomes.specs.throughout.Courses.{passed}
use Rattle.qs_questions.specs.Claims.{IsAnswerTo}
use Rattle.qs_questions.specs.Questions.{holds_at}
use Rattle.qs_syncset.specs.declared.mode.Mode.{Mode}
use Rattle.qs_played.specs.audit.Played.{Played}
use Rattle.qs_played.specs.declared.schedule.actor.Actor.{Actor}
use Rattle.qs_promises.specs.audit.Finished.{ShowsStates}
use Rattle.qs_promises.specs.Outcomes.{MachineReaches, RulesReach}
use Rattle.qs_promises.specs.audit.Runs.{IsRun, Way, by_rules, on_machine}

-- At the end of every finished run whose order begins with the front, in whichever way it is run, the condition holds,
-- or it does not; and the run shows the objects of this end.
abbrev pub AtEveryEnd : (holds : Bool) → ProgramShape → Tree → List Ticket → Type 0
AtEveryEnd holds p c front =
    (way : Way) (r : Played) → IsRun p way r → r.finished ≡ true → (rest : List Ticket) → r.order ≡ front ++ rest
    → (holds_at p c (outcome_of p r.order) ≡ holds) × ShowsStates p r (outcome_of p r.order).states

-- There is an order that begins with the front, at whose end the condition holds, or does not; and some picks lead the
-- plain rules, and the optimised machine in every mode and with every size of chunks, to this end.
pub record AtSomeEnd (holds : Bool) (p : ProgramShape) (c : Tree) (front : List Ticket) : Type 0 where
  pub rest : List Ticket
  pub complete : IsComplete p (front ++ rest)
  pub end : holds_at p c (outcome_of p (front ++ rest)) ≡ holds
  pub rules : RulesReach p (front ++ rest)
  pub machine : (mode : Mode) (size : ℕ) → MachineReaches p mode size (front ++ rest)

-- Wherever the order of a run, finished or not, has come, from the front on, the condition holds there, or it does not.
abbrev pub OnEveryWay : (holds : Bool) → ProgramShape → Tree → List Ticket → Type 0
OnEveryWay holds p c front =
    (way : Way) (r : Played) → IsRun p way r → (before later : List Ticket) → r.order ≡ (front ++ before) ++ later
    → holds_at p c (passed p (front ++ before)) ≡ holds

-- A run in this way has exactly this order, and each of its blocks has ended.
pub record ComesTo (p : ProgramShape) (way : Way) (due : List Ticket) : Type 0 where
  pub shown : Played
  pub run : IsRun p way shown
  pub order : shown.order ≡ due
  pub ended : AllByRecursion (λ e. e ≡ true) shown.ended

-- There is a legal order that begins with the front and leads to where the condition holds, or does not; and some picks
-- lead the plain rules there, and the optimised machine in every mode and with every size of chunks.
pub record OnSomeWay (holds : Bool) (p : ProgramShape) (c : Tree) (front : List Ticket) : Type 0 where
  pub rest : List Ticket
  pub legal : IsLegal p (front ++ rest)
  pub stands : holds_at p c (passed p (front ++ rest)) ≡ holds
  pub rules : (picks : List Actor) × ComesTo p (by_rules picks 0) (front ++ rest)
  pub machine : (mode : Mode) (size : ℕ) → (picks : List Actor) × ComesTo p (on_machine mode size picks 0) (front ++ rest)

-- what yes or no says
abbrev pub Says : Quantifier → (answer : Bool) → ProgramShape → Tree → List Ticket → Type 0
Says q.Always true p c front = AtEveryEnd true p c front
Says q.Always false p c front = AtSomeEnd false p c front
Says q.Some true p c front = AtSomeEnd true p c front
Says q.Some false p c front = AtEveryEnd false p c front
Says q.Throughout true p c front = OnEveryWay true p c front
Says q.Throughout false p c front = OnSomeWay false p c front
Says q.Ever true p c front = OnSomeWay true p c front
Says q.Ever false p c front = OnEveryWay false p c front
Says q.Never true p c front = OnEveryWay false p c front
Says q.Never false p c front = OnSomeWay true p c front

-- for every checked program, every claim whose steps are those of a condition, and every front
abbrev pub AnswersAreOfRuns : Type 0
AnswersAreOfRuns =
    (p : ProgramShape) → IsSound p → (claim : Claim) (c : Tree) → claim.condition ≡ steps_of c
    → (front : List Ticket) (a : AnswerShape) → IsAnswerTo claim p front a
    → Says claim.quantifier (answer_by claim.quantifier (is_some a.witness)) p c front
