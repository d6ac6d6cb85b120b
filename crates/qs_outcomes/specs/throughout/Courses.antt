-- What the answer to a question about all courses of a program says: a configuration on the way, after a legal order of
-- whole blocks, that is what is asked for; else that none is.
use Rattle.std.specs.Prelude.{◌≡◌, ◌≤◌, Bool, true, false, List, ◌++◌, None, IfSome, length}
use Rattle.qs_objects.specs.declared.held.Ticket.{Ticket}
use Rattle.qs_program.specs.audit.Program.{ProgramShape}
use Rattle.qs_meaning.specs.audit.Configurations.{configuration_after}
use Rattle.qs_meaning.specs.Configurations.{OrderOutcome, outcome_in}
use Rattle.qs_meaning.specs.audit.Serial.{IsLegal}
use Rattle.qs_alike.specs.Changes.{Classes}
use Rattle.qs_alike.specs.Followed.{all_legal}
use Rattle.qs_outcomes.specs.Answers.{AnswerShape, AreEnough}
use Rattle.qs_outcomes.specs.Outcomes.{HasPlaces, outcome_at}
use Rattle.qs_outcomes.specs.Reached.{HasNoted, HasReached}
use Rattle.qs_standings.specs.Standings.{StandingShape, configuration_in}

-- the variables and the objects where an order leads, complete or not
abbrev pub passed : ProgramShape → List Ticket → OrderOutcome
passed p order = outcome_in (configuration_after p order)

-- its order is legal and begins with the front, and leads to what it holds
pub record IsOnTheWayAfter (p : ProgramShape) (front : List Ticket) (s : StandingShape) : Type 0 where
  pub rest : List Ticket
  pub whole : s.order ≡ front ++ rest
  pub legal : IsLegal p s.order
  pub places : HasPlaces p s
  pub there : configuration_in s ≡ configuration_after p s.order

-- It is on the way, and what is asked for. No legal order that begins with the front and leads to what is asked for has
-- fewer blocks.
pub record IsCourseWitnessAfter (p : ProgramShape) (front : List Ticket) (asked : OrderOutcome → Bool)
    (s : StandingShape) : Type 0 where
  pub on_the_way : IsOnTheWayAfter p front s
  pub met : asked (outcome_at s) ≡ true
  pub shortest : (rest : List Ticket) → IsLegal p (front ++ rest) → asked (passed p (front ++ rest)) ≡ true
      → length s.order ≤ length (front ++ rest)

-- no legal order that begins with the front leads to what is asked for
abbrev pub NoneMeetsOnTheWay : ProgramShape → List Ticket → (OrderOutcome → Bool) → Type 0
NoneMeetsOnTheWay p front asked =
    (rest : List Ticket) → IsLegal p (front ++ rest) → asked (passed p (front ++ rest)) ≡ false

-- where there is no witness, nothing on the way is what is asked for, and all configurations were noted
abbrev pub IsCourseAnswered : ProgramShape → Classes → List Ticket → (OrderOutcome → Bool) → AnswerShape → Type 0
IsCourseAnswered p k front asked a =
    a.witness ≡ None → NoneMeetsOnTheWay p front asked × HasReached p k all_legal front a.configurations

-- The answer to whether a legal order that begins with a legal front leads to what is asked for.
pub record IsCourseAnswerAfter (p : ProgramShape) (k : Classes) (front : List Ticket) (asked : OrderOutcome → Bool)
    (a : AnswerShape) : Type 0 where
  pub legal : IsLegal p front
  pub witness : IfSome a.witness (IsCourseWitnessAfter p front asked)
  pub none : IsCourseAnswered p k front asked a
  pub noted : HasNoted p k all_legal front a.configurations
  pub enough : AreEnough front a
