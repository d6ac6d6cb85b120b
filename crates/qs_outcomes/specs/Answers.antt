-- What the answer to a question says: a witness, if an outcome is what is asked for; else that none is. Where alike
-- clients change places, the question has to say the same.
use Rattle.std.specs.Prelude.{◌≡◌, ◌<◌, ◌+◌, ℕ, Bool, true, false, List, ◌++◌, Option, None, IfSome, length}
use Rattle.std.specs.List.{AllByRecursion}
use Rattle.qs_objects.specs.declared.held.Ticket.{Ticket}
use Rattle.qs_program.specs.audit.Program.{ProgramShape}
use Rattle.qs_meaning.specs.audit.Configurations.{IsComplete}
use Rattle.qs_meaning.specs.Configurations.{OrderOutcome, outcome_of}
use Rattle.qs_meaning.specs.audit.Serial.{IsLegal}
use Rattle.qs_alike.specs.Changes.{Change, Classes, IsChange, changed_outcome}
use Rattle.qs_alike.specs.Followed.{IsFollowedAfter, only_reduced}
use Rattle.qs_outcomes.specs.LeastOrders.{IsBefore}
use Rattle.qs_outcomes.specs.Outcomes.{HasPlaces, outcome_at}
use Rattle.qs_outcomes.specs.Reached.{HasNoted, HasReached}
use Rattle.qs_standings.specs.Standings.{StandingShape}

-- where a program stands at the end of an order, if that is what is asked for; and how many configurations were noted
-- until the answer was there
pub record AnswerShape : Type 0 where
  pub witness : Option StandingShape
  pub configurations : ℕ

-- the question says the same where alike clients change places
abbrev pub IsBlind : Classes → (OrderOutcome → Bool) → Type 0
IsBlind k asked = (x : Change) → IsChange k x → (o : OrderOutcome) → asked (changed_outcome x o) ≡ asked o

-- its order begins with the front, is followed after it, is complete, and comes to what it holds
pub record IsEndAfter (p : ProgramShape) (k : Classes) (front : List Ticket) (s : StandingShape) : Type 0 where
  pub complete : IsComplete p s.order
  pub followed : IsFollowedAfter p k only_reduced front s.order
  pub outcome : outcome_at s ≡ outcome_of p s.order
  pub places : HasPlaces p s

-- It is an end, and its outcome is what is asked for. No complete order that is followed after the front and comes to
-- what is asked for is before its own.
pub record IsWitnessAfter (p : ProgramShape) (k : Classes) (front : List Ticket) (asked : OrderOutcome → Bool)
    (s : StandingShape) : Type 0 where
  pub end : IsEndAfter p k front s
  pub met : asked (outcome_at s) ≡ true
  pub least : (order : List Ticket) → IsComplete p order → IsFollowedAfter p k only_reduced front order
      → asked (outcome_of p order) ≡ true → IsBefore order s.order → ⊥

-- no complete order that begins with the front comes to what is asked for
abbrev pub NoneMeets : ProgramShape → List Ticket → (OrderOutcome → Bool) → Type 0
NoneMeets p front asked =
    (rest : List Ticket) → IsComplete p (front ++ rest) → asked (outcome_of p (front ++ rest)) ≡ false

-- where there is no witness, no outcome is what is asked for, and all configurations were noted
abbrev pub IsAnswered : ProgramShape → Classes → List Ticket → (OrderOutcome → Bool) → AnswerShape → Type 0
IsAnswered p k front asked a =
    a.witness ≡ None → NoneMeets p front asked × HasReached p k only_reduced front a.configurations

-- a witness is reached after the front by fewer blocks than configurations were noted
abbrev pub AreEnough : List Ticket → AnswerShape → Type 0
AreEnough front a = IfSome a.witness (λ s. length s.order < length front + a.configurations)

-- The answer to whether a complete order that begins with a legal front comes to what is asked for.
pub record IsAnswerAfter (p : ProgramShape) (k : Classes) (front : List Ticket) (asked : OrderOutcome → Bool)
    (a : AnswerShape) : Type 0 where
  pub legal : IsLegal p front
  pub witness : IfSome a.witness (IsWitnessAfter p k front asked)
  pub none : IsAnswered p k front asked a
  pub noted : HasNoted p k only_reduced front a.configurations
  pub enough : AreEnough front a

-- none of these outcomes is what is asked for
abbrev pub AreUnmet : (OrderOutcome → Bool) → List StandingShape → Type 0
AreUnmet asked found = AllByRecursion (λ s. asked (outcome_at s) ≡ false) found
