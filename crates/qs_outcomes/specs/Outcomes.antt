-- What the list of all outcomes of a program says, of all orders or of those that begin with a front.
use Rattle.std.specs.Prelude.{◌≡◌, ℕ, suc, List, [], ◌++◌, length}
use Rattle.std.specs.List.{AllByRecursion}
use Rattle.qs_objects.specs.declared.held.Ticket.{Ticket}
use Rattle.qs_program.specs.audit.Program.{ProgramShape}
use Rattle.qs_meaning.specs.audit.Configurations.{IsComplete, configuration_after}
use Rattle.qs_meaning.specs.Configurations.{OrderOutcome, outcome_in, outcome_of}
use Rattle.qs_meaning.specs.Reduced.{IsReducedFrom}
use Rattle.qs_meaning.specs.audit.Serial.{IsLegal}
use Rattle.qs_outcomes.specs.LeastOrders.{AreSorted, IsBefore}
use Rattle.qs_standings.specs.Lists.{HasOne, NoTwo}
use Rattle.qs_standings.specs.Standings.{IsReducedAfter, IsStanding, StandingShape, configuration_in}

-- what was found, and how many configurations there are
pub record OutcomesShape : Type 0 where
  pub found : List StandingShape
  pub configurations : ℕ

-- the variables and the objects of a standing
abbrev pub outcome_at : StandingShape → OrderOutcome
outcome_at s = outcome_in (configuration_in s)

-- it has a place for each client and each object
pub record HasPlaces (p : ProgramShape) (s : StandingShape) : Type 0 where
  pub locals : length s.locals ≡ length p.clients
  pub states : length s.states ≡ length p.objects

-- its order begins with the front, is reduced after it, is complete, and comes to what it holds
pub record IsListedAfter (p : ProgramShape) (front : List Ticket) (s : StandingShape) : Type 0 where
  pub complete : IsComplete p s.order
  pub reduced : IsReducedAfter p front s.order
  pub outcome : outcome_at s ≡ outcome_of p s.order
  pub places : HasPlaces p s

abbrev pub IsListed : ProgramShape → StandingShape → Type 0
IsListed p s = IsListedAfter p [] s

-- the outcome of each complete order that begins with the front is among these
abbrev pub AreAllOutcomesAfter : ProgramShape → List Ticket → List StandingShape → Type 0
AreAllOutcomesAfter p front found =
    (rest : List Ticket) → IsComplete p (front ++ rest)
    → HasOne (λ s. outcome_at s ≡ outcome_of p (front ++ rest)) found

-- the outcome of each complete order is among these
abbrev pub AreAllOutcomes : ProgramShape → List StandingShape → Type 0
AreAllOutcomes p found = AreAllOutcomesAfter p [] found

abbrev pub AreApart : List StandingShape → Type 0
AreApart found = NoTwo (λ s t. outcome_at s ≡ outcome_at t) found

-- no complete order that is reduced after the front and comes to the same is before its own
abbrev pub IsLeastAfter : ProgramShape → List Ticket → StandingShape → Type 0
IsLeastAfter p front s =
    (order : List Ticket) → IsComplete p order → IsReducedAfter p front order → outcome_of p order ≡ outcome_at s
    → IsBefore order s.order → ⊥

abbrev pub IsLeast : ProgramShape → StandingShape → Type 0
IsLeast p s = IsLeastAfter p [] s

-- as many different configurations, each after some order that is reduced after the front
pub record AreDifferent (p : ProgramShape) (front : List Ticket) (ss : List StandingShape) (many : ℕ) : Type 0 where
  pub count : length ss ≡ many
  pub reached : AllByRecursion (IsStanding p front) ss
  pub different : NoTwo (λ s t. configuration_in s ≡ configuration_in t) ss

-- orders that are reduced after the front lead to exactly so many different configurations
abbrev pub HasConfigurationsAfter : ProgramShape → List Ticket → ℕ → Type 0
HasConfigurationsAfter p front count =
    (ss : List StandingShape) × AreDifferent p front ss count
    × ((rest : List Ticket) → IsLegal p (front ++ rest) → IsReducedFrom p (configuration_after p front) rest
    → HasOne (λ s. configuration_in s ≡ configuration_after p (front ++ rest)) ss)

-- and to more than so many
abbrev pub HasMoreThanAfter : ProgramShape → List Ticket → ℕ → Type 0
HasMoreThanAfter p front limit = (ss : List StandingShape) × AreDifferent p front ss (suc limit)

abbrev pub HasMoreThan : ProgramShape → ℕ → Type 0
HasMoreThan p limit = HasMoreThanAfter p [] limit

-- Of the complete orders that begin with a legal front: each that is listed comes from the order that it shows, the
-- least of the reduced ones that come to it, and they stand in the order of these; the outcome of each such order is
-- among them, and no two are equal; and so many configurations there are.
pub record AreOutcomesAfter (p : ProgramShape) (front : List Ticket) (all : OutcomesShape) : Type 0 where
  pub legal : IsLegal p front
  pub sound : AllByRecursion (IsListedAfter p front) all.found
  pub complete : AreAllOutcomesAfter p front all.found
  pub least : AllByRecursion (IsLeastAfter p front) all.found
  pub sorted : AreSorted all.found
  pub once : AreApart all.found
  pub counted : HasConfigurationsAfter p front all.configurations

-- of all complete orders
abbrev pub AreOutcomes : ProgramShape → OutcomesShape → Type 0
AreOutcomes p all = AreOutcomesAfter p [] all
