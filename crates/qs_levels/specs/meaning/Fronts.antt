-- The configurations to which orders lead that go on from a front by so many blocks: each once, with its least order.
-- So a search after the front falls into searches after each of these, which begin apart.
use Rattle.std.specs.Prelude.{◌≡◌, ◌≤◌, ◌+◌, ℕ, List, ◌++◌, length}
use Rattle.std.specs.List.{AllByRecursion}
use Rattle.qs_objects.specs.declared.held.Ticket.{Ticket}
use Rattle.qs_program.specs.audit.Program.{ProgramShape}
use Rattle.qs_program.specs.Sound.{IsSound}
use Rattle.qs_meaning.specs.audit.Configurations.{IsComplete, configuration_after}
use Rattle.qs_meaning.specs.Configurations.{outcome_of}
use Rattle.qs_meaning.specs.Reduced.{IsOutcomeAfter, IsReducedFrom}
use Rattle.qs_meaning.specs.audit.Serial.{IsLegal}
use Rattle.qs_outcomes.specs.LeastOrders.{AreSorted, IsLeastThere, IsLongerBy}
use Rattle.qs_standings.specs.Lists.{HasOne, NoTwo}
use Rattle.qs_standings.specs.Standings.{IsStanding, StandingShape, configuration_in}

-- a standing whose order goes on from a front by so many blocks
pub record IsAfter (p : ProgramShape) (front : List Ticket) (blocks : ℕ) (s : StandingShape) : Type 0 where
  pub standing : IsStanding p front s
  pub long : length s.order ≡ length front + blocks

-- so many blocks that may come after a front, each of one of those who go on
pub record IsOnward (p : ProgramShape) (front : List Ticket) (blocks : ℕ) (rest : List Ticket) : Type 0 where
  pub legal : IsLegal p (front ++ rest)
  pub reduced : IsReducedFrom p (configuration_after p front) rest
  pub long : length rest ≡ blocks

-- no two have the same configuration
abbrev pub AreDistinct : List StandingShape → Type 0
AreDistinct ss = NoTwo (λ s t. configuration_in s ≡ configuration_in t) ss

-- Of a legal front: each that is listed comes by the order that it shows, the least of the reduced ones that lead
-- there; where such an order leads is listed; and each is listed once, in the order of these orders.
pub record AreFrontsAfter (p : ProgramShape) (front : List Ticket) (blocks : ℕ)
    (found : List StandingShape) : Type 0 where
  pub legal : IsLegal p front
  pub sound : AllByRecursion (IsAfter p front blocks) found
  pub complete : (rest : List Ticket) → IsOnward p front blocks rest
      → HasOne (λ s. configuration_in s ≡ configuration_after p (front ++ rest)) found
  pub least : AllByRecursion (IsLeastThere p front) found
  pub once : AreDistinct found
  pub sorted : AreSorted found

-- Each complete order that begins with the front and is long enough comes to what some complete order comes to that
-- begins with one of the listed orders; and what begins with one of these begins with the front.
pub record AreCovering (p : ProgramShape) (front : List Ticket) (blocks : ℕ) (found : List StandingShape) : Type 0 where
  pub all : (rest : List Ticket) → IsComplete p (front ++ rest) → blocks ≤ length rest
      → HasOne (λ s. IsOutcomeAfter p s.order (outcome_of p (front ++ rest))) found
  pub only : AllByRecursion (λ s. (more : List Ticket) × IsLongerBy front more s.order) found

abbrev pub FrontsCover : Type 0
FrontsCover =
    (p : ProgramShape) → IsSound p → (front : List Ticket) (blocks : ℕ) (found : List StandingShape)
    → AreFrontsAfter p front blocks found → AreCovering p front blocks found
