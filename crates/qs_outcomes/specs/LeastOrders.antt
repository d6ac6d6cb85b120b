-- Which order is shown of those that lead to one configuration, or to one that it becomes: orders are compared by their
-- clients' numbers, the first place first.
use Rattle.std.specs.Prelude.{◌≡◌, ◌<◌, List, [], ◌∷◌, ◌++◌, ◌⊎◌}
use Rattle.std.specs.List.{AllByRecursion}
use Rattle.qs_objects.specs.declared.held.Ticket.{Ticket}
use Rattle.qs_program.specs.audit.Program.{ProgramShape}
use Rattle.qs_meaning.specs.audit.Configurations.{configuration_after}
use Rattle.qs_meaning.specs.audit.Serial.{IsLegal}
use Rattle.qs_standings.specs.Lists.{EachTwo, HasOne}
use Rattle.qs_standings.specs.Standings.{IsReducedAfter, RowShape, StandingShape, configuration_in}
use Rattle.qs_alike.specs.Changes.{Becomes, Classes}
use Rattle.qs_alike.specs.Followed.{IsFollowedAfter, only_reduced}
use Rattle.qs_alike.specs.Keys.{IsKey}
use Rattle.qs_outcomes.specs.Reached.{IsFollowedTo}

-- at the first place where the clients differ, the first order's has the smaller number
abbrev pub IsBefore : List Ticket → List Ticket → Type 0
IsBefore [] us = ⊥
IsBefore (t ∷ ts) [] = ⊥
IsBefore (t ∷ ts) (u ∷ us) = (t.client < u.client) ⊎ ((t.client ≡ u.client) × IsBefore ts us)

-- each order is before all that stand behind it
abbrev pub AreSorted : List StandingShape → Type 0
AreSorted ss = EachTwo (λ s t. IsBefore s.order t.order) ss

-- No reduced order that leads to the same configuration is before its own.
abbrev pub IsLeastThere : ProgramShape → List Ticket → StandingShape → Type 0
IsLeastThere p front s =
    (order : List Ticket) → IsLegal p order → IsReducedAfter p front order
    → configuration_after p order ≡ configuration_in s → IsBefore order s.order → ⊥

-- No order that is followed, and leads to one that becomes it, is before its own.
abbrev pub IsLeastUpTo : ProgramShape → Classes → List Ticket → StandingShape → Type 0
IsLeastUpTo p k front s =
    (order : List Ticket) → IsLegal p order → IsFollowedAfter p k only_reduced front order
    → Becomes k (configuration_after p order) (configuration_in s) → IsBefore order s.order → ⊥

-- an order, and what it has behind a part with which it begins
abbrev pub IsLongerBy : List Ticket → List Ticket → List Ticket → Type 0
IsLongerBy ts rest us = us ≡ ts ++ rest

-- its order is before the other's, or the other's goes on from it
abbrev pub IsAheadOf : StandingShape → StandingShape → Type 0
IsAheadOf s t = IsBefore s.order t.order ⊎ ((u : Ticket) × (rest : List Ticket) × IsLongerBy s.order (u ∷ rest) t.order)

-- a row was noted as the key of a standing whose order is ahead of all on the stack
pub record IsNotedAhead (p : ProgramShape) (k : Classes) (front : List Ticket) (stack : List StandingShape)
    (r : RowShape) (s : StandingShape) : Type 0 where
  pub to : IsFollowedTo p k only_reduced front s
  pub key : IsKey p k s r
  pub ahead : AllByRecursion (IsAheadOf s) stack

-- a standing whose key was seen is what an order leads to becomes
pub record IsSeenAfter (p : ProgramShape) (k : Classes) (front : List Ticket) (rows : List RowShape)
    (order : List Ticket) (s : StandingShape) : Type 0 where
  pub to : IsFollowedTo p k only_reduced front s
  pub there : Becomes k (configuration_after p order) (configuration_in s)
  pub key : HasOne (IsKey p k s) rows

-- The stack is sorted from its top down, and what was found in the order in which it was found. What was noted is ahead
-- of the stack, and each followed order leads to what was seen or through a standing on the stack.
pub record IsLeastFirst (p : ProgramShape) (k : Classes) (front : List Ticket) (rows : List RowShape)
    (stack found : List StandingShape) : Type 0 where
  pub stack_sorted : EachTwo (λ s t. IsBefore t.order s.order) stack
  pub noted : AllByRecursion (λ r. (s : StandingShape) × IsNotedAhead p k front stack r s) rows
  pub covered : (order : List Ticket) → IsLegal p order → IsFollowedAfter p k only_reduced front order
      → ((s : StandingShape) × IsSeenAfter p k front rows order s)
      ⊎ HasOne (λ s. (rest : List Ticket) × IsLongerBy s.order rest order) stack
  pub least : AllByRecursion (IsLeastUpTo p k front) found
  pub sorted : AreSorted found
  pub before : AllByRecursion (λ x. AllByRecursion (λ s. IsBefore x.order s.order) stack) found
