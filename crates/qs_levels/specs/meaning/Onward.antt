-- Where orders lead that go on by one block from those of some standings, and which standing is there by an order that
-- is no later.
use Rattle.std.specs.Prelude.{◌≡◌, ◌⊎◌, ℕ, suc, List, [], ◌∷◌, ◌++◌}
use Rattle.std.specs.List.{AllByRecursion}
use Rattle.qs_objects.specs.declared.held.Ticket.{Ticket}
use Rattle.qs_program.specs.audit.Program.{ProgramShape}
use Rattle.qs_meaning.specs.audit.Configurations.{configuration_after}
use Rattle.qs_outcomes.specs.LeastOrders.{IsBefore, IsLongerBy}
use Rattle.qs_outcomes.specs.Outcomes.{AreDifferent}
use Rattle.qs_standings.specs.Lists.{HasOne}
use Rattle.qs_standings.specs.Standings.{StandingShape, configuration_in}

-- an order that is the other, or before it
abbrev pub IsNoLater : List Ticket → List Ticket → Type 0
IsNoLater ts us = (ts ≡ us) ⊎ IsBefore ts us

-- it stands where an order leads, by one that is no later
pub record StandsFor (p : ProgramShape) (order : List Ticket) (s : StandingShape) : Type 0 where
  pub there : configuration_in s ≡ configuration_after p order
  pub early : IsNoLater s.order order

-- so does one of these
abbrev pub IsReached : ProgramShape → List StandingShape → List Ticket → Type 0
IsReached p ss order = HasOne (StandsFor p order) ss

-- the order of a standing with the next block of a client
abbrev pub order_on : StandingShape → ℕ → List Ticket
order_on s c = s.order ++ record { client = c; index = (configuration_in s).begun c } ∷ []

-- its order goes on from the other's by one block
abbrev pub IsOneLonger : StandingShape → StandingShape → Type 0
IsOneLonger s n = (ticket : Ticket) × IsLongerBy s.order (ticket ∷ []) n.order

-- so many different configurations and one more, to which these standings lead by one block more
pub record HasMoreOnward (p : ProgramShape) (front : List Ticket) (level : List StandingShape) (room : ℕ) : Type 0 where
  pub configurations : List StandingShape
  pub different : AreDifferent p front configurations (suc room)
  pub onward : AllByRecursion (λ n. HasOne (λ s. IsOneLonger s n) level) configurations
