-- By which row a search recognises a configuration, and each that it becomes by a change of alike clients: by that of the
-- one in which the places of each class are in order.
use Rattle.std.specs.Prelude.{◌≡◌}
use Rattle.qs_program.specs.audit.Program.{ProgramShape}
use Rattle.qs_standings.specs.Standings.{IsStanding, RowShape, StandingShape, configuration_in, row_of}
use Rattle.qs_alike.specs.Arranged.{IsArranged}
use Rattle.qs_alike.specs.Changes.{Becomes, Classes}

-- where an order leads, with the places of each class in order
pub record IsPlaced (p : ProgramShape) (k : Classes) (s : StandingShape) : Type 0 where
  pub standing : IsStanding p s.order s
  pub arranged : IsArranged k (configuration_in s)

-- a standing becomes one with the places of each class in order
pub record IsPlacedAs (p : ProgramShape) (k : Classes) (s t : StandingShape) : Type 0 where
  pub placed : IsPlaced p k t
  pub becomes : Becomes k (configuration_in s) (configuration_in t)

-- whose row this is
pub record IsKey (p : ProgramShape) (k : Classes) (s : StandingShape) (r : RowShape) : Type 0 where
  pub placed : StandingShape
  pub placing : IsPlacedAs p k s placed
  pub row : row_of p placed ≡ r
