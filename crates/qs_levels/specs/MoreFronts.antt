-- Where the configurations after some number of blocks are more than a limit.
use Rattle.std.specs.Prelude.{◌≡◌, ◌≤◌, ℕ, suc, List, length}
use Rattle.std.specs.List.{AllByRecursion}
use Rattle.qs_objects.specs.declared.held.Ticket.{Ticket}
use Rattle.qs_program.specs.audit.Program.{ProgramShape}
use Rattle.qs_standings.specs.Standings.{StandingShape}
use Rattle.qs_levels.specs.meaning.Fronts.{AreDistinct, IsAfter}

-- After some number of blocks, of so many at most, there are more configurations than the limit: one more, no two of
-- them the same, each with an order that goes on from the front by that number of blocks.
pub record HasMoreFronts (p : ProgramShape) (front : List Ticket) (blocks limit : ℕ) : Type 0 where
  pub done : ℕ
  pub within : done ≤ blocks
  pub fronts : List StandingShape
  pub count : length fronts ≡ suc limit
  pub each : AllByRecursion (IsAfter p front done) fronts
  pub different : AreDistinct fronts
