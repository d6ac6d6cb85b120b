-- The objects of the handlers so far are there, and there is room for the rest.
use Rattle.std.proofs.Common.{◌≤◌}
use Rattle.std.specs.Prelude.{vec_capacity}
use Rattle.qs_run.specs.Workers.{IsListOf, IsObjectAtStart}
use Rattle.qs_run.proofs.prepare.parts.make_helds.Given as goal

abbrev pub invariant-loop-object : goal.invariant-loop-object
invariant-loop-object l = record {
  helds : IsListOf l.object (IsObjectAtStart l.program) l.helds.items;
  room : l.count ≤ vec_capacity l.helds;
}
