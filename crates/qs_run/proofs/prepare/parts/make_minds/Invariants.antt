-- The minds of the clients so far are there, and there is room for the rest.
use Rattle.std.proofs.Common.{◌≤◌}
use Rattle.std.specs.Prelude.{vec_capacity}
use Rattle.qs_run.specs.Workers.{IsListOf, IsMindAtStart}
use Rattle.qs_run.proofs.prepare.parts.make_minds.Given as goal

abbrev pub invariant-loop-client : goal.invariant-loop-client
invariant-loop-client l = record {
  minds : IsListOf l.client (IsMindAtStart l.program l.mode l.size) l.minds.items;
  room : l.count ≤ vec_capacity l.minds;
}
