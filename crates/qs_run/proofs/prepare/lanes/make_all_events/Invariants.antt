-- Each handler so far has an event count, and there is room for the rest.
use Rattle.std.proofs.Common.{◌≡◌, ◌≤◌, length}
use Rattle.std.specs.Prelude.{vec_capacity}
use Rattle.qs_run.proofs.prepare.lanes.make_all_events.Given as goal

abbrev pub invariant-loop-handler : goal.invariant-loop-handler
invariant-loop-handler l = record {
  many : length l.events.items ≡ l._handler;
  room : 8 ≤ vec_capacity l.events;
}
