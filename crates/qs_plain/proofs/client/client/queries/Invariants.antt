use Rattle.std.proofs.Common.{◌≡◌, ◌≤◌, take}
use Rattle.qs_played.specs.audit.Schedule.{queries_in}
use Rattle.qs_plain.proofs.client.client.queries.Given as goal

abbrev pub invariant-loop-event : goal.invariant-loop-event
invariant-loop-event l = record {
  value : l.queries ≡ queries_in (take l.event-index l.events);
  limit : l.queries ≤ l.event-index;
}
