use Rattle.std.proofs.Common.{◌≡◌, ◌≤◌, false}
use Rattle.qs_chunk.specs.audit.Lanes.{is_asked}
use Rattle.qs_lane.proofs.tests.send_ends.Given as goal

abbrev pub invariant-loop : goal.invariant-loop
invariant-loop g l = record {
  name : l.out.name ≡ l.initial.out.name;
  size : l.out.size ≡ l.initial.out.size;
  quiet : is_asked false l.out.sent ≡ false;
  few : l.sent ≤ l.counter;
}
