use Rattle.std.proofs.Common.{◌≡◌, ◌≤◌}
use Rattle.qs_lane.proofs.tests.take_ends.Given as goal

abbrev pub invariant-loop : goal.invariant-loop
invariant-loop g l = record {
  name : l.inside.name ≡ l.initial.inside.name;
  size : l.inside.size ≡ l.initial.inside.size;
  few : l.taken ≤ l.counter;
}
