use Rattle.std.proofs.Common.{◌≡◌, ◌≤◌}
use Rattle.qs_meaning.specs.Reduced.{many_below}
use Rattle.qs_standings.specs.going.Going.{in_byte}
use Rattle.qs_standings.proofs.going.going.size.Given as goal

abbrev pub invariant-loop-client : goal.invariant-loop-client
invariant-loop-client l = record { count : l.count ≡ many_below l.client (in_byte l.set); few : l.count ≤ l.client }
