use Rattle.std.proofs.Common.{◌≡◌, ◌<◌, ℕ, get_or, length}
use Rattle.qs_standings.proofs.Common.{group_of, most_clients}
use Rattle.qs_standings.specs.going.Going.{begun_counts, in_byte}
use Rattle.qs_standings.proofs.going.going.groups.Given as goal

abbrev pub invariant-loop-client : goal.invariant-loop-client
invariant-loop-client l = record {
  each : (c : ℕ) → c < l.client → in_byte (get_or l.sets c 0) ≡ group_of l.program (begun_counts l.begun) c;
  long : length l.sets ≡ most_clients;
}
