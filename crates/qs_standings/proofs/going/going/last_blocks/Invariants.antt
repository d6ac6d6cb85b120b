use Rattle.std.proofs.Common.{◌≡◌, ◌<◌, ℕ, length, [], slice_index_or}
use Rattle.qs_standings.specs.going.Going.{IsLast}
use Rattle.qs_standings.proofs.going.going.last_blocks.Given as goal

abbrev pub invariant-loop-client : goal.invariant-loop-client
invariant-loop-client l = record {
  count : length l.rows.items ≡ l.client;
  each : (c : ℕ) → c < l.client → IsLast l.program c (slice_index_or l.rows.items c []);
}
