use Rattle.qs_levels.proofs.Common.{◌≡◌, ◌<◌, ◌+◌, ◌%◌, ◌==◌, ℕ, length, slice_index_or, in_byte, most_clients, weight}
use Rattle.qs_levels.proofs.share.masks.Given as goal

abbrev pub invariant-loop-from : goal.invariant-loop-from
invariant-loop-from l = record {
  long : length l.masks.items ≡ l.from;
  each : (r c : ℕ) → r < l.from → c < most_clients → in_byte (slice_index_or l.masks.items r 0) c ≡ ((r + weight c) % l.share.count == l.share.number);
}
