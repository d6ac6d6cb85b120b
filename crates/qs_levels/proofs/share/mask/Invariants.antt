use Rattle.qs_levels.proofs.Common.{◌≡◌, ◌+◌, ◌%◌, ◌==◌, ◌&&◌, ℕ, nat_lt, in_byte, weight}
use Rattle.qs_levels.proofs.share.mask.Given as goal

abbrev pub invariant-loop-client : goal.invariant-loop-client
invariant-loop-client l = (c : ℕ) → in_byte l.set c ≡ (nat_lt c l.client && ((l.from + weight c) % l.share.count == l.share.number))
