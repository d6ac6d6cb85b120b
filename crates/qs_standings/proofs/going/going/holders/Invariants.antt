use Rattle.std.proofs.Common.{◌≡◌, ℕ, ◌&&◌, nat_lt}
use Rattle.qs_meaning.specs.Reduced.{still_reserves}
use Rattle.qs_standings.specs.going.Going.{begun_counts, in_byte}
use Rattle.qs_standings.proofs.going.going.holders.Given as goal

abbrev pub invariant-loop-client : goal.invariant-loop-client
invariant-loop-client l = (c : ℕ) → in_byte l.set c ≡ (nat_lt c l.client && still_reserves l.program (begun_counts l.begun) c l.object)
