use Rattle.std.proofs.Common.{◌≡◌, ℕ, ◌&&◌, ◌||◌}
use Rattle.qs_meaning.specs.Reduced.{comes_in, some_below}
use Rattle.qs_standings.specs.going.Going.{begun_counts, in_byte}
use Rattle.qs_standings.proofs.going.going.wider.Given as goal

abbrev pub invariant-loop-client : goal.invariant-loop-client
invariant-loop-client l =
    (d : ℕ) → in_byte l.all d ≡ (in_byte l.set d || some_below l.client (λ c. in_byte l.set c && comes_in l.program (begun_counts l.begun) c d))
