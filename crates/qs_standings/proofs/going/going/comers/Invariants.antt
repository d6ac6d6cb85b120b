use Rattle.std.proofs.Common.{◌≡◌, ℕ, take}
use Rattle.qs_standings.proofs.Common.{list_any, still_reserves}
use Rattle.qs_standings.specs.going.Going.{begun_counts, in_byte}
use Rattle.qs_standings.proofs.going.going.comers.Given as goal

abbrev pub invariant-loop-object : goal.invariant-loop-object
invariant-loop-object l =
    (d : ℕ) → in_byte l.set d ≡ list_any (still_reserves l.program (begun_counts l.begun) d) (take l.object-index l.reserved)
