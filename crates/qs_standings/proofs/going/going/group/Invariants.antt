use Rattle.std.proofs.Common.{◌≡◌, ◌==◌}
use Rattle.qs_meaning.specs.Reduced.{widened}
use Rattle.qs_standings.specs.going.Going.{begun_counts, in_byte}
use Rattle.qs_standings.proofs.going.going.group.Given as goal

abbrev pub invariant-loop-round : goal.invariant-loop-round
invariant-loop-round l = in_byte l.set ≡ widened l.program (begun_counts l.begun) l._round (λ d. l.client == d)
