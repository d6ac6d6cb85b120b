use Rattle.std.proofs.Common.{ℕ, ◌<◌}
use Rattle.qs_played.specs.twin.Twins.{StartsAlike}
use Rattle.qs_played.proofs.twin.starts.is_alike_to_each.Given as goal

abbrev pub invariant-loop-other : goal.invariant-loop-other
invariant-loop-other l =
    (g : ℕ) → g < l.other
    → StartsAlike l.here.program.now l.here.played.now l.here.place l.there.program.now l.there.played.now l.there.place l.object g
