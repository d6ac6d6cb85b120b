use Rattle.std.proofs.Common.{ℕ, ◌<◌}
use Rattle.qs_played.specs.twin.Twins.{StartsAlike}
use Rattle.qs_played.proofs.twin.starts.are_starts_alike.Given as goal

abbrev pub invariant-loop-object : goal.invariant-loop-object
invariant-loop-object l =
    (h : ℕ) → h < l.object
    → (g : ℕ) → StartsAlike l.here.program.now l.here.played.now l.here.place l.there.program.now l.there.played.now l.there.place h g
