-- What is gone from `rest` was appended, and nothing new has failed.
use Rattle.std.proofs.Common.{◌≡◌, ℕ, List, ◌++◌, length}
use Rattle.std.specs.Io.KnownBytes.{Appends}
use Rattle.qs_text.proofs.watching.write_text.Given as goal

abbrev pub invariant-loop-rest : goal.invariant-loop-rest
invariant-loop-rest g l = (done : List ℕ) × (l.initial.rest ≡ done ++ l.rest)
    × Appends (g.W.Write.contents l.initial.out) (g.W.Write.contents l.out) done × (l.watch.has_failed ≡ l.initial.watch.has_failed)

abbrev pub decreases-loop-rest : goal.decreases-loop-rest
decreases-loop-rest g l = length l.rest
