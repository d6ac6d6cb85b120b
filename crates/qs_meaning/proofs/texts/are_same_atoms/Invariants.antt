use Rattle.std.proofs.Common.{drop}
use Rattle.qs_meaning.proofs.Common.{AllZip}
use Rattle.qs_meaning.specs.Alike.{SameAtom}
use Rattle.qs_meaning.proofs.texts.are_same_atoms.Given as goal

abbrev pub invariant-loop-place : goal.invariant-loop-place
invariant-loop-place g l =
    AllZip (SameAtom (g.M.Matching.Objects l.matching) (g.M.Matching.Variables l.matching)) (drop l.place l.here) (drop l.place l.there)
    → AllZip (SameAtom (g.M.Matching.Objects l.matching) (g.M.Matching.Variables l.matching)) l.here l.there
