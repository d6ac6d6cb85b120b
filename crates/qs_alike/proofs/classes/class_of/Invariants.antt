use Rattle.std.proofs.Common.{◌<◌, ℕ}
use Rattle.qs_alike.specs.Changes.{HaveSameText}
use Rattle.qs_alike.proofs.classes.class_of.Given as goal

abbrev pub invariant-loop-earlier : goal.invariant-loop-earlier
invariant-loop-earlier l = (d : ℕ) → d < l.earlier → HaveSameText l.program d l.client → ⊥
