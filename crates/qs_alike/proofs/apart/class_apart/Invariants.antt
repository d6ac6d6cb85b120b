use Rattle.std.proofs.Common.{◌≡◌, ◌<◌, ℕ, false}
use Rattle.qs_objects.specs.ByteSets.{in_byte}
use Rattle.qs_alike.specs.Texts.{classes_in}
use Rattle.qs_alike.proofs.apart.class_apart.Given as goal

abbrev pub invariant-loop-earlier : goal.invariant-loop-earlier
invariant-loop-earlier l =
    (d : ℕ) → d < l.earlier → in_byte l.apart d ≡ false → classes_in l.classes d ≡ classes_in l.classes l.client → ⊥
