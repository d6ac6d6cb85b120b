use Rattle.std.proofs.Common.{◌<◌, ℕ}
use Rattle.qs_alike.specs.Texts.{classes_in}
use Rattle.qs_alike.proofs.Following.{IsLikeAt}
use Rattle.qs_alike.proofs.followed.goes_on_up_to.Given as goal

abbrev pub invariant-loop-place : goal.invariant-loop-place
invariant-loop-place l = (i : ℕ) → i < l.place → IsLikeAt (classes_in l.classes) l.standing l.placed l.goes l.client i → ⊥
