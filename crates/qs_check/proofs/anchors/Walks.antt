-- The anchors that a walk has not come to yet.
use Rattle.std.proofs.Common.{◌≡◌, ℕ, ◌+◌, List, ◌∷◌, ◌++◌, length, drop, ap, sym, ◌∙◌, drop-drop, drop_at}
use Rattle.qs_check.specs.declared.anchors.anchor.Anchor.{Anchor}

-- after the first of the anchors that were added at the end
pub after_first : (old new ms : List Anchor) (x : Anchor) (n : ℕ) → n ≡ length old → new ≡ old ++ x ∷ ms → drop (n + 1) new ≡ ms
after_first old new ms x n h k = ap (drop (n + 1)) k ∙ sym (drop-drop 1 n (old ++ x ∷ ms)) ∙ ap (drop 1) (drop_at old (x ∷ ms) n (sym h))
