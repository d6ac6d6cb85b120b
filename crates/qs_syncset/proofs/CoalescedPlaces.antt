-- A graph is coalesced where each of its places is, one after another: so a coalesced graph can be made, or be
-- computed, place by place. It goes by induction on the places.
use Rattle.std.proofs.Common.{◌≡◌, ℕ, zero, suc, ◌+◌, ◌<◌, List, [], ◌∷◌, length, refl, sym, ap, subst, arith}
use Rattle.qs_graph.specs.audit.Nodes.{ControlGraph, GraphNode, place_at}
use Rattle.qs_syncset.specs.audit.Coalesced.{IsRemovedIfHeld, IsCoalesced}
use Rattle.qs_syncset.specs.audit.held.Held.{IsHeld}

-- the places from the number m on, one after another
abbrev pub AreCoalesced : ControlGraph → ℕ → (old new : List GraphNode) → Type 0
AreCoalesced g m [] [] = Unit {0}
AreCoalesced g m (p ∷ ps) (q ∷ qs) = IsRemovedIfHeld (IsHeld g m) p.node p q × AreCoalesced g (suc m) ps qs
AreCoalesced g m _ _ = ⊥

same_count : (g : ControlGraph) (m : ℕ) (ps qs : List GraphNode) → AreCoalesced g m ps qs → length qs ≡ length ps
same_count g m [] [] c = refl
same_count g m (p ∷ ps) (q ∷ qs) c = ap suc (same_count g (suc m) ps qs c.1)
same_count g m _ _ c = absurd c

each_place : (g : ControlGraph) (m : ℕ) (ps qs : List GraphNode) → AreCoalesced g m ps qs → (i : ℕ) → i < length ps
    → IsRemovedIfHeld (IsHeld g (m + i)) (place_at ps i).node (place_at ps i) (place_at qs i)
each_place g m [] qs c i inside = absurd (omega arith)
each_place g m (p ∷ ps) [] c i inside = absurd c
each_place g m (p ∷ ps) (q ∷ qs) c zero inside =
    let same : m + 0 ≡ m = omega arith in subst (λ n. IsRemovedIfHeld (IsHeld g n) p.node p q) (sym same) c.0
each_place g m (p ∷ ps) (q ∷ qs) c (suc i) inside =
    let same : suc m + i ≡ m + suc i = omega arith in
    subst (λ n. IsRemovedIfHeld (IsHeld g n) (place_at ps i).node (place_at ps i) (place_at qs i)) same
    (each_place g (suc m) ps qs c.1 i (omega arith))

pub coalesced_one_by_one : (g : ControlGraph) (new : List GraphNode) → AreCoalesced g 0 g.nodes new → IsCoalesced g new
coalesced_one_by_one g new c = record {
  count = same_count g 0 g.nodes new c;
  places = λ n inside.
      subst (λ m. IsRemovedIfHeld (IsHeld g m) (place_at g.nodes n).node (place_at g.nodes n) (place_at new n)) (omega arith)
      (each_place g 0 g.nodes new c n inside);
}
