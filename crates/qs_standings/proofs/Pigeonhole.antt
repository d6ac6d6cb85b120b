-- The pigeonhole: a list, no two elements of which are related, has at most as many elements as another one, where each
-- is tied to one of the other, and two that are tied to the same one are related. It takes out of the other list what
-- the first element is tied to; all others are tied to what is left.
use Rattle.std.proofs.Common.{◌≡◌, suc, ◌≤◌, List, [], ◌∷◌, length, refl, ap, arith, ◌⊎◌, inl, inr}
use Rattle.qs_standings.proofs.Common.{AllByRecursion, each_both}
use Rattle.qs_standings.specs.Lists.{HasOne, NoTwo}

module _ {X Z : Type 0} (R : X → Z → Type 0) (S : X → X → Type 0) (same : (x y : X) (z : Z) → R x z → R y z → S x y) where
  -- the rest of a list, in which all are tied that are not related to this one
  take_out : (x : X) (zs : List Z) → HasOne (R x) zs → (rest : List Z) × (suc (length rest) ≡ length zs) × ((y : X) → HasOne (R y) zs → S x y ⊎ HasOne (R y) rest)
  take_out x [] h = absurd h
  take_out x (z ∷ zs) (inl h) = (zs, refl, λ y k. elim k [ inl r ↦ inl (same x y z h r) | inr r ↦ inr r ])
  take_out x (z ∷ zs) (inr h) =
      let t = take_out x zs h in (
        z ∷ t.0,
        ap suc t.1,
        λ y k. elim k [
          | inl r ↦ inr (inl r)
          | inr r ↦ elim (t.2 y r) [ inl s ↦ inl s | inr q ↦ inr (inr q) ]
        ],
      )

  pub at_most : (xs : List X) (zs : List Z) → NoTwo S xs → AllByRecursion (λ x. HasOne (R x) zs) xs → length xs ≤ length zs
  at_most [] zs apart each = omega arith
  at_most (x ∷ xs) zs apart each =
      let t = take_out x zs each.0 in
      let fewer : length xs ≤ length t.0 =
      at_most xs t.0 apart.1 (each_both (λ y (not : S x y → ⊥) (has : HasOne (R y) zs). elim (t.2 y has) [ inl s ↦ absurd (not s) | inr q ↦ q ]) xs apart.0 each.1) in
      let long = t.1 in omega (arith, fewer, long)
