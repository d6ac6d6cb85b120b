-- Two lists place by place: what holds of each of the one list, of one, or of each two of it, holds of the other list,
-- too. Each goes by induction on the lists.
use Rattle.std.proofs.Common.{List, [], ◌∷◌, inl, inr}
use Rattle.qs_outcomes.proofs.Common.{AllByRecursion, AllZip, EachTwo, HasOne}

module _ {X Y : Type 0} (R : X → Y → Type 0) where
  pub zip_each : {P : X → Type 0} {Q : Y → Type 0} → ((x : X) (y : Y) → R x y → P x → Q y) → (xs : List X) (ys : List Y) → AllZip R xs ys → AllByRecursion P xs → AllByRecursion Q ys
  zip_each f [] [] h all = tt
  zip_each f (x ∷ xs) (y ∷ ys) h all = (f x y h.0 all.0, zip_each f xs ys h.1 all.1)
  zip_each f _ _ h all = absurd h

  pub zip_has : {P : X → Type 0} {Q : Y → Type 0} → ((x : X) (y : Y) → R x y → P x → Q y) → (xs : List X) (ys : List Y) → AllZip R xs ys → HasOne P xs → HasOne Q ys
  zip_has f [] [] h has = absurd has
  zip_has f (x ∷ xs) (y ∷ ys) h (inl has) = inl (f x y h.0 has)
  zip_has f (x ∷ xs) (y ∷ ys) h (inr has) = inr (zip_has f xs ys h.1 has)
  zip_has f _ _ h has = absurd h

  pub zip_two : {S : X → X → Type 0} {T : Y → Y → Type 0} → ((x : X) (y : Y) (u : X) (v : Y) → R x y → R u v → S x u → T y v) → (xs : List X) (ys : List Y) → AllZip R xs ys → EachTwo S xs → EachTwo T ys
  zip_two f [] [] h all = tt
  zip_two {S = S} {T = T} f (x ∷ xs) (y ∷ ys) h all = (zip_each {P = S x} {Q = T y} (λ u v. f x y u v h.0) xs ys h.1 all.0, zip_two f xs ys h.1 all.1)
  zip_two f _ _ h all = absurd h
