-- Elements by their places, in a list that grows or is written at a place, and two lists place by place. What a count
-- keeps is said by places, so each step of it stands on these. Each goes by induction on the list.
use Rattle.std.proofs.Common.{◌≡◌, ◌+◌, ℕ, zero, suc, Bool, cond, Some, List, [], ◌∷◌, ◌++◌, length, take, slice_get, slice_set, refl, ap, ◌∙◌, subst, ◌⊎◌, inl, inr, length-append, filter}
use Rattle.std.specs.List.{AllByRecursion, AllZip}
use Rattle.qs_standings.specs.Lists.{EachTwo}
use Rattle.std.proofs.lemmas.List.Elements.{filter-append}

pub get_front : {X : Type 0} (xs ys : List X) (k : ℕ) (x : X) → slice_get xs k ≡ Some x → slice_get (xs ++ ys) k ≡ Some x
get_front [] ys k x e = absurd (cc)
get_front (z ∷ zs) ys zero x e = e
get_front (z ∷ zs) ys (suc k) x e = get_front zs ys k x e

pub get_snoc : {X : Type 0} (xs : List X) (y : X) (k : ℕ) (x : X) → slice_get (xs ++ y ∷ []) k ≡ Some x → (slice_get xs k ≡ Some x) ⊎ ((k ≡ length xs) × (x ≡ y))
get_snoc [] y zero x e = inr (refl, cc)
get_snoc [] y (suc k) x e = absurd (cc)
get_snoc (z ∷ zs) y zero x e = inl e
get_snoc (z ∷ zs) y (suc k) x e = elim (get_snoc zs y k x e) [ inl h ↦ inl h | inr h ↦ inr (ap suc h.0, h.1) ]

pub get_set_same : {X : Type 0} (xs : List X) (k : ℕ) (x y : X) → slice_get xs k ≡ Some x → slice_get (slice_set xs k y) k ≡ Some y
get_set_same [] k x y e = absurd (cc)
get_set_same (z ∷ zs) zero x y e = refl
get_set_same (z ∷ zs) (suc k) x y e = get_set_same zs k x y e

pub get_set_other : {X : Type 0} (xs : List X) (k j : ℕ) (y : X) → (j ≡ k → ⊥) → slice_get (slice_set xs k y) j ≡ slice_get xs j
get_set_other (z ∷ zs) zero zero y other = absurd (other refl)
get_set_other (z ∷ zs) (suc k) (suc j) y other = get_set_other zs k j y (λ e. other (ap suc e))
get_set_other _ _ _ y other = refl

pub each_at : {X : Type 0} (P : X → Type 0) (xs : List X) (i : ℕ) (x : X) → slice_get xs i ≡ Some x → AllByRecursion P xs → P x
each_at P [] i x e all = absurd (cc)
each_at P (y ∷ ys) zero x e all = subst P (let is : y ≡ x = cc in is) all.0
each_at P (y ∷ ys) (suc i) x e all = each_at P ys i x e all.1

pub each_by : {X : Type 0} (P : X → Type 0) (xs : List X) → ((k : ℕ) (x : X) → slice_get xs k ≡ Some x → P x) → AllByRecursion P xs
each_by P [] h = tt
each_by P (x ∷ xs) h = (h 0 x refl, each_by P xs (λ k y e. h (suc k) y e))

-- what is related two by two: those before a place with the one there
pub before_at : {X : Type 0} (R : X → X → Type 0) (xs : List X) (i : ℕ) (y : X) → slice_get xs i ≡ Some y → EachTwo R xs → AllByRecursion (λ x. R x y) (take i xs)
before_at R [] i y e h = absurd (cc)
before_at R (x ∷ xs) zero y e h = tt
before_at R (x ∷ xs) (suc i) y e h = (each_at (R x) xs i y e h.0, before_at R xs i y e h.1)

pub take_one : {X : Type 0} (xs : List X) (i : ℕ) (x : X) → slice_get xs i ≡ Some x → take (suc i) xs ≡ take i xs ++ x ∷ []
take_one [] i x e = absurd (cc)
take_one (y ∷ ys) zero x e = ap (λ z. z ∷ []) (let is : y ≡ x = cc in is)
take_one (y ∷ ys) (suc i) x e = ap (λ zs. y ∷ zs) (take_one ys i x e)

-- how many pass a test, with one more behind them
pub one_more : {X : Type 0} (f : X → Bool) (xs : List X) (y : X) (b : Bool) → f y ≡ b → length (filter f (xs ++ y ∷ [])) ≡ length (filter f xs) + length (cond b (y ∷ []) [])
one_more f xs y b e =
    ap length (filter-append f xs (y ∷ [])) ∙ length-append (filter f xs) (filter f (y ∷ []))
    ∙ ap (λ c. length (filter f xs) + length (cond c (y ∷ []) [])) e

-- two lists

pub zip_map : {X Y : Type 0} {R S : X → Y → Type 0} → ((x : X) (y : Y) → R x y → S x y) → (xs : List X) (ys : List Y) → AllZip R xs ys → AllZip S xs ys
zip_map f [] [] h = tt
zip_map f (x ∷ xs) (y ∷ ys) h = (f x y h.0, zip_map f xs ys h.1)
zip_map f _ _ h = absurd h

pub zip_at : {X Y : Type 0} (R : X → Y → Type 0) (xs : List X) (ys : List Y) (k : ℕ) (y : Y) → AllZip R xs ys → slice_get ys k ≡ Some y → (x : X) × (slice_get xs k ≡ Some x) × R x y
zip_at R [] [] k y h e = absurd (cc)
zip_at R (u ∷ us) (v ∷ vs) zero y h e = (u, refl, subst (R u) (let is : v ≡ y = cc in is) h.0)
zip_at R (u ∷ us) (v ∷ vs) (suc k) y h e = zip_at R us vs k y h.1 e
zip_at R _ _ k y h e = absurd h
