-- Lists that are mapped or cut, and a list in which no two agree: whoever agrees with one of them is that one. Each
-- goes by induction on the list.
use Rattle.std.proofs.Common.{◌≡◌, ◌<◌, ℕ, zero, suc, List, [], ◌∷◌, ◌++◌, length, get_or, take, drop, map, flat_map, refl, sym, ap, subst, ◌∙◌, arith, inl, inr, append-nil}
use Rattle.qs_levels.proofs.Common.{AllByRecursion, each_both, each_map, EachTwo, HasOne, map-append, NoTwo, take-append-drop, take-suc}
use Rattle.std.proofs.lemmas.Grind.{flat_map-append}
use Rattle.qs_objects.proofs.Elements.{AllByRecursion-get_or}
use Rattle.qs_outcomes.proofs.Mapped

pub map_snoc : {X Y : Type 0} (f : X → Y) (xs : List X) (x : X) → map f (xs ++ x ∷ []) ≡ map f xs ++ f x ∷ []
map_snoc f xs x = map-append f xs (x ∷ [])

pub flat_map_snoc : {X Y : Type 0} (f : X → List Y) (xs : List X) (x : X) → flat_map f (xs ++ x ∷ []) ≡ flat_map f xs ++ f x
flat_map_snoc f xs x = flat_map-append f xs (x ∷ []) ∙ ap (λ ys. flat_map f xs ++ ys) (append-nil (f x))

pub has_mapped : {X Y : Type 0} (f : X → Y) (P : Y → Type 0) (xs : List X) → HasOne P (map f xs) → HasOne (λ x. P (f x)) xs
has_mapped f P [] h = absurd h
has_mapped f P (x ∷ xs) (inl h) = inl h
has_mapped f P (x ∷ xs) (inr h) = inr (has_mapped f P xs h)

-- each of a list is among it
pub all_among : {X : Type 0} (xs : List X) → AllByRecursion (λ x. HasOne (λ y. y ≡ x) xs) xs
all_among [] = tt
all_among (x ∷ xs) = (inl refl, each_map (λ y h. inr h) xs (all_among xs))

-- where no two agree in f, what holds of one that agrees with another holds of that
pub only_one : {X Y I : Type 0} (f : X → Y) (Q : I → X → Type 0) (xs : List X) → NoTwo (λ x y. f x ≡ f y) xs
    → AllByRecursion (λ x. (i : I) → HasOne (λ y. (f y ≡ f x) × Q i y) xs → Q i x) xs
only_one f Q [] apart = tt
only_one {X = X} {I = I} f Q (x ∷ xs) apart = (here, each_both later xs apart.0 (only_one f Q xs apart.1))
  where
    none : (i : I) (ys : List X) → AllByRecursion (λ y. f x ≡ f y → ⊥) ys → HasOne (λ y. (f y ≡ f x) × Q i y) ys → ⊥
    none i [] other h = h
    none i (y ∷ ys) other (inl h) = other.0 (sym h.0)
    none i (y ∷ ys) other (inr h) = none i ys other.1 h

    here : (i : I) → HasOne (λ y. (f y ≡ f x) × Q i y) (x ∷ xs) → Q i x
    here i (inl h) = h.1
    here i (inr h) = absurd (none i xs apart.0 h)

    later : (z : X) → (f x ≡ f z → ⊥) → ((i : I) → HasOne (λ y. (f y ≡ f z) × Q i y) xs → Q i z) → (i : I) → HasOne (λ y. (f y ≡ f z) × Q i y) (x ∷ xs) → Q i z
    later z other rest i (inl h) = absurd (other h.0)
    later z other rest i (inr h) = rest i h

-- a list cut behind a place
pub cut_at : {X : Type 0} (xs : List X) (i : ℕ) (x : X) → i < length xs → x ≡ get_or xs i x → (take i xs ++ x ∷ []) ++ drop (suc i) xs ≡ xs
cut_at xs i x less is = ap (λ ys. ys ++ drop (suc i) xs) (ap (λ y. take i xs ++ y ∷ []) is ∙ sym (take-suc xs i x less)) ∙ take-append-drop (suc i) xs

pub mapped_has : {X Y : Type 0} (f : X → Y) (P : Y → Type 0) (xs : List X) → HasOne (λ x. P (f x)) xs → HasOne P (map f xs)
mapped_has f P xs h = Mapped.has_mapped P f (λ x h. h) xs h

-- a relation two by two from another one
pub two_of : {X : Type 0} {Q : X → Type 0} (R S : X → X → Type 0) → ((x y : X) → Q x → Q y → R x y → S x y) → (xs : List X) → AllByRecursion Q xs → EachTwo R xs → EachTwo S xs
two_of R S f [] each h = tt
two_of {X = X} {Q = Q} R S f (x ∷ xs) each h = (each_both {P = Q} {Q = R x} {R = S x} (λ y q r. f x y each.0 q r) xs each.1 h.0, two_of R S f xs each.1 h.1)

-- one at a place
pub has_at : {X : Type 0} (P : X → Type 0) (xs : List X) (i : ℕ) (x : X) → i < length xs → x ≡ get_or xs i x → P x → HasOne P xs
has_at P [] i x less is h = absurd (omega (arith, less))
has_at P (y ∷ xs) zero x less is h = inl (subst P is h)
has_at P (y ∷ xs) (suc i) x less is h = inr (has_at P xs i x (omega (arith, less)) is h)

pub each_at : {X : Type 0} (P : X → Type 0) (xs : List X) (i : ℕ) (d : X) → i < length xs → AllByRecursion P xs → P (get_or xs i d)
each_at P xs i d less h = AllByRecursion-get_or P xs i d h less
