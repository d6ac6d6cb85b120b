-- What holds of each element of a list also holds after the list is mapped, joined, cut or filtered, and functions that
-- agree on each element give the same list. Proofs about histories, lanes and machines in many crates stand on these
-- lemmas. Each goes by induction on the list.
use Rattle.std.proofs.Common.{◌≡◌, ◌<◌, ℕ, zero, suc, Bool, true, false, if◌then◌else◌, List, [], ◌∷◌, ◌++◌, length, get_or, map, filter, flat_map, refl, ap₂, arith}
use Rattle.std.specs.List.{AllByRecursion, AllZip}

pub each_map : {X : Type 0} {P Q : X → Type 0} → ((x : X) → P x → Q x) → (xs : List X) → AllByRecursion P xs → AllByRecursion Q xs
each_map f [] h = tt
each_map f (x ∷ xs) h = (f x h.0, each_map f xs h.1)

pub each_both : {X : Type 0} {P Q R : X → Type 0} → ((x : X) → P x → Q x → R x) → (xs : List X) → AllByRecursion P xs → AllByRecursion Q xs → AllByRecursion R xs
each_both f [] h k = tt
each_both f (x ∷ xs) h k = (f x h.0 k.0, each_both f xs h.1 k.1)

pub each_join : {X : Type 0} (P : X → Type 0) → (xs ys : List X) → AllByRecursion P xs → AllByRecursion P ys → AllByRecursion P (xs ++ ys)
each_join P [] ys h k = k
each_join P (x ∷ xs) ys h k = (h.0, each_join P xs ys h.1 k)

pub each_snoc : {X : Type 0} (P : X → Type 0) → (xs : List X) (y : X) → AllByRecursion P xs → P y → AllByRecursion P (xs ++ y ∷ [])
each_snoc P xs y h k = each_join P xs (y ∷ []) h (k, tt)

pub each_front : {X : Type 0} (P : X → Type 0) → (xs ys : List X) → AllByRecursion P (xs ++ ys) → AllByRecursion P xs
each_front P [] ys h = tt
each_front P (x ∷ xs) ys h = (h.0, each_front P xs ys h.1)

pub each_back : {X : Type 0} (P : X → Type 0) → (xs ys : List X) → AllByRecursion P (xs ++ ys) → AllByRecursion P ys
each_back P [] ys h = h
each_back P (x ∷ xs) ys h = each_back P xs ys h.1

pub each_kept : {X : Type 0} (P : X → Type 0) → (f : X → Bool) (xs : List X) → AllByRecursion P xs → AllByRecursion P (filter f xs)
each_kept P f [] h = tt
each_kept P f (x ∷ xs) h = by_case (f x) (each_kept P f xs h.1)
  where
    by_case : (b : Bool) → AllByRecursion P (filter f xs) → AllByRecursion P (if b then x ∷ filter f xs else filter f xs)
    by_case true k = (h.0, k)
    by_case false k = k

pub each_passes : {X : Type 0} (f : X → Bool) (xs : List X) → AllByRecursion (λ x. f x ≡ true) (filter f xs)
each_passes f [] = tt
each_passes f (x ∷ xs) = by_case (f x) refl (each_passes f xs)
  where
    by_case : (b : Bool) → f x ≡ b → AllByRecursion (λ x. f x ≡ true) (filter f xs) → AllByRecursion (λ x. f x ≡ true) (if b then x ∷ filter f xs else filter f xs)
    by_case true e k = (e, k)
    by_case false e k = k

pub every : {X : Type 0} {P : X → Type 0} → ((x : X) → P x) → (xs : List X) → AllByRecursion P xs
every h [] = tt
every h (x ∷ xs) = (h x, every h xs)

pub each_unfiltered : {X : Type 0} (P : X → Type 0) (f : X → Bool) (xs : List X) → AllByRecursion P (filter f xs) → AllByRecursion (λ x. f x ≡ false → P x) xs → AllByRecursion P xs
each_unfiltered P f [] h k = tt
each_unfiltered P f (x ∷ xs) h k = by_case (f x) refl h (each_unfiltered P f xs)
  where
    by_case : (b : Bool) → f x ≡ b → AllByRecursion P (if b then x ∷ filter f xs else filter f xs) → (AllByRecursion P (filter f xs) → AllByRecursion (λ x. f x ≡ false → P x) xs → AllByRecursion P xs) → P x × AllByRecursion P xs
    by_case true e h ih = (h.0, ih h.1 k.1)
    by_case false e h ih = (k.0 e, ih h k.1)

pub map_same : {X Y : Type 0} (f g : X → Y) (xs : List X) → AllByRecursion (λ x. f x ≡ g x) xs → map f xs ≡ map g xs
map_same f g [] h = refl
map_same f g (x ∷ xs) h = ap₂ (λ y ys. y ∷ ys) h.0 (map_same f g xs h.1)

pub flat_map_same : {X Y : Type 0} (f g : X → List Y) → (xs : List X) → AllByRecursion (λ x. f x ≡ g x) xs → flat_map f xs ≡ flat_map g xs
flat_map_same f g [] h = refl
flat_map_same f g (x ∷ xs) h = ap₂ (λ a b. a ++ b) h.0 (flat_map_same f g xs h.1)

pub flat_map_none : {X Y : Type 0} (f : X → List Y) → (xs : List X) → AllByRecursion (λ x. f x ≡ []) xs → flat_map f xs ≡ []
flat_map_none f [] h = refl
flat_map_none f (x ∷ xs) h = ap₂ (λ a b. a ++ b) h.0 (flat_map_none f xs h.1)

-- pairs, place by place
pub zip_at : {X Y : Type 0} (R : X → Y → Type 0) (xs : List X) (ys : List Y) (i : ℕ) (d : X) (e : Y) → AllZip R xs ys → i < length xs → R (get_or xs i d) (get_or ys i e)
zip_at R [] ys i d e h less = absurd (omega (arith, less))
zip_at R (x ∷ xs) [] i d e h less = absurd h
zip_at R (x ∷ xs) (y ∷ ys) zero d e h less = h.0
zip_at R (x ∷ xs) (y ∷ ys) (suc i) d e h less = zip_at R xs ys i d e h.1 (omega (arith, less))
