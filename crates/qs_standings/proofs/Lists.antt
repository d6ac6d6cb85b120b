-- One of a list has a property, and no two of a list are related: what becomes of that where lists grow or lose their
-- last element, and lists that agree place by place. The search keeps such facts of what it has seen and found. Each
-- goes by induction on the list.
use Rattle.std.proofs.Common.{◌≡◌, ℕ, List, [], ◌∷◌, ◌++◌, length, get_or, ◌⊎◌, inl, inr}
use Rattle.qs_standings.proofs.Common.{AllByRecursion, each_back, each_front, each_join, each_map, ext_get_or}
use Rattle.qs_standings.specs.Lists.{EachTwo, HasOne, NoTwo}

pub has_map : {X : Type 0} {P Q : X → Type 0} → ((x : X) → P x → Q x) → (xs : List X) → HasOne P xs → HasOne Q xs
has_map f [] h = absurd h
has_map f (x ∷ xs) (inl h) = inl (f x h)
has_map f (x ∷ xs) (inr h) = inr (has_map f xs h)

pub has_front : {X : Type 0} (P : X → Type 0) (xs ys : List X) → HasOne P xs → HasOne P (xs ++ ys)
has_front P [] ys h = absurd h
has_front P (x ∷ xs) ys (inl h) = inl h
has_front P (x ∷ xs) ys (inr h) = inr (has_front P xs ys h)

pub has_back : {X : Type 0} (P : X → Type 0) (xs ys : List X) → HasOne P ys → HasOne P (xs ++ ys)
has_back P [] ys h = h
has_back P (x ∷ xs) ys h = inr (has_back P xs ys h)

pub has_either : {X : Type 0} (P : X → Type 0) (xs ys : List X) → HasOne P (xs ++ ys) → HasOne P xs ⊎ HasOne P ys
has_either P [] ys h = inr h
has_either P (x ∷ xs) ys (inl h) = inl (inl h)
has_either P (x ∷ xs) ys (inr h) = elim (has_either P xs ys h) [ inl a ↦ inl (inr a) | inr b ↦ inr b ]

-- what all have, one has, too
pub has_of : {X : Type 0} {P Q R : X → Type 0} → ((x : X) → P x → Q x → R x) → (xs : List X) → HasOne P xs → AllByRecursion Q xs → HasOne R xs
has_of f [] h each = absurd h
has_of f (x ∷ xs) (inl h) each = inl (f x h each.0)
has_of f (x ∷ xs) (inr h) each = inr (has_of f xs h each.1)

-- and what follows of one follows
pub has_some : {X : Type 0} {P Q : X → Type 0} {A : Type 0} → ((x : X) → P x → Q x → A) → (xs : List X) → HasOne P xs → AllByRecursion Q xs → A
has_some f [] h each = absurd h
has_some f (x ∷ xs) (inl h) each = f x h each.0
has_some f (x ∷ xs) (inr h) each = has_some f xs h each.1

pub has_only : {X : Type 0} (P : X → Type 0) (x : X) → HasOne P (x ∷ []) → P x
has_only P x (inl h) = h
has_only P x (inr h) = absurd h

pub pairs_front : {X : Type 0} (R : X → X → Type 0) (xs ys : List X) → EachTwo R (xs ++ ys) → EachTwo R xs
pairs_front R [] ys h = tt
pairs_front R (x ∷ xs) ys h = (each_front (R x) xs ys h.0, pairs_front R xs ys h.1)

pub pairs_last : {X : Type 0} (R : X → X → Type 0) (xs : List X) (y : X) → EachTwo R (xs ++ y ∷ []) → AllByRecursion (λ x. R x y) xs
pairs_last R [] y h = tt
pairs_last R (x ∷ xs) y h = ((each_back (R x) xs (y ∷ []) h.0).0, pairs_last R xs y h.1)

pub pairs_join : {X : Type 0} (R : X → X → Type 0) (xs ys : List X) → EachTwo R xs → EachTwo R ys → AllByRecursion (λ x. AllByRecursion (R x) ys) xs → EachTwo R (xs ++ ys)
pairs_join R [] ys h k all = k
pairs_join R (x ∷ xs) ys h k all = (each_join (R x) xs ys h.0 all.0, pairs_join R xs ys h.1 k all.1)

pub two_snoc : {X : Type 0} (R : X → X → Type 0) (xs : List X) (y : X) → NoTwo R xs → AllByRecursion (λ x. R x y → ⊥) xs → NoTwo R (xs ++ y ∷ [])
two_snoc R xs y apart each = pairs_join (λ a b. R a b → ⊥) xs (y ∷ []) apart (tt, tt) (each_map (λ x other. (other, tt)) xs each)

pub none_of : {X : Type 0} (P : X → Type 0) (xs : List X) → (HasOne P xs → ⊥) → AllByRecursion (λ x. P x → ⊥) xs
none_of P [] h = tt
none_of P (x ∷ xs) h = (λ p. h (inl p), none_of P xs (λ p. h (inr p)))

pub same_list : {X : Type 0} (d : X) (xs ys : List X) → length xs ≡ length ys → ((i : ℕ) → get_or xs i d ≡ get_or ys i d) → xs ≡ ys
same_list d xs ys long each = ext_get_or d xs ys long (λ i less. each i)
