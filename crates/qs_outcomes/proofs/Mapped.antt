-- What one, all or each two of a list have is had after each element was changed, or became a list. Each goes by
-- induction on the list.
use Rattle.std.proofs.Common.{List, [], ◌∷◌, map, flat_map, inl, inr}
use Rattle.qs_outcomes.proofs.Common.{AllByRecursion, EachTwo, has_back, has_front, HasOne}

pub has_mapped : {X Y : Type 0} {P : X → Type 0} (Q : Y → Type 0) (f : X → Y) → ((x : X) → P x → Q (f x)) → (xs : List X) → HasOne P xs → HasOne Q (map f xs)
has_mapped Q f on [] h = absurd h
has_mapped Q f on (x ∷ xs) (inl p) = inl (on x p)
has_mapped Q f on (x ∷ xs) (inr h) = inr (has_mapped Q f on xs h)

pub has_flat : {X Y : Type 0} {P : X → Type 0} (Q : Y → Type 0) (f : X → List Y) → ((x : X) → P x → HasOne Q (f x)) → (xs : List X) → HasOne P xs → HasOne Q (flat_map f xs)
has_flat Q f each [] h = absurd h
has_flat Q f each (x ∷ xs) (inl p) = has_front Q (f x) (flat_map f xs) (each x p)
has_flat Q f each (x ∷ xs) (inr h) = has_back Q (f x) (flat_map f xs) (has_flat Q f each xs h)

pub each_mapped : {X Y : Type 0} {P : X → Type 0} (Q : Y → Type 0) (f : X → Y) → ((x : X) → P x → Q (f x)) → (xs : List X) → AllByRecursion P xs → AllByRecursion Q (map f xs)
each_mapped Q f on [] h = tt
each_mapped Q f on (x ∷ xs) h = (on x h.0, each_mapped Q f on xs h.1)

pub two_mapped : {X Y : Type 0} (R : X → X → Type 0) (S : Y → Y → Type 0) (f : X → Y) → ((x y : X) → R x y → S (f x) (f y)) → (xs : List X) → EachTwo R xs → EachTwo S (map f xs)
two_mapped R S f on [] h = tt
two_mapped R S f on (x ∷ xs) h = (each_mapped (S (f x)) f (on x) xs h.0, two_mapped R S f on xs h.1)
