-- All pairs of two lists: how many there are, that each has what its two parts have, and that no two of them are
-- related where no two of their parts are. Each goes by induction on the first list.
use Rattle.std.proofs.Common.{◌≡◌, ◌*◌, List, [], ◌∷◌, ◌++◌, length, map, refl, arith, inl, inr, length-append}
use Rattle.qs_outcomes.proofs.Common.{AllByRecursion, each_join, each_map, EachTwo, every, has_back, has_front, HasOne, length-map, NoTwo, pairs_join}
use Rattle.qs_outcomes.proofs.Mapped.{each_mapped, has_mapped, two_mapped}

abbrev pub pairs : {X Y : Type 0} → List X → List Y → List (X × Y)
pairs [] ys = []
pairs (x ∷ xs) ys = map (λ y. (x, y)) ys ++ pairs xs ys

pub long_pairs : {X Y : Type 0} (xs : List X) (ys : List Y) → length (pairs xs ys) ≡ length xs * length ys
long_pairs [] ys = omega arith
long_pairs {X} {Y} (x ∷ xs) ys =
    let rest = long_pairs xs ys in
    omega (arith, rest, length-append (map (λ y. (x, y)) ys) (pairs xs ys), length-map {B = X × Y} ys (λ y. (x, y)))

pub each_pairs : {X Y : Type 0} (P : X → Type 0) (Q : Y → Type 0) (xs : List X) (ys : List Y) → AllByRecursion P xs → AllByRecursion Q ys
    → AllByRecursion (λ (w : X × Y). P w.0 × Q w.1) (pairs xs ys)
each_pairs P Q [] ys h k = tt
each_pairs {X} {Y} P Q (x ∷ xs) ys h k =
    each_join (λ (w : X × Y). P w.0 × Q w.1) (map (λ y. (x, y)) ys) (pairs xs ys)
    (each_mapped (λ (w : X × Y). P w.0 × Q w.1) (λ y. (x, y)) (λ y (q : Q y). (h.0, q)) ys k)
    (each_pairs P Q xs ys h.1 k)

-- one of the first list, and one of the second that goes with it
pub has_pairs : {X Y : Type 0} (P : X → Type 0) (Q : X → Y → Type 0) (xs : List X) (ys : List Y) → ((x : X) → P x → HasOne (Q x) ys) → HasOne P xs
    → HasOne (λ (w : X × Y). P w.0 × Q w.0 w.1) (pairs xs ys)
has_pairs P Q [] ys f h = absurd h
has_pairs {X} {Y} P Q (x ∷ xs) ys f (inl h) =
    has_front (λ (w : X × Y). P w.0 × Q w.0 w.1) (map (λ y. (x, y)) ys) (pairs xs ys)
    (has_mapped (λ (w : X × Y). P w.0 × Q w.0 w.1) (λ y. (x, y)) (λ y (q : Q x y). (h, q)) ys (f x h))
has_pairs {X} {Y} P Q (x ∷ xs) ys f (inr h) =
    has_back (λ (w : X × Y). P w.0 × Q w.0 w.1) (map (λ y. (x, y)) ys) (pairs xs ys) (has_pairs P Q xs ys f h)

firsts : {X Y : Type 0} (P : X → Type 0) (xs : List X) (ys : List Y) → AllByRecursion P xs → AllByRecursion (λ (w : X × Y). P w.0) (pairs xs ys)
firsts P [] ys h = tt
firsts {X} {Y} P (x ∷ xs) ys h =
    each_join (λ (w : X × Y). P w.0) (map (λ y. (x, y)) ys) (pairs xs ys)
    (each_mapped {P = λ y. P x} (λ (w : X × Y). P w.0) (λ y. (x, y)) (λ y q. q) ys (every (λ y. h.0) ys)) (firsts P xs ys h.1)

-- no two pairs are related where their firsts are not, nor their seconds where the first is the same
pub two_pairs : {X Y : Type 0} (T : X × Y → X × Y → Type 0) (U : X → X → Type 0) (V : Y → Y → Type 0)
    → ((x z : X) (y w : Y) → T (x, y) (z, w) → U x z) → ((x : X) (y w : Y) → T (x, y) (x, w) → V y w)
    → (xs : List X) (ys : List Y) → NoTwo U xs → NoTwo V ys → NoTwo T (pairs xs ys)
two_pairs T U V first second [] ys h k = tt
two_pairs {X} {Y} T U V first second (x ∷ xs) ys h k =
    pairs_join (λ a b. T a b → ⊥) (map (λ y. (x, y)) ys) (pairs xs ys)
    (two_mapped (λ y w. V y w → ⊥) (λ a b. T a b → ⊥) (λ y. (x, y)) (λ y w not t. not (second x y w t)) ys k)
    (two_pairs T U V first second xs ys h.1 k)
    (each_mapped {P = λ y. AllByRecursion (λ b. T (x, y) b → ⊥) (pairs xs ys)} (λ a. AllByRecursion (λ b. T a b → ⊥) (pairs xs ys)) (λ y. (x, y)) (λ y q. q) ys
    (every (λ z. each_map {Q = λ b. T (x, z) b → ⊥} (λ (b : X × Y) (not : U x b.0 → ⊥) t. not (first x b.0 z b.1 t)) (pairs xs ys) (firsts (λ c. U x c → ⊥) xs ys h.0)) ys))

-- each of a list with what is known of it
module _ {X : Type 0} (P : X → Type 0) where
  abbrev pub known : (xs : List X) → AllByRecursion P xs → List ((x : X) × P x)
  known [] h = []
  known (x ∷ xs) h = (x, h.0) ∷ known xs h.1

  pub long_known : (xs : List X) (h : AllByRecursion P xs) → length (known xs h) ≡ length xs
  long_known [] h = refl
  long_known (x ∷ xs) h = let rest = long_known xs h.1 in omega (arith, rest)

  pub has_known : (Q : X → Type 0) (xs : List X) (h : AllByRecursion P xs) → HasOne Q xs → HasOne (λ (w : (x : X) × P x). Q w.0) (known xs h)
  has_known Q [] h q = absurd q
  has_known Q (x ∷ xs) h (inl q) = inl q
  has_known Q (x ∷ xs) h (inr q) = inr (has_known Q xs h.1 q)

  each_known : (Q : X → Type 0) (xs : List X) (h : AllByRecursion P xs) → AllByRecursion Q xs → AllByRecursion (λ (w : (x : X) × P x). Q w.0) (known xs h)
  each_known Q [] h q = tt
  each_known Q (x ∷ xs) h q = (q.0, each_known Q xs h.1 q.1)

  pub two_known : (R : X → X → Type 0) (xs : List X) (h : AllByRecursion P xs) → EachTwo R xs → EachTwo (λ (w z : (x : X) × P x). R w.0 z.0) (known xs h)
  two_known R [] h t = tt
  two_known R (x ∷ xs) h t = (each_known (R x) xs h.1 t.0, two_known R xs h.1 t.1)
