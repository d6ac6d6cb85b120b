-- What is at the places of lists. The contracts of this crate say of all handlers, or of all clients, what holds at
-- each place of a list, and the loops go through lists from the front, push to the end, or change one place after
-- another. These lemmas say how each such step changes what holds at the places; they know nothing of workers.
use Rattle.std.proofs.Common.{◌≡◌, ◌<◌, ◌≤◌, ◌+◌, ℕ, zero, suc, List, [], ◌∷◌, ◌++◌, Option, Some, None, length, map, drop, get_or, slice_get, slice_set, true≢false, refl, sym, ap, ap₂, ◌∙◌, subst, arith, add-one, rules}
use Rattle.qs_run.proofs.Names.{AllByRecursion, AllZip, IsListOf, IsSome, length_push, none-some, option_map, same_Some, slice_get-map, slice_get_read}

-- what holds of each member holds of the member at a place
pub all_at : {X : Type 0} (P : X → Type 0) (xs : List X) (i : ℕ) (x : X) → AllByRecursion P xs → slice_get xs i ≡ Some x → P x
all_at P [] i x all e = cc
all_at P (y ∷ ys) zero x all e = let same : y ≡ x = cc in subst P same all.0
all_at P (y ∷ ys) (suc i) x all e = all_at P ys i x all.1 e

-- and what holds at each place holds of each member
pub from_places : {X : Type 0} (P : X → Type 0) (d : X) (xs : List X) → ((i : ℕ) → i < length xs → P (get_or xs i d)) → AllByRecursion P xs
from_places P d [] each = tt
from_places P d (x ∷ xs) each = (each 0 (omega arith), from_places P d xs (λ i lt. each (suc i) (omega (arith, lt))))

pub all_mapped : {X Y : Type 0} (P : Y → Type 0) (f : X → Y) (xs : List X) → AllByRecursion (λ x. P (f x)) xs → AllByRecursion P (map f xs)
all_mapped P f [] all = tt
all_mapped P f (x ∷ xs) all = (all.0, all_mapped P f xs all.1)

-- what holds of each member at its place holds with one more at the end
pub pushed : {X : Type 0} (P : ℕ → X → Type 0) (xs : List X) (y : X) → ((i : ℕ) (x : X) → slice_get xs i ≡ Some x → P i x) → P (length xs) y
    → (i : ℕ) (x : X) → slice_get (xs ++ y ∷ []) i ≡ Some x → P i x
pushed P [] y each last zero x is = subst (P 0) (same_Some y x is) last
pushed P [] y each last (suc i) x is = absurd (none-some x is)
pushed P (z ∷ zs) y each last zero x is = each 0 x is
pushed P (z ∷ zs) y each last (suc i) x is = pushed (λ k. P (suc k)) zs y (λ k v at. each (suc k) v at) last i x is

-- and so a list of n members becomes one of n + 1
pub one_more : {X : Type 0} (P : ℕ → X → Type 0) (n : ℕ) (xs more : List X) (put x : X) → IsListOf n P xs → P n x → put ≡ x → more ≡ xs ++ put ∷ []
    → IsListOf (n + 1) P more
one_more P n xs more put x before here same is = record {
  many = ap length is ∙ length_push xs put ∙ ap (λ k. k + 1) before.many;
  each = subst (λ ys. (i : ℕ) (y : _) → slice_get ys i ≡ Some y → P i y) (sym is)
      (pushed P xs put before.each (subst (λ k. P k put) (sym before.many) (subst (P n) (sym same) here)));
}

-- the first of what is left of a list from place i on is its member there
pub at_front : {X : Type 0} (xs : List X) (i : ℕ) (x : X) (rest : List X) → drop i xs ≡ x ∷ rest → slice_get xs i ≡ Some x
at_front (y ∷ ys) zero x rest is = cc
at_front (y ∷ ys) (suc i) x rest is = at_front ys i x rest is
at_front [] zero x rest is = absurd (cc)
at_front [] (suc i) x rest is = absurd (cc)

behind : {X : Type 0} (xs : List X) (i : ℕ) (x : X) (rest : List X) → drop i xs ≡ x ∷ rest → rest ≡ drop (suc i) xs
behind (y ∷ ys) zero x rest is = cc
behind (y ∷ ys) (suc i) x rest is = behind ys i x rest is
behind [] zero x rest is = absurd (cc)
behind [] (suc i) x rest is = absurd (cc)

-- and behind it is what is left from the next place on
pub left_behind : {X : Type 0} (xs : List X) (i : ℕ) (x : X) (rest : List X) → drop i xs ≡ x ∷ rest → rest ≡ drop (i + 1) xs
left_behind xs i x rest is = rw add-one (behind xs i x rest is)

-- what was put where something was is there
pub set_here : {X : Type 0} (xs : List (Option X)) (i : ℕ) (x : X) (new : Option X) → get_or xs i None ≡ Some x → get_or (slice_set xs i new) i None ≡ new
set_here [] i x new is = absurd (cc)
set_here (y ∷ ys) zero x new is = refl
set_here (y ∷ ys) (suc i) x new is = set_here ys i x new is

pub some_there : {X : Type 0} (o : Option X) → IsSome o → (x : X) × (o ≡ Some x)
some_there None some = absurd (true≢false (sym some))
some_there (Some x) some = (x, refl)

-- what a member of a mapped list came from, and what a member is mapped to
pub map_back : {X Y : Type 0} (f : X → Y) (xs : List X) (i : ℕ) (y : Y) → slice_get (map f xs) i ≡ Some y → (x : X) × (slice_get xs i ≡ Some x) × (f x ≡ y)
map_back f [] i y e = cc
map_back f (x ∷ xs) zero y e = (x, refl, cc)
map_back f (x ∷ xs) (suc i) y e = map_back f xs i y e

pub map_get : {X Y : Type 0} (f : X → Y) (xs : List X) (i : ℕ) (x : X) → slice_get xs i ≡ Some x → slice_get (map f xs) i ≡ Some (f x)
map_get f xs i x e = slice_get-map f xs i ∙ ap (option_map f) e

-- what is read of each member is as it was, where members changed in something else
pub map_still : {X Y : Type 0} (f : X → Y) (g : X → X) → ((x : X) → f (g x) ≡ f x) → (xs : List X) → map f (map g xs) ≡ map f xs
map_still f g same [] = refl
map_still f g same (x ∷ xs) = ap₂ (λ y ys. y ∷ ys) (same x) (map_still f g same xs)

-- Two lists that are related place by place.
module _ {X Y : Type 0} (R : X → Y → Type 0) where
  -- the two members at a place, with what relates them
  abbrev pub both_at : (xs : List X) (ys : List Y) → AllZip R xs ys → ℕ → Option ((x : X) × (y : Y) × R x y)
  both_at [] [] all i = None
  both_at [] (y ∷ ys) all i = None
  both_at (x ∷ xs) [] all i = None
  both_at (x ∷ xs) (y ∷ ys) all zero = Some (x, y, all.0)
  both_at (x ∷ xs) (y ∷ ys) all (suc i) = both_at xs ys all.1 i

  pub record IsBothAt (xs : List X) (ys : List Y) (all : AllZip R xs ys) (i : ℕ) : Type 0 where
    pub first : X
    pub second : Y
    pub related : R first second
    pub is : both_at xs ys all i ≡ Some (first, second, related)
    pub first_is : slice_get xs i ≡ Some first
    pub second_is : slice_get ys i ≡ Some second

  pub there : (xs : List X) (ys : List Y) (all : AllZip R xs ys) (i : ℕ) → i < length xs → IsBothAt xs ys all i
  there [] ys all i lt = absurd (omega (arith, lt))
  there (x ∷ xs) [] all i lt = absurd all
  there (x ∷ xs) (y ∷ ys) all zero lt = record { first = x; second = y; related = all.0; is = refl; first_is = refl; second_is = refl }
  there (x ∷ xs) (y ∷ ys) all (suc i) lt =
      let k = there xs ys all.1 i (omega (arith, lt)) in
      record { first = k.first; second = k.second; related = k.related; is = k.is; first_is = k.first_is; second_is = k.second_is }

  -- a place of the second list has one in the first
  pub first_of : (xs : List X) (ys : List Y) → AllZip R xs ys → (i : ℕ) (y : Y) → slice_get ys i ≡ Some y → (x : X) × (slice_get xs i ≡ Some x) × R x y
  first_of [] [] all i y e = cc
  first_of (a ∷ xs) (b ∷ ys) all zero y e = let same : b ≡ y = cc in (a, refl, subst (R a) same all.0)
  first_of (a ∷ xs) (b ∷ ys) all (suc i) y e = first_of xs ys all.1 i y e
  first_of _ _ all i y e = absurd all

-- A list in which a function was applied at the first n places.
module _ {X : Type 0} (f : X → X) where
  abbrev pub map_front : ℕ → List X → List X
  map_front zero xs = xs
  map_front (suc n) [] = []
  map_front (suc n) (x ∷ xs) = f x ∷ map_front n xs

  -- later places are as they were
  pub front_get : (n i : ℕ) (xs : List X) → n ≤ i → slice_get (map_front n xs) i ≡ slice_get xs i
  front_get (suc n) zero (x ∷ xs) le = absurd (omega (arith, le))
  front_get (suc n) (suc i) (x ∷ xs) le = front_get n i xs (omega (arith, le))
  front_get _ i _ le = refl

  -- the next place is the one that is changed next
  pub front_set : (n : ℕ) (xs : List X) (x : X) → slice_get xs n ≡ Some x → slice_set (map_front n xs) n (f x) ≡ map_front (suc n) xs
  front_set n [] x e = cc
  front_set zero (y ∷ xs) x e = let same : x ≡ y = cc in ap (λ z. f z ∷ xs) same
  front_set (suc n) (y ∷ xs) x e = ap (λ zs. f y ∷ zs) (front_set n xs x e)

  -- in the end it was applied at all places
  pub front_all : (xs : List X) → map_front (length xs) xs ≡ map f xs
  front_all [] = refl
  front_all (x ∷ xs) = ap (λ zs. f x ∷ zs) (front_all xs)

-- the member at the next place is that of the list before
pub here_at : {X : Type 0} (f : X → X) (n : ℕ) (hs ls : List X) (x : X) → ls ≡ map_front f n hs → n < length ls → x ≡ get_or ls n x → slice_get hs n ≡ Some x
here_at f n hs ls x is lt e =
    sym (front_get f n n hs (omega arith)) ∙ (ap (λ zs. slice_get zs n) (sym is) ∙ slice_get_read ls (length ls) n x refl lt e)
