-- These are small facts about lists that are read up to some place or grow by one element at the end, and about ranges
-- of numbers and their sums. The proofs of loops in several crates use them, since a loop goes from one place to the
-- next. They are shown by induction on the list or on the number.
use Rattle.std.proofs.Common.{◌≡◌, ◌≢◌, ◌<◌, ℕ, zero, suc, ◌+◌, ◌==◌, true, false, List, [], ◌∷◌, length, get_or, drop, refl, ap, sym, ◌∙◌, arith, add-one, ◌++◌, sum_by, subst, below_more, add-zero, zero-add, rules}
use Rattle.qs_played.proofs.Names.{drop-cons, get_or-append_seam, range_with_len, sum_by_push, get_or_append_left}

pub apart : (h k : ℕ) → (h == k) ≡ false → k ≢ h
apart h k differs same = let equal : (h == k) ≡ true = rw same (grind arith) in cc

-- within a list the default does not matter
pub get_or-any : {X : Type 0} (xs : List X) (i : ℕ) (d e : X) → i < length xs → get_or xs i d ≡ get_or xs i e
get_or-any [] i d e within = absurd (omega arith)
get_or-any (x ∷ xs) zero d e within = refl
get_or-any (x ∷ xs) (suc i) d e within = get_or-any xs i d e (omega arith)

-- the list from i on
pub from_here : (xs : List ℕ) (i : ℕ) → i < length xs → drop i xs ≡ get_or xs i 0 ∷ drop (i + 1) xs
from_here xs i within = drop-cons xs i 0 within ∙ ap (λ n. get_or xs i 0 ∷ drop n xs) (sym (add-one i))

-- what holds at each place holds with one more at the end
pub each_more : {X : Type 0} (P : ℕ → X → Type 0) (xs : List X) (y : X) (n : ℕ) → length xs ≡ n → ((j : ℕ) (d : X) → j < n → P j (get_or xs j d)) → P n y
    → (j : ℕ) (d : X) → j < n + 1 → P j (get_or (xs ++ y ∷ []) j d)
each_more {X} P xs y n long before here = λ j d lt.
    below_more (λ k. (d : X) → P k (get_or (xs ++ y ∷ []) k d)) n
    (λ k less d. subst (P k) (sym (get_or_append_left xs (y ∷ []) d k (omega (arith, long)))) (before k d less))
    (λ d. subst (P n) (sym (ap (λ m. get_or (xs ++ y ∷ []) m d) (sym long) ∙ get_or-append_seam xs y [] d)) here)
    j lt d

-- one number more
pub range_more : (a n : ℕ) → range_with_len a (suc n) ≡ range_with_len a n ++ (a + n) ∷ []
range_more a zero = ap (λ m. m ∷ []) (sym (add-zero a))
range_more a (suc n) = ap (λ xs. a ∷ xs) (range_more (a + 1) n ∙ ap (λ m. range_with_len (a + 1) n ++ m ∷ []) (omega arith))

pub sum_by-range_more : (f : ℕ → ℕ) (n : ℕ) → sum_by f (range_with_len 0 (n + 1)) ≡ sum_by f (range_with_len 0 n) + f n
sum_by-range_more f n = ap (λ m. sum_by f (range_with_len 0 m)) (add-one n) ∙ ap (sum_by f) (range_more 0 n ∙ ap (λ m. range_with_len 0 n ++ m ∷ []) (zero-add n)) ∙ sum_by_push f (range_with_len 0 n) n

pub empty_of : {X : Type 0} (xs : List X) → length xs ≡ 0 → xs ≡ []
empty_of [] none = refl
empty_of (x ∷ xs) none = absurd (omega (arith, none))
