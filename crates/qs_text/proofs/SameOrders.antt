-- The same texts in whichever order they came are the same list once they are in the order of their bytes. Of two such
-- lists each text is in the other, and as often; so neither of their first texts is less than the other, the two are
-- one text, and what comes after them is the same by induction.
use Rattle.std.proofs.Common.{◌≡◌, ◌<◌, ◌≤◌, ◌+◌, ℕ, suc, Bool, true, false, cond, List, [], ◌∷◌, length, get_or, refl, sym, ap, ◌∙◌, subst, arith}
use Rattle.std.specs.Cmp.{IsStrictWeakOrder}
use Rattle.std.specs.Cmp.Lexicographic.{slice_cmp}
use Rattle.std.specs.FinMap.{slice_cmp-IsAntisymmetric, nat_cmp-IsAntisymmetric}
use Rattle.std.specs.List.{sum_by}
use Rattle.std.specs.List.Sorted.{IsSortedBy}
use Rattle.std.proofs.Common.{Ordering}
use Rattle.std.specs.Ordering.{ordering_reverse, is_lt, is_eq, nat_cmp}
use Rattle.std.specs.declared.cmp.Ordering.TheVariants.{Less, Equal, Greater}
use Rattle.std.proofs.lemmas.Cmp.{nat_list_cmp_total}
use Rattle.std.proofs.lemmas.List.Sums.{sum_by-cons}
use Rattle.std.proofs.lemmas.List.Sorted.{ranks_by, sorted_far, sum_by-IsPermutation}
use Rattle.qs_text.specs.SortedTexts.{OrdersAreUnique, joined}

abbrev Text : Type 0
Text = List ℕ

abbrev cmp : Text → Text → Ordering
cmp = slice_cmp nat_cmp

abbrev lt : Text → Text → Bool
lt x y = is_lt (cmp x y)

-- how often a text is in a list
abbrev is_it : Text → Text → ℕ
is_it x y = cond (is_eq (cmp x y)) 1 0

-- no text is less than itself, and texts of which neither is less are one
itself : (x : Text) → is_eq (cmp x x) ≡ true
itself x = by_answer (cmp x x) (nat_list_cmp_total.antisymm x x)
  where
    by_answer : (o : Ordering) → o ≡ ordering_reverse o → is_eq o ≡ true
    by_answer Equal e = refl
    by_answer _ e = cc (e)

one_text : (x y : Text) → lt x y ≡ false → lt y x ≡ false → x ≡ y
one_text x y h k = by_answers (cmp x y) (cmp y x) refl (nat_list_cmp_total.antisymm x y) h k
  where
    by_answers : (o r : Ordering) → cmp x y ≡ o → o ≡ ordering_reverse r → is_lt o ≡ false → is_lt r ≡ false → x ≡ y
    by_answers Equal r is e h k = slice_cmp-IsAntisymmetric nat_cmp-IsAntisymmetric x y is
    by_answers Less r is e h k = absurd (cc (h))
    by_answers Greater Less is e h k = absurd (cc (k))
    by_answers Greater _ is e h k = absurd (cc (e))

-- a text that is there at least once has a place
place_of : (z : Text) (xs : List Text) → 1 ≤ sum_by (is_it z) xs → (j : ℕ) × (j < length xs) × (is_eq (cmp z (get_or xs j [])) ≡ true)
place_of z [] some = absurd (omega (arith, some))
place_of z (x ∷ xs) some = by_first (is_eq (cmp z x)) refl (λ some. place_of z xs some)
  where
    by_first : (b : Bool) → is_eq (cmp z x) ≡ b
        → (1 ≤ sum_by (is_it z) xs → (j : ℕ) × (j < length xs) × (is_eq (cmp z (get_or xs j [])) ≡ true))
        → (j : ℕ) × (j < length (x ∷ xs)) × (is_eq (cmp z (get_or (x ∷ xs) j [])) ≡ true)
    by_first true e later = (0, omega arith, e)
    by_first false e later =
        let rest = later (let adds : sum_by (is_it z) (x ∷ xs) ≡ cond (is_eq (cmp z x)) 1 0 + sum_by (is_it z) xs = sum_by-cons (is_it z) x xs in let none : ◌≡◌ {A = ℕ} (cond (is_eq (cmp z x)) 1 0) 0 = ap (λ b. cond b 1 0) e in omega (arith, some, adds, none)) in
        (suc rest.0, (let less = rest.1 in omega (arith, less)), rest.2)

is_strict : IsStrictWeakOrder lt
is_strict = ranks_by nat_list_cmp_total (λ (x : Text). x)

-- the first text of a list in order is not greater than one that is there
first_least : (z y : Text) (ys : List Text) → IsSortedBy lt (y ∷ ys) → 1 ≤ sum_by (is_it z) (y ∷ ys) → lt z y ≡ false
first_least z y ys up some =
    let there = place_of z (y ∷ ys) some in
    let w : Text = get_or (y ∷ ys) there.0 [] in
    let same : z ≡ w = slice_cmp-IsAntisymmetric nat_cmp-IsAntisymmetric z w (is_equal (cmp z w) there.2) in
    subst (λ (v : Text). lt v y ≡ false) (sym same) (sorted_far lt is_strict (y ∷ ys) up 0 there.0 [] (omega arith) there.1)
  where
    is_equal : (o : Ordering) → is_eq o ≡ true → o ≡ Equal
    is_equal Equal e = refl
    is_equal _ e = cc (e)

later_sorted : (x : Text) (xs : List Text) → IsSortedBy lt (x ∷ xs) → IsSortedBy lt xs
later_sorted x xs up k d low less =
    let next : suc k + 1 ≡ suc (k + 1) = omega arith in
    subst (λ n. lt (get_or (x ∷ xs) n d) (get_or xs k d) ≡ false) next (up (suc k) d (omega arith) (omega (arith, less)))

-- lists in order that have each text equally often
one_list : (xs ys : List Text) → IsSortedBy lt xs → IsSortedBy lt ys → ((f : Text → ℕ) → sum_by f ys ≡ sum_by f xs) → xs ≡ ys
one_list [] [] up on same = refl
one_list [] (y ∷ ys) up on same = absurd (let e : sum_by (λ _. 1) (y ∷ ys) ≡ 0 = same (λ _. 1) in let adds : sum_by (λ _. 1) (y ∷ ys) ≡ 1 + sum_by (λ _. 1) ys = sum_by-cons (λ _. 1) y ys in omega (arith, e, adds))
one_list (x ∷ xs) [] up on same = absurd (let e : 0 ≡ sum_by (λ _. 1) (x ∷ xs) = same (λ _. 1) in let adds : sum_by (λ _. 1) (x ∷ xs) ≡ 1 + sum_by (λ _. 1) xs = sum_by-cons (λ _. 1) x xs in omega (arith, e, adds))
one_list (x ∷ xs) (y ∷ ys) up on same =
    let x_there : 1 ≤ sum_by (is_it x) (y ∷ ys) =
    let e = same (is_it x) in let own : is_it x x ≡ 1 = ap (λ b. cond b 1 0) (itself x) in
    let adds = sum_by-cons (is_it x) x xs in omega (arith, e, own, adds) in
    let y_there : 1 ≤ sum_by (is_it y) (x ∷ xs) =
    let e = same (is_it y) in let own : is_it y y ≡ 1 = ap (λ b. cond b 1 0) (itself y) in
    let adds = sum_by-cons (is_it y) y ys in omega (arith, e, own, adds) in
    let first : x ≡ y = one_text x y (first_least x y ys on x_there) (first_least y x xs up y_there) in
    let rest : xs ≡ ys = one_list xs ys (later_sorted x xs up) (later_sorted y ys on)
    (λ f.
    let e = same f in let equal : f x ≡ f y = ap f first in
    let one = sum_by-cons f x xs in let other = sum_by-cons f y ys in omega (arith, e, equal, one, other)) in
    λ i. first i ∷ rest i

pub one_order : OrdersAreUnique
one_order texts others one other moved (xs, (a, up), is) (ys, (b, on), too) =
    is
    ∙ ap joined (one_list xs ys up on (λ f.
    sum_by-IsPermutation f others ys b ∙ sum_by-IsPermutation f texts others moved ∙ sym (sum_by-IsPermutation f texts xs a)))
    ∙ sym too
