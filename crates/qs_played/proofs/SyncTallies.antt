-- One Sync more for an object adds one to that object's count in its block's row, and changes neither the other counts
-- nor the row's objects; the row's sum is the sum over all objects. The proofs that both machines count exactly use
-- this for each step. It is shown by induction on the row, in which each object stands once.
use Rattle.std.proofs.Common.{◌≡◌, ◌<◌, ℕ, suc, ◌+◌, ◌==◌, Bool, true, false, if◌then◌else◌, List, [], ◌∷◌, map, refl, sym, ap, subst, ⊎_elim, arith, rules}
use Rattle.qs_played.proofs.Names.{sum_by, sum_by-cons, IsDistinct-head, IsDistinct-tail, eqb_self, num_cases, put, put_here, put_there, is_in, no_syncs, object_of, sync_count, syncs_of, with_sync, syncs_for, SyncCount, AreSent}
use Rattle.std.specs.List.{AllByRecursion, IsDistinct, range_with_len}
use Rattle.qs_played.proofs.SyncLists.{sum_add, sum_inside, sum_one, sum_zero}

pub objects_stay : (h : ℕ) (xs : List SyncCount) → map object_of (with_sync h xs) ≡ map object_of xs
objects_stay h [] = refl
objects_stay h (x ∷ xs) = ap (λ rest. x.object ∷ rest) (objects_stay h xs)

pub objects_none : (hs : List ℕ) → map object_of (no_syncs hs) ≡ hs
objects_none [] = refl
objects_none (h ∷ hs) = ap (λ rest. h ∷ rest) (objects_none hs)

for_cons : (x : SyncCount) (xs : List SyncCount) (g : ℕ) → syncs_for (x ∷ xs) g ≡ (if x.object == g then x.count else 0) + syncs_for xs g
for_cons x xs g = sum_by-cons (λ (x : SyncCount). if x.object == g then x.count else 0) x xs

pub none_for : (hs : List ℕ) (g : ℕ) → syncs_for (no_syncs hs) g ≡ 0
none_for [] g = refl
none_for (h ∷ hs) g =
    let first = for_cons (sync_count h 0) (no_syncs hs) g in
    let rest = none_for hs g in
    let here = by_case (h == g) in
    omega (arith, first, rest, here)
  where
    by_case : (b : Bool) → ◌≡◌ {A = ℕ} (if b then 0 else 0) 0
    by_case true = refl
    by_case false = refl

-- of an object that isn't in the list
not_there : (h : ℕ) (xs : List SyncCount) → AllByRecursion (λ o. (h == o) ≡ false) (map object_of xs) → (g : ℕ) → syncs_for (with_sync h xs) g ≡ syncs_for xs g
not_there h [] none g = refl
not_there h (x ∷ xs) none g =
    let other : (x.object == h) ≡ false = ⊎_elim
    (λ (is : x.object ≡ h). absurd (let no = none.0 in let yes : (h == x.object) ≡ true = subst (λ o. (h == o) ≡ true) (sym is) (eqb_self h) in cc))
    (λ (other : (x.object == h) ≡ false). other)
    (num_cases x.object h) in
    let same : (if x.object == h then suc x.count else x.count) ≡ x.count = rw other refl in
    let first = for_cons (sync_count x.object (if x.object == h then suc x.count else x.count)) (with_sync h xs) g in
    let old = for_cons x xs g in
    let here = ap (λ n. if x.object == g then n else 0) same in
    let rest = not_there h xs none.1 g in
    omega (arith, first, old, here, rest)

-- where each object stands once
pub one_more_for : (h : ℕ) (xs : List SyncCount) → is_in (map object_of xs) h ≡ true → IsDistinct ◌==◌ (map object_of xs) → (g : ℕ)
    → syncs_for (with_sync h xs) g ≡ (if h == g then 1 else 0) + syncs_for xs g
one_more_for h [] inside distinct g = absurd (cc)
one_more_for h (x ∷ xs) inside distinct g = ⊎_elim
    (λ (is : x.object ≡ h).
    let none : AllByRecursion (λ o. (h == o) ≡ false) (map object_of xs) =
    subst (λ h. AllByRecursion (λ o. (h == o) ≡ false) (map object_of xs)) is (IsDistinct-head ◌==◌ x.object (map object_of xs) distinct) in
    let rest = not_there h xs none g in
    let count : (if x.object == h then suc x.count else x.count) ≡ suc x.count = rw is (rw (eqb_self h) refl) in
    let here = ap (λ n. if x.object == g then n else 0) count in
    let test : (if x.object == g then suc x.count else 0) ≡ (if h == g then 1 else 0) + (if x.object == g then x.count else 0) =
    subst (λ h. (if x.object == g then suc x.count else 0) ≡ (if h == g then 1 else 0) + (if x.object == g then x.count else 0)) is
    (by_case (x.object == g)) in
    omega (arith, first, old, here, test, rest))
    (λ (other : (x.object == h) ≡ false).
    let count : (if x.object == h then suc x.count else x.count) ≡ x.count = rw other refl in
    let here = ap (λ n. if x.object == g then n else 0) count in
    let rest = one_more_for h xs (rw other at inside) (IsDistinct-tail ◌==◌ x.object (map object_of xs) distinct) g in
    omega (arith, first, old, here, rest))
    (num_cases x.object h)
  where
    first : syncs_for (with_sync h (x ∷ xs)) g ≡ (if x.object == g then (if x.object == h then suc x.count else x.count) else 0) + syncs_for (with_sync h xs) g
    first = for_cons (sync_count x.object (if x.object == h then suc x.count else x.count)) (with_sync h xs) g

    old : syncs_for (x ∷ xs) g ≡ (if x.object == g then x.count else 0) + syncs_for xs g
    old = for_cons x xs g

    by_case : (b : Bool) → (if b then suc x.count else 0) ≡ (if b then 1 else 0) + (if b then x.count else 0)
    by_case true = omega arith
    by_case false = refl

-- a Sync more for an object of the list, where each stands once
pub sent_for : (h : ℕ) (xs : List SyncCount) (n : ℕ → ℕ) → is_in (map object_of xs) h ≡ true → IsDistinct ◌==◌ (map object_of xs)
    → ((g : ℕ) → syncs_for xs g ≡ n g) → (g : ℕ) → syncs_for (with_sync h xs) g ≡ put n h (suc (n h)) g
sent_for h xs n inside distinct same g = search (rules, one_more_for, put_here, eqb_self, put_there, num_cases)

-- the counts of a list of objects below m, object by object
pub total_for : (m : ℕ) (xs : List SyncCount) → AllByRecursion (λ o. o < m) (map object_of xs) → syncs_of xs ≡ sum_by (syncs_for xs) (range_with_len 0 m)
total_for m [] inside = sym (sum_zero (syncs_for []) (λ h. refl) (range_with_len 0 m))
total_for m (x ∷ xs) inside =
    let whole = sum_by-cons (λ (x : SyncCount). x.count) x xs in
    let each = sum_inside (syncs_for (x ∷ xs)) (λ h. (if x.object == h then x.count else 0) + syncs_for xs h) 0 m (λ h low high. for_cons x xs h) in
    let both = sum_add (λ h. if x.object == h then x.count else 0) (syncs_for xs) (range_with_len 0 m) in
    let none = sum_zero (λ (h : ℕ). 0) (λ h. refl) (range_with_len 0 m) in
    let zero_on : x.count ≡ x.count + 0 = omega arith in
    let one = sum_one (λ h. if x.object == h then x.count else 0) (λ h. 0) x.object x.count m (rw (eqb_self x.object) zero_on)
    (λ i out. rw out refl) inside.0 in
    let rest = total_for m xs inside.1 in
    omega (arith, whole, each, both, none, one, rest)

-- what was sent, by numbers that are the same
pub sent_of : (ended : Bool) (sent others counts : ℕ → ℕ) → ((h : ℕ) → sent h ≡ others h) → AreSent ended sent counts → AreSent ended others counts
sent_of ended sent others counts same v = search rules
