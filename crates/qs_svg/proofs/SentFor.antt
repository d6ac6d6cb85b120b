-- How many synchronisations were sent for an object, place by place of the list of counts: the loop that looks for the
-- object stands on it. It goes by induction on the place.
use Rattle.qs_svg.proofs.Common.{◌≡◌, ℕ, zero, suc, ◌+◌, ◌<◌, ◌≢◌, List, [], ◌∷◌, map, length, drop, get_or, refl, true, false, ◌==◌, arith, ◌∙◌, ap, nat_tests, count_of, object_of, sent_for}
use Rattle.qs_sync_counts.specs.declared.sync_counts.SyncCount.{SyncCount}

-- the object stands here
pub sent_here : (h : ℕ) (rows : List SyncCount) (i : ℕ) → i < length rows → get_or (map object_of rows) i 0 ≡ h
    → sent_for h (drop i rows) ≡ get_or (map count_of rows) i 0
sent_here h [] i within is = elim within [ ]
sent_here h (x ∷ xs) zero within is = let e : (x.object == h) ≡ true = grind (arith, nat_tests) in rw e refl
sent_here h (x ∷ xs) (suc i) within is = sent_here h xs i (omega arith) is

-- it stands later, if it does
pub sent_later : (h : ℕ) (rows : List SyncCount) (i : ℕ) → i < length rows → get_or (map object_of rows) i 0 ≢ h
    → sent_for h (drop i rows) ≡ sent_for h (drop (i + 1) rows)
sent_later h [] i within not = elim within [ ]
sent_later h (x ∷ xs) zero within not = let e : (x.object == h) ≡ false = grind (arith, nat_tests) in rw e refl
sent_later h (x ∷ xs) (suc i) within not =
    let e : suc (i + 1) ≡ suc i + 1 = omega arith in sent_later h xs i (omega arith) not ∙ ap (λ n. sent_for h (drop n (x ∷ xs))) e
