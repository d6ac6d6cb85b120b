-- The objects of each block and their counts are stored in two lists of rows, and paired they are what contracts see;
-- the lemmas say what each row is, and what one more object or Sync changes. The functions of `SyncCounts` and those
-- that fill it for a client stand on it. It goes by induction on the rows.
use Rattle.std.proofs.Common.{◌≡◌, ◌<◌, ◌≤◌, ℕ, zero, suc, ◌+◌, ◌==◌, Bool, true, false, if◌then◌else◌, List, [], ◌∷◌, ◌++◌, length, get_or, set, map, take, drop, replicate, refl, sym, ap, ◌∙◌, arith, append_assoc, get_or-set_same, set-set}
use Rattle.std.proofs.lemmas.List.{take_more, length-set}
use Rattle.qs_sync_counts.specs.declared.sync_counts.SyncCount.{SyncCount}
use Rattle.qs_sync_counts.specs.audit.SyncRows.{count_of, fresh_rows, no_syncs, object_of, sync_count, with_sync}
use Rattle.qs_sync_counts.specs.SyncRows.{AreFew, HaveCounts, all_counts, begun_rows, pair_counts, with_counts}

pub length_paired : (os cs : List ℕ) → length cs ≡ length os → length (pair_counts os cs) ≡ length os
length_paired [] cs same = refl
length_paired (o ∷ os) [] same = absurd (omega (arith, same))
length_paired (o ∷ os) (c ∷ cs) same = ap suc (length_paired os cs (omega (arith, same)))

pub objects_paired : (os cs : List ℕ) → length cs ≡ length os → map object_of (pair_counts os cs) ≡ os
objects_paired [] cs same = refl
objects_paired (o ∷ os) [] same = absurd (omega (arith, same))
objects_paired (o ∷ os) (c ∷ cs) same = ap (λ rest. o ∷ rest) (objects_paired os cs (omega (arith, same)))

pub counts_paired : (os cs : List ℕ) → length cs ≡ length os → map count_of (pair_counts os cs) ≡ cs
counts_paired [] [] same = refl
counts_paired (o ∷ os) (c ∷ cs) same = ap (λ rest. c ∷ rest) (counts_paired os cs (omega (arith, same)))
counts_paired _ _ same = absurd (omega (arith, same))

pub paired_at : (os cs : List ℕ) (k : ℕ) → length cs ≡ length os → get_or (pair_counts os cs) k (sync_count 0 0) ≡ sync_count (get_or os k 0) (get_or cs k 0)
paired_at [] (c ∷ cs) k same = absurd (omega (arith, same))
paired_at (o ∷ os) [] k same = absurd (omega (arith, same))
paired_at (o ∷ os) (c ∷ cs) (suc k) same = paired_at os cs k (omega (arith, same))
paired_at _ _ _ same = refl

paired_push : (os cs : List ℕ) (o c : ℕ) → length cs ≡ length os → pair_counts (os ++ o ∷ []) (cs ++ c ∷ []) ≡ pair_counts os cs ++ sync_count o c ∷ []
paired_push [] [] o c same = refl
paired_push (p ∷ os) (d ∷ cs) o c same = ap (λ rest. sync_count p d ∷ rest) (paired_push os cs o c (omega (arith, same)))
paired_push _ _ o c same = absurd (omega (arith, same))

paired_set : (os cs : List ℕ) (k n : ℕ) → length cs ≡ length os → pair_counts os (set cs k n) ≡ set (pair_counts os cs) k (sync_count (get_or os k 0) n)
paired_set [] (c ∷ cs) k n same = absurd (omega (arith, same))
paired_set (o ∷ os) [] k n same = absurd (omega (arith, same))
paired_set (o ∷ os) (c ∷ cs) (suc k) n same = ap (λ rest. sync_count o c ∷ rest) (paired_set os cs k n (omega (arith, same)))
paired_set _ _ _ n same = refl

pub length_rows : (oss css : List (List ℕ)) → HaveCounts oss css → length (with_counts oss css) ≡ length oss
length_rows [] [] have = refl
length_rows (os ∷ oss) (cs ∷ css) have = ap suc (length_rows oss css have.1)
length_rows _ _ have = absurd have

pub length_counts : (oss css : List (List ℕ)) → HaveCounts oss css → length css ≡ length oss
length_counts [] [] have = refl
length_counts (os ∷ oss) (cs ∷ css) have = ap suc (length_counts oss css have.1)
length_counts _ _ have = absurd have

-- a row has as many counts as objects
pub have_at : (oss css : List (List ℕ)) (k : ℕ) → HaveCounts oss css → length (get_or css k []) ≡ length (get_or oss k [])
have_at [] [] k have = refl
have_at (os ∷ oss) (cs ∷ css) zero have = have.0
have_at (os ∷ oss) (cs ∷ css) (suc k) have = have_at oss css k have.1
have_at _ _ k have = absurd have

pub row_at : (oss css : List (List ℕ)) (k : ℕ) → HaveCounts oss css → get_or (with_counts oss css) k [] ≡ pair_counts (get_or oss k []) (get_or css k [])
row_at [] (cs ∷ css) k have = absurd have
row_at (os ∷ oss) [] k have = absurd have
row_at (os ∷ oss) (cs ∷ css) (suc k) have = row_at oss css k have.1
row_at _ _ _ have = refl

pub counts_of_rows : (oss css : List (List ℕ)) → HaveCounts oss css → all_counts (with_counts oss css) ≡ css
counts_of_rows [] [] have = refl
counts_of_rows (os ∷ oss) (cs ∷ css) have =
    ap (λ row. row ∷ all_counts (with_counts oss css)) (counts_paired os cs have.0) ∙ ap (λ rest. cs ∷ rest) (counts_of_rows oss css have.1)
counts_of_rows _ _ have = absurd have

-- where a row of pairs is empty, so are its objects and its counts
pub empty_rows : (oss css : List (List ℕ)) (k : ℕ) → HaveCounts oss css → get_or (with_counts oss css) k [] ≡ [] → (get_or oss k [] ≡ []) × (get_or css k [] ≡ [])
empty_rows oss css k have none =
    let pairs : pair_counts (get_or oss k []) (get_or css k []) ≡ [] = sym (row_at oss css k have) ∙ none in
    let same = have_at oss css k have in (
      sym (objects_paired (get_or oss k []) (get_or css k []) same) ∙ ap (map object_of) pairs,
      sym (counts_paired (get_or oss k []) (get_or css k []) same) ∙ ap (map count_of) pairs,
    )

-- an object more in a block's list
pub rows_push : (oss css : List (List ℕ)) (k o c : ℕ) → HaveCounts oss css → k < length oss
    → with_counts (set oss k (get_or oss k [] ++ o ∷ [])) (set css k (get_or css k [] ++ c ∷ []))
    ≡ set (with_counts oss css) k (get_or (with_counts oss css) k [] ++ sync_count o c ∷ [])
rows_push [] css k o c have inside = absurd (omega (arith, inside))
rows_push (os ∷ oss) [] k o c have inside = absurd have
rows_push (os ∷ oss) (cs ∷ css) zero o c have inside = ap (λ row. row ∷ with_counts oss css) (paired_push os cs o c have.0)
rows_push (os ∷ oss) (cs ∷ css) (suc k) o c have inside = ap (λ rest. pair_counts os cs ∷ rest) (rows_push oss css k o c have.1 (omega (arith, inside)))

pub have_push : (oss css : List (List ℕ)) (k o c : ℕ) → HaveCounts oss css → k < length oss
    → HaveCounts (set oss k (get_or oss k [] ++ o ∷ [])) (set css k (get_or css k [] ++ c ∷ []))
have_push [] css k o c have inside = absurd (omega (arith, inside))
have_push (os ∷ oss) [] k o c have inside = absurd have
have_push (os ∷ oss) (cs ∷ css) zero o c have inside =
    (omega (arith, length_more cs c, length_more os o, have.0), have.1)
  where
    length_more : (xs : List ℕ) (x : ℕ) → length (xs ++ x ∷ []) ≡ suc (length xs)
    length_more [] x = refl
    length_more (y ∷ ys) x = ap suc (length_more ys x)
have_push (os ∷ oss) (cs ∷ css) (suc k) o c have inside = (have.0, have_push oss css k o c have.1 (omega (arith, inside)))

-- another count at a place
pub rows_set : (oss css : List (List ℕ)) (k i n : ℕ) → HaveCounts oss css
    → with_counts oss (set css k (set (get_or css k []) i n))
    ≡ set (with_counts oss css) k (set (get_or (with_counts oss css) k []) i (sync_count (get_or (get_or oss k []) i 0) n))
rows_set [] [] k i n have = refl
rows_set (os ∷ oss) (cs ∷ css) zero i n have = ap (λ row. row ∷ with_counts oss css) (paired_set os cs i n have.0)
rows_set (os ∷ oss) (cs ∷ css) (suc k) i n have = ap (λ rest. pair_counts os cs ∷ rest) (rows_set oss css k i n have.1)
rows_set _ _ k i n have = absurd have

pub have_set : (oss css : List (List ℕ)) (k i n : ℕ) → HaveCounts oss css → HaveCounts oss (set css k (set (get_or css k []) i n))
have_set [] [] k i n have = have
have_set (os ∷ oss) (cs ∷ css) zero i n have = (length-set cs i n ∙ have.0, have.1)
have_set (os ∷ oss) (cs ∷ css) (suc k) i n have = (have.0, have_set oss css k i n have.1)
have_set _ _ k i n have = absurd have

pub have_fresh : (blocks : ℕ) → HaveCounts (replicate blocks []) (replicate blocks [])
have_fresh zero = tt
have_fresh (suc blocks) = (refl, have_fresh blocks)

pub fresh_counts : (blocks : ℕ) → with_counts (replicate blocks []) (replicate blocks []) ≡ replicate blocks []
fresh_counts zero = refl
fresh_counts (suc blocks) = ap (λ rest. [] ∷ rest) (fresh_counts blocks)

-- a list whose first values are changed
module _ {X : Type 0} (f : X → X) where
  abbrev pub changed_front : ℕ → List X → List X
  changed_front k xs = map f (take k xs) ++ drop k xs

  -- the first of the others is as it was
  pub front_at : (xs : List X) (k : ℕ) (d : X) → get_or (changed_front k xs) k d ≡ get_or xs k d
  front_at [] zero d = refl
  front_at [] (suc k) d = refl
  front_at (x ∷ xs) zero d = refl
  front_at (x ∷ xs) (suc k) d = front_at xs k d

  pub front_set : (xs : List X) (k : ℕ) (d : X) → k < length xs → set (changed_front k xs) k (f (get_or (changed_front k xs) k d)) ≡ changed_front (suc k) xs
  front_set [] k d inside = absurd (omega (arith, inside))
  front_set (x ∷ xs) zero d inside = refl
  front_set (x ∷ xs) (suc k) d inside = ap (λ rest. f x ∷ rest) (front_set xs k d (omega (arith, inside)))

  pub front_length : (xs : List X) (k : ℕ) → length (changed_front k xs) ≡ length xs
  front_length [] zero = refl
  front_length [] (suc k) = refl
  front_length (x ∷ xs) zero = refl
  front_length (x ∷ xs) (suc k) = ap suc (front_length xs k)

  pub front_all : (xs : List X) → changed_front (length xs) xs ≡ map f xs
  front_all [] = refl
  front_all (x ∷ xs) = ap (λ rest. f x ∷ rest) (front_all xs)

-- the counts of blocks whose lists come one after another
pub length_begun : (n : ℕ) (lists : List (List ℕ)) → length (begun_rows n lists) ≡ length lists
length_begun n [] = refl
length_begun zero (hs ∷ lists) = ap suc (length_begun zero lists)
length_begun (suc n) (hs ∷ lists) = ap suc (length_begun n lists)

pub begun_none : (lists : List (List ℕ)) → begun_rows 0 lists ≡ replicate (length lists) []
begun_none [] = refl
begun_none (hs ∷ lists) = ap (λ rest. [] ∷ rest) (begun_none lists)

pub begun_all : (lists : List (List ℕ)) → begun_rows (length lists) lists ≡ fresh_rows lists
begun_all [] = refl
begun_all (hs ∷ lists) = ap (λ rest. no_syncs hs ∷ rest) (begun_all lists)

none_begun : (lists : List (List ℕ)) (j : ℕ) → get_or (begun_rows 0 lists) j [] ≡ []
none_begun (hs ∷ lists) (suc j) = none_begun lists j
none_begun _ _ = refl

-- a block to come has no objects yet
pub begun_beyond : (n : ℕ) (lists : List (List ℕ)) (j : ℕ) → n ≤ j → get_or (begun_rows n lists) j [] ≡ []
begun_beyond zero (hs ∷ lists) (suc j) beyond = none_begun lists j
begun_beyond (suc n) (hs ∷ lists) zero beyond = absurd (omega (arith, beyond))
begun_beyond (suc n) (hs ∷ lists) (suc j) beyond = begun_beyond n lists j (omega (arith, beyond))
begun_beyond _ _ _ beyond = refl

-- one block more
pub begun_next : (n : ℕ) (lists : List (List ℕ)) → n < length lists
    → set (begun_rows n lists) n (get_or (begun_rows n lists) n [] ++ no_syncs (get_or lists n [])) ≡ begun_rows (suc n) lists
begun_next n [] inside = absurd (omega (arith, inside))
begun_next zero (hs ∷ lists) inside = refl
begun_next (suc n) (hs ∷ lists) inside = ap (λ rest. no_syncs hs ∷ rest) (begun_next n lists (omega (arith, inside)))

-- each count is smaller than a larger number, and a Sync more makes it larger by 1 at most
pub few_in : (m n : ℕ) (xs : List SyncCount) → m ≤ n → AreFew m xs → AreFew n xs
few_in m n [] less few = tt
few_in m n (x ∷ xs) less few = (omega (arith, less, few.0), few_in m n xs less few.1)

pub few_more : (n h : ℕ) (xs : List SyncCount) → AreFew n xs → AreFew (suc n) (with_sync h xs)
few_more n h [] few = tt
few_more n h (x ∷ xs) few = (by_case (x.object == h), few_more n h xs few.1)
  where
    by_case : (b : Bool) → (if b then suc x.count else x.count) < suc n
    by_case true = let one = few.0 in omega (arith, one)
    by_case false = let one = few.0 in omega (arith, one)

pub few_none : (n : ℕ) (hs : List ℕ) → AreFew (suc n) (no_syncs hs)
few_none n [] = tt
few_none n (h ∷ hs) = (omega arith, few_none n hs)

no_syncs_push : (hs : List ℕ) (h : ℕ) → no_syncs (hs ++ h ∷ []) ≡ no_syncs hs ++ sync_count h 0 ∷ []
no_syncs_push [] h = refl
no_syncs_push (g ∷ hs) h = ap (λ rest. sync_count g 0 ∷ rest) (no_syncs_push hs h)

-- a list comes to a block, object after object
pub list_push : (rows : List (List SyncCount)) (k n : ℕ) (hs : List ℕ) (now : List (List SyncCount)) → k < length rows → n < length hs
    → now ≡ set rows k (get_or rows k [] ++ no_syncs (take n hs))
    → set now k (get_or now k [] ++ sync_count (get_or hs n 0) 0 ∷ []) ≡ set rows k (get_or rows k [] ++ no_syncs (take (n + 1) hs))
list_push rows k n hs now inside less is =
    let row : List SyncCount = get_or rows k [] ++ no_syncs (take n hs) in
    let next = sync_count (get_or hs n 0) 0 ∷ [] in
    (λ i. set (is i) k (get_or (is i) k [] ++ next))
    ∙ (set-set rows k row (get_or (set rows k row) k [] ++ next)
    ∙ (ap (λ xs. set rows k (xs ++ next)) (get_or-set_same rows k row [] inside)
    ∙ (ap (set rows k) (append_assoc (get_or rows k []) (no_syncs (take n hs)) next)
    ∙ ap (λ xs. set rows k (get_or rows k [] ++ xs)) (sym (no_syncs_push (take n hs) (get_or hs n 0)) ∙ ap no_syncs (sym (take_more hs n 0 less))))))
