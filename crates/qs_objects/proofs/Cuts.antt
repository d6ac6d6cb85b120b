-- Rows cut from one list: what each row is, and what changes as a value comes to the last row that has any, or takes
-- another's place.
use Rattle.std.proofs.Common.{◌≡◌, ◌<◌, ◌≤◌, ℕ, zero, suc, ◌+◌, ◌-◌, ◌==◌, false, List, [], ◌∷◌, ◌++◌, length, get_or, set, take, drop, replicate, refl, sym, ap, ◌∙◌, subst, ⊎_elim, arith, take-append-drop}
use Rattle.std.proofs.lemmas.List.{take_all, take-append-le, drop-append-le, drop-drop, length-drop, length-set, length-take-le, length-append, get_or-set_same, get_or-set_other, take-set-le, drop-set-lt, drop-set-add}
use Rattle.std.proofs.Math.Seq.{take-set-lt}
use Rattle.qs_objects.specs.audit.Rows.{join_rows}
use Rattle.qs_objects.specs.Rows.{IsLast, rows_of_lengths, AreStarts, FillList, IsStart}
use Rattle.qs_objects.specs.Sums.{total}
use Rattle.qs_objects.proofs.Choices.{apart_eqb, num_cases}

-- no number after this is more than 0
abbrev pub AreZeroAfter : List ℕ → ℕ → Type 0
AreZeroAfter ns k = (j : ℕ) → k < j → get_or ns j 0 ≡ 0

pub total_front : (k : ℕ) (ns : List ℕ) → total (take k ns) + get_or ns k 0 ≤ total ns
total_front zero [] = omega arith
total_front zero (n ∷ ns) = omega arith
total_front (suc k) [] = omega arith
total_front (suc k) (n ∷ ns) = let rest = total_front k ns in omega (arith, rest)

total_zeros : (ns : List ℕ) → ((j : ℕ) → get_or ns j 0 ≡ 0) → total ns ≡ 0
total_zeros [] none = refl
total_zeros (n ∷ ns) none =
    let here : n ≡ 0 = none 0 in
    omega (arith, here, total_zeros ns (λ j. none (suc j)))

-- where no later number is more than 0, all before and this one make up the total
pub total_last : (k : ℕ) (ns : List ℕ) → k < length ns → AreZeroAfter ns k → total (take k ns) + get_or ns k 0 ≡ total ns
total_last k [] inside none = absurd (omega (arith, inside))
total_last zero (n ∷ ns) inside none = let rest = total_zeros ns (λ j. none (suc j) (omega arith)) in omega (arith, rest)
total_last (suc k) (n ∷ ns) inside none =
    let rest = total_last k ns (omega (arith, inside)) (λ j after. none (suc j) (omega (arith, after))) in omega (arith, rest)

pub total_set : (k : ℕ) (ns : List ℕ) (m : ℕ) → k < length ns → total (set ns k m) + get_or ns k 0 ≡ total ns + m
total_set k [] m inside = absurd (omega (arith, inside))
total_set zero (n ∷ ns) m inside = omega arith
total_set (suc k) (n ∷ ns) m inside = let rest = total_set k ns m (omega (arith, inside)) in omega (arith, rest)

module _ {X : Type 0} where
  pub length_cut : (ns : List ℕ) (xs : List X) → length (rows_of_lengths ns xs) ≡ length ns
  length_cut [] xs = refl
  length_cut (n ∷ ns) xs = ap suc (length_cut ns (drop n xs))

  pub row_of_cut : (ns : List ℕ) (xs : List X) (k : ℕ) → get_or (rows_of_lengths ns xs) k [] ≡ take (get_or ns k 0) (drop (total (take k ns)) xs)
  row_of_cut (n ∷ ns) xs (suc k) =
      row_of_cut ns (drop n xs) k ∙ ap (take (get_or ns k 0)) (drop-drop (total (take k ns)) n xs)
  row_of_cut _ xs _ = refl

  pub length_row : (ns : List ℕ) (xs : List X) (k : ℕ) → total ns ≤ length xs → length (get_or (rows_of_lengths ns xs) k []) ≡ get_or ns k 0
  length_row ns xs k fits =
      let left = length-drop (total (take k ns)) xs in
      ap length (row_of_cut ns xs k) ∙ length-take-le (get_or ns k 0) (drop (total (take k ns)) xs) (omega (arith, total_front k ns, left, fits))

  -- rows that have no values have the length 0
  pub zero_after : (ns : List ℕ) (xs : List X) (k : ℕ) → total ns ≤ length xs → IsLast (rows_of_lengths ns xs) k → AreZeroAfter ns k
  zero_after ns xs k fits last j after = sym (length_row ns xs j fits) ∙ ap length (last j after)

  -- rows of length 0 are empty, whatever they are cut from
  cut_zeros : (ns : List ℕ) (xs ys : List X) → ((j : ℕ) → get_or ns j 0 ≡ 0) → rows_of_lengths ns xs ≡ rows_of_lengths ns ys
  cut_zeros [] xs ys none = refl
  cut_zeros (n ∷ ns) xs ys none =
      let here : n ≡ 0 = none 0 in
      ap (λ m. take m xs ∷ rows_of_lengths ns (drop n xs)) here
      ∙ (ap (λ rest. [] ∷ rest) (cut_zeros ns (drop n xs) (drop n ys) (λ j. none (suc j)))
      ∙ sym (ap (λ m. take m ys ∷ rows_of_lengths ns (drop n ys)) here))

  -- a value more, at the end of the last row that has any
  pub cut_push : (ns : List ℕ) (xs : List X) (x : X) (k : ℕ) → k < length ns → total ns ≡ length xs → AreZeroAfter ns k
      → rows_of_lengths (set ns k (get_or ns k 0 + 1)) (xs ++ x ∷ []) ≡ set (rows_of_lengths ns xs) k (get_or (rows_of_lengths ns xs) k [] ++ x ∷ [])
  cut_push [] xs x k inside all none = absurd (omega (arith, inside))
  cut_push (n ∷ ns) xs x zero inside all none =
      let zeros : (j : ℕ) → get_or ns j 0 ≡ 0 = λ j. none (suc j) (omega arith) in
      let rest = total_zeros ns zeros in
      let long = length-append xs (x ∷ []) in
      let whole : take (n + 1) (xs ++ x ∷ []) ≡ xs ++ x ∷ [] = take_all (n + 1) (xs ++ x ∷ []) (omega (arith, all, rest, long)) in
      let old : take n xs ≡ xs = take_all n xs (omega (arith, all, rest)) in
      ap (λ row. row ∷ rows_of_lengths ns (drop (n + 1) (xs ++ x ∷ []))) (whole ∙ sym (ap (λ row. row ++ x ∷ []) old))
      ∙ ap (λ rows. (take n xs ++ x ∷ []) ∷ rows) (cut_zeros ns (drop (n + 1) (xs ++ x ∷ [])) (drop n xs) zeros)
  cut_push (n ∷ ns) xs x (suc k) inside all none =
      let low : n ≤ length xs = omega (arith, all) in
      ap (λ row. row ∷ rows_of_lengths (set ns k (get_or ns k 0 + 1)) (drop n (xs ++ x ∷ []))) (take-append-le n xs (x ∷ []) low)
      ∙ (ap (λ ys. take n xs ∷ rows_of_lengths (set ns k (get_or ns k 0 + 1)) ys) (drop-append-le n xs (x ∷ []) low)
      ∙ ap (λ rows. take n xs ∷ rows)
      (cut_push ns (drop n xs) x k (omega (arith, inside)) (omega (arith, all, length-drop n xs)) (λ j after. none (suc j) (omega (arith, after)))))

  -- a value in the place of another
  pub cut_set : (ns : List ℕ) (xs : List X) (y : X) (k i : ℕ) → i < get_or ns k 0
      → rows_of_lengths ns (set xs (total (take k ns) + i) y) ≡ set (rows_of_lengths ns xs) k (set (get_or (rows_of_lengths ns xs) k []) i y)
  cut_set [] xs y k i inside = absurd (omega (arith, inside))
  cut_set (n ∷ ns) xs y zero i inside =
      let at : total [] + i ≡ i = omega arith in
      ap (λ j. take n (set xs j y) ∷ rows_of_lengths ns (drop n (set xs j y))) at
      ∙ (ap (λ row. row ∷ rows_of_lengths ns (drop n (set xs i y))) (take-set-lt n xs i y inside)
      ∙ ap (λ ys. set (take n xs) i y ∷ rows_of_lengths ns ys) (drop-set-lt n xs i y inside))
  cut_set (n ∷ ns) xs y (suc k) i inside =
      let on : total (n ∷ take k ns) + i ≡ n + (total (take k ns) + i) = omega arith in
      ap (λ j. take n (set xs j y) ∷ rows_of_lengths ns (drop n (set xs j y))) on
      ∙ (ap (λ row. row ∷ rows_of_lengths ns (drop n (set xs (n + (total (take k ns) + i)) y)))
      (take-set-le n xs (n + (total (take k ns) + i)) y (omega arith))
      ∙ (ap (λ ys. take n xs ∷ rows_of_lengths ns ys) (drop-set-add n xs (total (take k ns) + i) y)
      ∙ ap (λ rows. take n xs ∷ rows) (cut_set ns (drop n xs) y k i inside)))

  -- one row after another they are the whole list
  pub joined_cut : (ns : List ℕ) (xs : List X) → total ns ≡ length xs → join_rows (rows_of_lengths ns xs) ≡ xs
  joined_cut [] [] all = refl
  joined_cut [] (x ∷ xs) all = absurd (omega (arith, all))
  joined_cut (n ∷ ns) xs all =
      ap (λ rows. take n xs ++ rows) (joined_cut ns (drop n xs) (omega (arith, all, length-drop n xs))) ∙ take-append-drop n xs

  -- empty rows
  pub cut_empty : (rows : ℕ) → rows_of_lengths {X = X} (replicate rows 0) [] ≡ replicate rows []
  cut_empty zero = refl
  cut_empty (suc rows) = ap (λ rest. [] ∷ rest) (cut_empty rows)

-- rows without values start at the list's beginning
pub zero_starts : (rows : ℕ) → AreStarts (replicate rows 0) (replicate rows 0)
zero_starts rows k inside =
    let start : ◌≡◌ {A = ℕ} (get_or (replicate rows 0) k 0) 0 = by_length rows k in
    record { within = omega (arith, start); exact = λ some. absurd (omega (arith, start, some)) }
  where
    by_length : (rows k : ℕ) → ◌≡◌ {A = ℕ} (get_or (replicate rows 0) k 0) 0
    by_length (suc rows) (suc k) = by_length rows k
    by_length _ _ = refl

pub total_replicate : (rows : ℕ) → total (replicate rows 0) ≡ 0
total_replicate zero = refl
total_replicate (suc rows) = let rest = total_replicate rows in omega (arith, rest)

-- where a value comes to the last row that has any, the row starts where the rows before it end
pub starts_push : (starts ns : List ℕ) (k : ℕ) → k < length ns → length starts ≡ length ns → AreStarts starts ns → AreZeroAfter ns k
    → AreStarts (set starts k (total ns - get_or ns k 0)) (set ns k (get_or ns k 0 + 1))
starts_push starts ns k inside same is none j within =
    let more = total_set k ns (get_or ns k 0 + 1) inside in
    let last = total_last k ns inside none in
    ⊎_elim
    (λ (here : k ≡ j).
    let start : get_or (set starts k (total ns - get_or ns k 0)) k 0 ≡ total ns - get_or ns k 0 =
    get_or-set_same starts k (total ns - get_or ns k 0) 0 (omega (arith, same, inside)) in
    let long : get_or (set ns k (get_or ns k 0 + 1)) k 0 ≡ get_or ns k 0 + 1 = get_or-set_same ns k (get_or ns k 0 + 1) 0 inside in
    let front : total (take k (set ns k (get_or ns k 0 + 1))) ≡ total (take k ns) = ap total (take-set-le k ns k (get_or ns k 0 + 1) (omega arith)) in
    subst (λ j. IsStart (set starts k (total ns - get_or ns k 0)) (set ns k (get_or ns k 0 + 1)) j) here
    (record { within = omega (arith, start, long, more, last); exact = λ some. omega (arith, start, front, last) }))
    (λ (other : (k == j) ≡ false).
    let apart : j ≡ k → ⊥ = λ e. apart_eqb k j other (sym e) in
    let start : get_or (set starts k (total ns - get_or ns k 0)) j 0 ≡ get_or starts j 0 =
    get_or-set_other starts k j (total ns - get_or ns k 0) 0 apart in
    let long : get_or (set ns k (get_or ns k 0 + 1)) j 0 ≡ get_or ns j 0 = get_or-set_other ns k j (get_or ns k 0 + 1) 0 apart in
    let old = is j (let n = length-set ns k (get_or ns k 0 + 1) in omega (arith, within, n)) in
    record {
      within = let w = old.within in omega (arith, start, long, more, w);
      exact = λ some.
          let before : j ≤ k = below j apart (λ after. let z = none j after in omega (arith, some, long, z)) in
          let front : total (take j (set ns k (get_or ns k 0 + 1))) ≡ total (take j ns) = ap total (take-set-le j ns k (get_or ns k 0 + 1) before) in
          omega (arith, start, front, old.exact (omega (arith, some, long)));
    })
    (num_cases k j)
  where
    below : (j : ℕ) → (j ≡ k → ⊥) → (k < j → ⊥) → j ≤ k
    below j apart not_after = omega (arith, apart, not_after)

-- what a list of rows keeps
module _ {X : Type 0} (starts ns : List ℕ) (xs : List X) (room capacity : ℕ) (is : FillList starts ns (length xs) room capacity) where
  -- a row's number
  pub row_inside : (k : ℕ) → k < length (rows_of_lengths ns xs) → k < length ns
  row_inside k inside = let same = length_cut ns xs in omega (arith, inside, same)

  pub start_inside : (k : ℕ) → k < length (rows_of_lengths ns xs) → k < length starts
  start_inside k inside = let own = row_inside k inside in let many = is.many in omega (arith, own, many)

  -- a row lies in the list
  pub row_within : (k s n : ℕ) → k < length (rows_of_lengths ns xs) → s ≡ get_or starts k 0 → n ≡ get_or ns k 0 → s + n ≤ length xs
  row_within k s n inside start long =
      let here = (is.begin k (row_inside k inside)).within in
      omega (arith, start, long, here, is.whole)

  -- and is this part of it
  pub row_is : (k s n : ℕ) → k < length (rows_of_lengths ns xs) → s ≡ get_or starts k 0 → n ≡ get_or ns k 0 → take n (drop s xs) ≡ get_or (rows_of_lengths ns xs) k []
  row_is k s n inside start long = by_length n refl
    where
      here : IsStart starts ns k
      here = is.begin k (row_inside k inside)

      by_length : (m : ℕ) → n ≡ m → take n (drop s xs) ≡ get_or (rows_of_lengths ns xs) k []
      by_length zero none =
          let zeros : get_or ns k 0 ≡ 0 = omega (arith, long, none) in
          ap (λ m. take m (drop s xs)) none
          ∙ sym (row_of_cut ns xs k ∙ ap (λ m. take m (drop (total (take k ns)) xs)) zeros)
      by_length (suc m) some =
          let at : s ≡ total (take k ns) = omega (arith, start, here.exact (omega (arith, long, some))) in
          ap (λ m. take m (drop s xs)) long ∙ (ap (λ s. take (get_or ns k 0) (drop s xs)) at ∙ sym (row_of_cut ns xs k))

  -- a value more at the end of the last row that has any
  module _ (k : ℕ) (x : X) (inside : k < length (rows_of_lengths ns xs)) (last : IsLast (rows_of_lengths ns xs) k) (more : 0 < room) where
    none_after : AreZeroAfter ns k
    none_after = let whole = is.whole in zero_after ns xs k (omega (arith, whole)) last

    pub fill_push : (n c : ℕ) → n ≡ get_or ns k 0 → c ≡ length xs
        → FillList (set starts k (c - n)) (set ns k (n + 1)) (length (xs ++ x ∷ [])) (room - 1) capacity
    fill_push n c long count =
        let own = row_inside k inside in
        let grown = length-append xs (x ∷ []) in
        let whole = is.whole in
        let fits = is.fits in
        let starting : set starts k (c - n) ≡ set starts k (total ns - get_or ns k 0) =
        ap (set starts k) (let same : c - n ≡ total ns - get_or ns k 0 = omega (arith, long, count, whole) in same) in
        subst (λ m. FillList (set starts k (c - n)) (set ns k (m + 1)) (length (xs ++ x ∷ [])) (room - 1) capacity) (sym long)
        (subst (λ ss. FillList ss (set ns k (get_or ns k 0 + 1)) (length (xs ++ x ∷ [])) (room - 1) capacity) (sym starting)
        (record {
          whole = omega (arith, total_set k ns (get_or ns k 0 + 1) own, grown, whole);
          fits = omega (arith, grown, fits, more);
          many = length-set starts k (total ns - get_or ns k 0) ∙ (is.many ∙ sym (length-set ns k (get_or ns k 0 + 1)));
          begin = starts_push starts ns k own is.many is.begin none_after;
        }))

    pub rows_push : (n : ℕ) → n ≡ get_or ns k 0 → rows_of_lengths (set ns k (n + 1)) (xs ++ x ∷ []) ≡ set (rows_of_lengths ns xs) k (get_or (rows_of_lengths ns xs) k [] ++ x ∷ [])
    rows_push n long =
        ap (λ m. rows_of_lengths (set ns k (m + 1)) (xs ++ x ∷ [])) long ∙ cut_push ns xs x k (row_inside k inside) is.whole none_after

  -- a value in the place of another
  module _ (k i s : ℕ) (y : X) (inside : k < length (rows_of_lengths ns xs)) (place : i < length (get_or (rows_of_lengths ns xs) k [])) (start : s ≡ get_or starts k 0) where
    in_row : i < get_or ns k 0
    in_row = let whole = is.whole in let long = length_row ns xs k (omega (arith, whole)) in omega (arith, place, long)

    pub place_within : s + i < length xs
    place_within =
        let here = (is.begin k (row_inside k inside)).within in
        omega (arith, start, here, is.whole, in_row)

    pub rows_set : rows_of_lengths ns (set xs (s + i) y) ≡ set (rows_of_lengths ns xs) k (set (get_or (rows_of_lengths ns xs) k []) i y)
    rows_set =
        let own = in_row in
        let exact = (is.begin k (row_inside k inside)).exact (omega (arith, own)) in
        let at : s ≡ total (take k ns) = omega (arith, start, exact) in
        ap (λ s. rows_of_lengths ns (set xs (s + i) y)) at ∙ cut_set ns xs y k i own
