-- A value is put behind the last one, and the first one is taken.
--     fresh, free_place, pushed, full_place, taken, none_left      what a chunk needs of its places
use Rattle.std.proofs.Common.{◌≡◌, ℕ, zero, suc, ◌+◌, ◌-◌, ◌<◌, ◌≤◌, List, [], ◌∷◌, ◌++◌, map, length, take, drop, set, get_or, replicate, Option, Some, None, refl, sym, ap, ◌∙◌, subst, inl, inr, arith, length-append, length-set, length-take}
use Rattle.std.proofs.lemmas.List.{take_at, drop_at, take-append-drop, set-append_left, set-append_right, get_or_append_left, get_or-append_right, get_or-replicate, append_assoc, append-nil, replicate_more, length-replicate, ext_get_or}
use Rattle.std.proofs.lemmas.Bool.{cases_lt}
use Rattle.qs_chunk.specs.Ring.{IsOn, rotate, values_of, places_with, ring_values, IsRing}

module _ {A : Type 0} where
  no_items : (xs : List A) → length xs ≡ 0 → xs ≡ []
  no_items [] none = refl
  no_items (x ∷ xs) none = absurd (omega arith)

  first_item : (xs : List A) → 0 < length xs → (x : A) × (ys : List A) × (xs ≡ x ∷ ys)
  first_item [] some = absurd (omega arith)
  first_item (x ∷ xs) some = (x, xs, refl)

  turned_at : (xs ys : List A) (start : ℕ) → length xs ≡ start → rotate start (xs ++ ys) ≡ ys ++ xs
  unfolding rotate
  turned_at xs ys start at = λ i. drop_at xs ys start at i ++ take_at xs ys start at i

  -- the items before an index, and those from it on
  cut_at : (start : ℕ) (zs : List A) → start ≤ length zs → (xs : List A) × (ys : List A) × (length xs ≡ start) × (xs ++ ys ≡ zs)
  cut_at start zs within = (take start zs, drop start zs, omega (arith, length-take start zs), take-append-drop start zs)

  module _ (xs ys : List A) (start capacity steps place : ℕ) (at : length xs ≡ start) (all : length xs + length ys ≡ capacity) (below : steps < capacity) (on : IsOn start steps capacity place) where
    split-set : (a : A) → rotate start (set (xs ++ ys) place a) ≡ set (ys ++ xs) steps a
    split-set a = let here = on.0 in elim on.1 [
      | inl e ↦ let back : place - length xs ≡ steps = omega arith in
          ap (rotate start) (set-append_right xs ys (length xs) place a refl (omega arith)) ∙ turned_at xs (set ys (place - length xs) a) start at
          ∙ ap (λ k. set ys k a ++ xs) back ∙ sym (set-append_left ys xs steps a (omega arith))
      | inr e ↦ let back : place ≡ steps - length ys = omega arith in
          ap (rotate start) (set-append_left xs ys place a (omega arith)) ∙ turned_at (set xs place a) ys start (length-set xs place a ∙ at)
          ∙ ap (λ k. ys ++ set xs k a) back ∙ sym (set-append_right ys xs (length ys) steps a refl (omega arith))
    ]

    split-get : (d : A) → get_or (ys ++ xs) steps d ≡ get_or (xs ++ ys) place d
    split-get d = let here = on.0 in elim on.1 [
      | inl e ↦ let back : steps ≡ place - length xs = omega arith in
          get_or_append_left ys xs d steps (omega arith) ∙ ap (λ k. get_or ys k d) back ∙ sym (get_or-append_right xs ys (length xs) place d refl (omega arith))
      | inr e ↦ let back : steps - length ys ≡ place = omega arith in
          get_or-append_right ys xs (length ys) steps d refl (omega arith) ∙ ap (λ k. get_or xs k d) back ∙ sym (get_or_append_left xs ys d place (omega arith))
    ]

  module _ (zs : List A) (start capacity steps place : ℕ) (long : length zs ≡ capacity) (begins : start < capacity) (below : steps < capacity) (on : IsOn start steps capacity place) where
    all_of : (xs ys : List A) → xs ++ ys ≡ zs → length xs + length ys ≡ capacity
    all_of xs ys whole = let both = ap length whole in omega (arith, length-append xs ys)

    -- what is written at a place is written as many steps on
    turned-set : (a : A) → rotate start (set zs place a) ≡ set (rotate start zs) steps a
    turned-set a =
        let c = cut_at start zs (omega arith) in
        subst (λ l. rotate start (set l place a) ≡ set (rotate start l) steps a) c.3
        (split-set c.0 c.1 start capacity steps place c.2 (all_of c.0 c.1 c.3) below on a ∙ ap (λ l. set l steps a) (sym (turned_at c.0 c.1 start c.2)))

    turned-get : (d : A) → get_or (rotate start zs) steps d ≡ get_or zs place d
    turned-get d =
        let c = cut_at start zs (omega arith) in
        subst (λ l. get_or (rotate start l) steps d ≡ get_or l place d) c.3
        (ap (λ l. get_or l steps d) (turned_at c.0 c.1 start c.2) ∙ split-get c.0 c.1 start capacity steps place c.2 (all_of c.0 c.1 c.3) below on d)

  -- one step on, the first item is the last one
  module _ (zs : List A) (start capacity next : ℕ) (long : length zs ≡ capacity) (begins : start < capacity) (on : IsOn start 1 capacity next) where
    split-next : (xs ys : List A) (a : A) → length xs ≡ start → xs ++ a ∷ ys ≡ zs → rotate next zs ≡ (ys ++ xs) ++ a ∷ []
    split-next xs ys a at whole = let here = on.0 in let both = ap length whole in let sum = length-append xs (a ∷ ys) in ap (rotate next) (sym whole) ∙ elim on.1 [
      | inl e ↦ ap (rotate next) (sym (append_assoc xs (a ∷ []) ys)) ∙ turned_at (xs ++ a ∷ []) ys next (omega (arith, length-append xs (a ∷ []))) ∙ sym (append_assoc ys xs (a ∷ []))
      | inr e ↦ let none : length ys ≡ 0 = omega arith in let first : 0 ≡ next = omega arith in let nil = no_items ys none in
          ap (λ k. rotate k (xs ++ a ∷ ys)) (sym first) ∙ turned_at [] (xs ++ a ∷ ys) 0 refl ∙ append-nil (xs ++ a ∷ ys) ∙ (λ i. xs ++ a ∷ nil i) ∙ (λ i. (sym nil i ++ xs) ++ a ∷ [])
    ]

    turned-next : (a : A) (rest : List A) → rotate start zs ≡ a ∷ rest → rotate next zs ≡ rest ++ a ∷ []
    turned-next a rest is =
        let c = cut_at start zs (omega arith) in let both = ap length c.3 in let more = first_item c.1 (omega (arith, c.2, length-append c.0 c.1)) in
        let whole = ap (λ l. c.0 ++ l) (sym more.2) ∙ c.3 in
        let turns : a ∷ rest ≡ more.0 ∷ (more.1 ++ c.0) = sym is ∙ ap (rotate start) (sym whole) ∙ turned_at c.0 (more.0 ∷ more.1) start c.2 in
        split-next c.0 more.1 more.0 c.2 whole ∙ sym (λ i. drop 1 (turns i) ++ get_or (turns i) 0 a ∷ [])

module _ {X : Type 0} where
  none_there : (k : ℕ) → values_of {X = X} (replicate k None) ≡ []
  none_there zero = refl
  none_there (suc k) = none_there k

  values_there : (xs : List X) (k : ℕ) → values_of (map Some xs ++ replicate k None) ≡ xs
  values_there [] k = none_there k
  values_there (x ∷ xs) k = ap (λ l. x ∷ l) (values_there xs k)

  filled_next : (xs : List X) (x : X) (k : ℕ) → set (map Some xs ++ replicate (suc k) None) (length xs) (Some x) ≡ map Some (xs ++ x ∷ []) ++ replicate k None
  filled_next [] x k = refl
  filled_next (y ∷ xs) x k = ap (λ l. Some y ∷ l) (filled_next xs x k)

  empty_next : (xs : List X) (k : ℕ) → get_or (map Some xs ++ replicate k None) (length xs) None ≡ None
  empty_next [] zero = refl
  empty_next [] (suc k) = refl
  empty_next (y ∷ xs) k = empty_next xs k

  values_of-places : (xs : List X) (n : ℕ) → values_of (places_with xs n) ≡ xs
  unfolding places_with
  values_of-places xs n = values_there xs (n - length xs)

  places-none : (n : ℕ) → replicate n None ≡ places_with {X = X} [] n
  unfolding places_with
  places-none n = let all : n ≡ n - 0 = omega arith in ap (λ k. replicate k None) all

  places-past : (xs : List X) (n : ℕ) → get_or (places_with xs n) (length xs) None ≡ None
  unfolding places_with
  places-past xs n = empty_next xs (n - length xs)

  places-push : (xs : List X) (x : X) (n : ℕ) → length xs < n → set (places_with xs n) (length xs) (Some x) ≡ places_with (xs ++ x ∷ []) n
  unfolding places_with
  places-push xs x n room =
      let left : n - length xs ≡ suc (n - length (xs ++ x ∷ [])) = omega (arith, length-append xs (x ∷ [])) in
      ap (λ k. set (map Some xs ++ replicate k None) (length xs) (Some x)) left ∙ filled_next xs x (n - length (xs ++ x ∷ []))

  -- without its first place, and with an empty one at the end
  places-take : (x : X) (xs : List X) (n : ℕ) → length xs < n → (rest : List (Option X)) × (places_with (x ∷ xs) n ≡ Some x ∷ rest) × (rest ++ None ∷ [] ≡ places_with xs n)
  unfolding places_with
  places-take x xs n room =
      let k = n - suc (length xs) in let left : k + 1 ≡ n - length xs = omega arith in let none : Option X = None in
      (map Some xs ++ replicate k none, refl, append_assoc (map Some xs) (replicate k none) (none ∷ []) ∙ ap (λ l. map Some xs ++ l) (replicate_more k none) ∙ ap (λ j. map Some xs ++ replicate j none) left)

module _ {X : Type 0} (places : List (Option X)) (capacity start count : ℕ) where
  -- places that turn into these values hold them
  holds : (xs : List X) → length places ≡ capacity → start < capacity → count ≡ length xs → count ≤ capacity → rotate start places ≡ places_with xs capacity
      → IsRing places capacity start count × (ring_values start places ≡ xs)
  unfolding ring_values
  holds xs long begins counted fits laid =
      let are : ring_values start places ≡ xs = ap values_of laid ∙ values_of-places xs capacity in
      (record { long = long; begins = begins; counted = (counted ∙ ap length (sym are), fits); laid = laid ∙ ap (λ l. places_with l capacity) (sym are) }, are)

  -- new places are empty
  pub fresh : places ≡ replicate capacity None → start ≡ 0 → count ≡ 0 → 0 < capacity → IsRing places capacity start count × (ring_values start places ≡ [])
  fresh empty first none some =
      holds [] (ap length empty ∙ length-replicate capacity None) (omega arith) none (omega arith)
      (ap (λ k. rotate k places) first ∙ turned_at [] places 0 refl ∙ append-nil places ∙ empty ∙ places-none capacity)

module _ {X : Type 0} {places : List (Option X)} {capacity start count : ℕ} (ring : IsRing places capacity start count) where
  abbrev values : List X
  values = ring_values start places

  -- the place behind the last value is empty
  pub free_place : (back : ℕ) → count < capacity → IsOn start count capacity back → (back < length places) × (get_or places back None ≡ None)
  free_place back room on = let here = on.0 in let long = ring.long in (
    omega arith,
    sym (turned-get places start capacity count back ring.long ring.begins room on None) ∙ ap (λ l. get_or l count None) ring.laid
        ∙ ap (λ k. get_or (places_with values capacity) k None) ring.counted.0 ∙ places-past values capacity,
  )

  pub pushed : (back : ℕ) (x : X) → count < capacity → IsOn start count capacity back
      → IsRing (set places back (Some x)) capacity start (count + 1) × (ring_values start (set places back (Some x)) ≡ values ++ x ∷ [])
  pushed back x room on = let counted = ring.counted.0 in
      holds (set places back (Some x)) capacity start (count + 1) (values ++ x ∷ []) (length-set places back (Some x) ∙ ring.long) ring.begins (omega (arith, length-append values (x ∷ []))) (omega arith)
      (turned-set places start capacity count back ring.long ring.begins room on (Some x) ∙ (λ i. set (ring.laid i) (counted i) (Some x)) ∙ places-push values x capacity (omega arith))

  -- where there is a value, the first one lies in front of the others
  front : 0 < count → (x : X) × (xs : List X) × (rest : List (Option X)) × (values ≡ x ∷ xs) × (rotate start places ≡ Some x ∷ rest) × (rest ++ None ∷ [] ≡ places_with xs capacity)
  front some = let counted = ring.counted.0 in let fits = ring.counted.1 in
      let first = first_item values (omega arith) in let size = ap length first.2 in let laid = places-take first.0 first.1 capacity (omega arith) in
      (first.0, first.1, laid.0, first.2, ring.laid ∙ ap (λ l. places_with l capacity) first.2 ∙ laid.1, laid.2)

  turns_from : (0 < capacity) × IsOn start 0 capacity start
  turns_from = let begins = ring.begins in (omega arith, (begins, inl (omega arith)))

  in_front : get_or places start None ≡ get_or (rotate start places) 0 None
  in_front = sym (turned-get places start capacity 0 start ring.long ring.begins turns_from.0 turns_from.1 None)

  -- the first place is full where there is a value
  pub full_place : 0 < count → (start < length places) × ((x : X) × (get_or places start None ≡ Some x))
  full_place some = let f = front some in let begins = ring.begins in let long = ring.long in (omega arith, (f.0, in_front ∙ ap (λ l. get_or l 0 None) f.4))

  pub taken : (next : ℕ) (x : X) → 0 < count → IsOn start 1 capacity next → get_or places start None ≡ Some x
      → IsRing (set places start None) capacity next (count - 1) × (values ≡ x ∷ ring_values next (set places start None))
  taken next x some on had = let counted = ring.counted.0 in let fits = ring.counted.1 in let f = front some in let size = ap length f.3 in
      let got : Some x ≡ Some f.0 = sym had ∙ in_front ∙ ap (λ l. get_or l 0 None) f.4 in let same : f.0 ≡ x = cc in
      let new = set places start None in let long = length-set places start None ∙ ring.long in
      let emptied = turned-set places start capacity 0 start ring.long ring.begins turns_from.0 turns_from.1 None ∙ ap (λ l. set l 0 None) f.4 in
      let left = holds new capacity next (count - 1) f.1 long on.0 (omega arith) (omega arith) (turned-next new start capacity next long ring.begins on None f.2 emptied ∙ f.5) in
      (left.0, f.3 ∙ (λ i. same i ∷ sym left.1 i))

  -- where no value is left, each place is empty
  pub none_left : count ≡ 0 → places ≡ replicate capacity None
  none_left none =
      let long = ring.long in let begins = ring.begins in let counted = ring.counted.0 in
      let laid = ring.laid ∙ ap (λ l. places_with l capacity) (no_items values (omega arith)) ∙ sym (places-none capacity) in
      ext_get_or None places (replicate capacity None) (ring.long ∙ sym (length-replicate capacity None)) (λ place within.
      let on : (steps : ℕ) × (steps < capacity) × IsOn start steps capacity place = elim (cases_lt place start) [
        | inl before ↦ (place + capacity - start, omega arith, (omega arith, inr (omega arith)))
        | inr after ↦ (place - start, omega arith, (omega arith, inl (omega arith)))
      ] in
      sym (turned-get places start capacity on.0 place ring.long ring.begins on.1 on.2 None) ∙ ap (λ l. get_or l on.0 None) laid
      ∙ get_or-replicate capacity on.0 None None on.1 ∙ sym (get_or-replicate capacity place None None (omega arith)))
