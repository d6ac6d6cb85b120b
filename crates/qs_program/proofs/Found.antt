-- The number under which a name is found is its place in the list of names: it is in range, it stays when more names
-- are added, and two different names have different numbers. The proofs of the check, which replaces names by numbers,
-- stand on it. It goes by induction on the list of names.
use Rattle.std.proofs.Common.{◌≡◌, ◌≢◌, ℕ, suc, ◌+◌, ◌<◌, ◌≤◌, Bool, true, false, not, ◌||◌, ◌==◌, cond, nat_lt, List, [], ◌∷◌, ◌++◌, length, get_or, Some, None, unwrap_or, refl, ap, sym, ◌∙◌, arith}
use Rattle.std.proofs.lemmas.Bool.Decides.{nat_tests}
use Rattle.std.proofs.lemmas.List.Folds.{list_any-append}
use Rattle.std.proofs.lemmas.List.Sums.{prefix_len_stops}
use Rattle.std.specs.Cmp.Lexicographic.{same_text, other_text}
use Rattle.std.specs.List.{list_any, position, position_or_len}
use Rattle.std.proofs.lemmas.Bool.{lt-ltb, or_right, not-false}
use Rattle.qs_program.specs.audit.Numbering.{Name, same_name, is_among, found_at}
use Rattle.qs_program.specs.audit.Limits.{most_variables}

within_cons : (b : Bool) (i n : ℕ) (later : Bool) → (later ≡ true → i < n) → (b || later) ≡ true → cond (not b) (1 + i) 0 < suc n
within_cons true i n later f h = omega arith
within_cons false i n later f h = omega (arith, f h)

append_cons : (b : Bool) (i j : ℕ) (later : Bool) → (later ≡ true → i ≡ j) → (b || later) ≡ true → cond (not b) (1 + i) 0 ≡ cond (not b) (1 + j) 0
append_cons true i j later f h = refl
append_cons false i j later f h = ap (λ k. 1 + k) (f h)

picked : (b : Bool) (i : ℕ) → b ≡ true → unwrap_or (cond b (Some i) None) 0 ≡ i
picked true i h = refl
picked false i h = cc

small : (b : Bool) (i n : ℕ) → b ≡ nat_lt i n → n ≤ most_variables → unwrap_or (cond b (Some i) None) 0 < most_variables
small true i n e h = let lt : i < n = grind (arith, nat_tests) in omega arith
small false i n e h = omega arith

pub false_not_true : {P : Type 0} (b : Bool) → b ≡ true → b ≡ false → P
false_not_true b t f = cc

pub apart : (a b : ℕ) → a ≢ b → (a == b) ≡ false
apart a b h = grind (arith, nat_tests)

pub same : (a : ℕ) → (a == a) ≡ true
same a = grind (arith, nat_tests)

module _ (p : Name → Bool) where
  place_within : (xs : List Name) → list_any p xs ≡ true → position_or_len p xs < length xs
  place_within [] h = cc
  place_within (x ∷ xs) h = within_cons (p x) (position_or_len p xs) (length xs) (list_any p xs) (place_within xs) h

  place_append : (xs ys : List Name) → list_any p xs ≡ true → position_or_len p (xs ++ ys) ≡ position_or_len p xs
  place_append [] ys h = cc
  place_append (x ∷ xs) ys h = append_cons (p x) (position_or_len p (xs ++ ys)) (position_or_len p xs) (list_any p xs) (place_append xs ys) h

  pub found_is : (xs : List Name) → list_any p xs ≡ true → unwrap_or (position p xs) 0 ≡ position_or_len p xs
  found_is xs h = picked (nat_lt (position_or_len p xs) (length xs)) (position_or_len p xs) (lt-ltb (position_or_len p xs) (length xs) (place_within xs h))

  any_front : (xs ys : List Name) → list_any p xs ≡ true → list_any p (xs ++ ys) ≡ true
  any_front xs ys h = list_any-append p xs ys ∙ ap (λ b. b || list_any p ys) h

true_by : (b : Bool) → (b ≡ false → b ≡ true) → b ≡ true
true_by true h = refl
true_by false h = h refl

pub same_name-refl : (a : Name) → same_name a a ≡ true
same_name-refl a = true_by (same_name a a) (λ h. absurd (other_text a a (sym h) refl))

pub found_small : (names : List Name) (x : Name) → length names ≤ most_variables → found_at names x < most_variables
found_small names x h = small (nat_lt (position_or_len (same_name x) names) (length names)) (position_or_len (same_name x) names) (length names) refl h

pub is_among-append : (xs ys : List Name) (o : Name) → is_among xs o ≡ true → is_among (xs ++ ys) o ≡ true
is_among-append xs ys o h = any_front (same_name o) xs ys h

pub found_within : (xs : List Name) (o : Name) → is_among xs o ≡ true → found_at xs o < length xs
found_within xs o h = rw (found_is (same_name o) xs h) (place_within (same_name o) xs h)

pub found_append : (xs ys : List Name) (o : Name) → is_among xs o ≡ true → found_at (xs ++ ys) o ≡ found_at xs o
found_append xs ys o h =
    found_is (same_name o) (xs ++ ys) (any_front (same_name o) xs ys h) ∙ place_append (same_name o) xs ys h ∙ sym (found_is (same_name o) xs h)

-- a name is what stands at its number
pub name_at : (xs : List Name) (o : Name) → is_among xs o ≡ true → o ≡ get_or xs (found_at xs o) []
name_at xs o h =
    let p = same_name o in
    let here : p (get_or xs (position_or_len p xs) []) ≡ true = not-false (p (get_or xs (position_or_len p xs) [])) (prefix_len_stops (λ x. not (p x)) xs [] (place_within p xs h)) in
    same_text o (get_or xs (position_or_len p xs) []) (sym here) ∙ ap (λ i. get_or xs i []) (sym (found_is p xs h))

pub found_apart : (xs : List Name) (a b : Name) → is_among xs a ≡ true → is_among xs b ≡ true → found_at xs a ≡ found_at xs b → a ≡ b
found_apart xs a b ha hb e = name_at xs a ha ∙ ap (λ i. get_or xs i []) e ∙ sym (name_at xs b hb)

pub is_among-last : (xs : List Name) (o : Name) → is_among (xs ++ o ∷ []) o ≡ true
is_among-last [] o = ap (λ b. b || false) (same_name-refl o)
is_among-last (x ∷ xs) o = or_right (same_name o x) (is_among (xs ++ o ∷ []) o) (is_among-last xs o)
