-- A loop over a list of statements that replaces formals by objects gives what the definition `bound_statements` says,
-- and the result is nested as deep as the text over formals. The proof of the functions that do this stands on it. The
-- invariant is that the statements made so far, joined with what the rest stands for, are what the whole list stands
-- for.
use Rattle.std.proofs.Common.{◌≡◌, ℕ, zero, suc, ◌+◌, ◌<◌, ◌≤◌, Bool, true, false, not, ◌||◌, ◌&&◌, ◌==◌, List, [], ◌∷◌, ◌++◌, length, map, filter, get_or, drop, refl, ap, sym, ◌∙◌, add-one, append_assoc, append-nil, arith, if◌then◌else◌, drop-cons, eqb-true}
use Rattle.std.proofs.lemmas.List.Folds.{list_any-append}
use Rattle.std.proofs.lemmas.List.{drop_all}
use mathlib.Core.Bool.{or-false}
use Rattle.qs_program.specs.audit.Binding.{bound, bound_statements, first_of_each}
use Rattle.qs_program.specs.declared.code.Stmt.{Stmt}
use Rattle.qs_program.specs.declared.code.Stmt.TheVariants.{Command}
use Rattle.qs_program.specs.audit.Sound.{is_in}
use Rattle.qs_program.specs.Sound.{levels_of}
use Rattle.qs_program.specs.audit.Statements.{Statements}
use Rattle.qs_program.specs.Statements.{join_statements}
use Rattle.qs_program.specs.Views.{single, statements_of}
use Rattle.qs_program.proofs.Found.{apart, same, false_not_true}
use Rattle.qs_program.proofs.StatementLists.{joined_assoc, joined-end}

first_levels : (s : Stmt) (xs : List Stmt) → levels_of (single s) ≤ levels_of (statements_of (s ∷ xs))
first_levels (Command c) xs = omega arith
first_levels _ xs = omega arith

later_levels : (s : Stmt) (xs : List Stmt) → levels_of (statements_of xs) ≤ levels_of (statements_of (s ∷ xs))
later_levels (Command c) xs = omega arith
later_levels _ xs = omega arith

-- a statement of a list is nested no deeper than the list
pub levels_at : (xs : List Stmt) (i : ℕ) (d : Stmt) → i < length xs → levels_of (single (get_or xs i d)) ≤ levels_of (statements_of xs)
levels_at [] i d within = absurd (omega arith)
levels_at (x ∷ xs) zero d within = first_levels x xs
levels_at (x ∷ xs) (suc i) d within = omega (arith, levels_at xs i d (omega arith), later_levels x xs)

module _ (B : List ℕ) where
  bound-cons : (s : Stmt) (xs : List Stmt) → bound_statements B (statements_of (s ∷ xs)) ≡ join_statements (bound_statements B (single s)) (bound_statements B (statements_of xs))
  bound-cons (Command c) xs = refl
  bound-cons _ xs = refl

  bound-drop : (xs : List Stmt) (i : ℕ) (d : Stmt) → i < length xs → bound_statements B (statements_of (drop i xs)) ≡ join_statements (bound_statements B (single (get_or xs i d))) (bound_statements B (statements_of (drop (i + 1) xs)))
  bound-drop xs i d within = rw (drop-cons xs i d within, add-one) (bound-cons (get_or xs i d) (drop (suc i) xs))

  module _ (xs : List Stmt) (i : ℕ) (code : Statements)
      (so_far : bound_statements B (statements_of xs) ≡ join_statements code (bound_statements B (statements_of (drop i xs)))) where
    pub goes_on : (item : Stmt) (new : Statements) (s : Stmt) → i < length xs → item ≡ get_or xs i item → single s ≡ bound_statements B (single item) → new ≡ join_statements code (single s) → bound_statements B (statements_of xs) ≡ join_statements new (bound_statements B (statements_of (drop (i + 1) xs)))
    goes_on item new s within item_is same new_is =
        let later : Statements = bound_statements B (statements_of (drop (i + 1) xs)) in
        so_far
        ∙ ap (join_statements code) (bound-drop xs i item within ∙ ap (λ x. join_statements (bound_statements B (single x)) later) (sym item_is))
        ∙ sym (joined_assoc code (bound_statements B (single item)) later)
        ∙ ap (λ x. join_statements x later) (sym (new_is ∙ ap (join_statements code) same))

    pub all_done : length xs ≤ i → code ≡ bound_statements B (statements_of xs)
    all_done past = sym (so_far ∙ rw (drop_all i xs past) (joined-end code))

-- ---- each number where it comes first

-- the numbers so far, with those of the rest that are not among them
abbrev pub with_firsts : List ℕ → List ℕ → List ℕ
with_firsts seen [] = seen
with_firsts seen (x ∷ xs) = if is_in seen x then with_firsts seen xs else with_firsts (seen ++ x ∷ []) xs

-- whether a number is none of those so far
abbrev pub is_new : List ℕ → ℕ → Bool
is_new seen y = not (is_in seen y)

both_by : (y : ℕ) (b c : Bool) (p : ℕ → Bool) (xs : List ℕ) → p y ≡ c → (if b then (if p y then y ∷ xs else xs) else xs) ≡ (if b && c then y ∷ xs else xs)
both_by y false c p xs e = refl
both_by y true _ p xs e = ap (λ d. if d then y ∷ xs else xs) e

filter_if : (p : ℕ → Bool) (b : Bool) (y : ℕ) (xs : List ℕ) → filter p (if b then y ∷ xs else xs) ≡ (if b then (if p y then y ∷ filter p xs else filter p xs) else filter p xs)
filter_if p true y xs = refl
filter_if p false y xs = refl

-- two tests one after the other are one test
filter_both : (p q r : ℕ → Bool) (xs : List ℕ) → ((y : ℕ) → r y ≡ (q y && p y)) → filter p (filter q xs) ≡ filter r xs
filter_both p q r [] e = refl
filter_both p q r (y ∷ ys) e =
    filter_if p (q y) y (filter q ys)
    ∙ both_by y (q y) (p y) p (filter p (filter q ys)) refl
    ∙ ap (λ zs. if q y && p y then y ∷ zs else zs) (filter_both p q r ys e)
    ∙ ap (λ d. if d then y ∷ filter r ys else filter r ys) (sym (e y))

seen_by : (seen : List ℕ) (x y : ℕ) (b : Bool) → (y == x) ≡ b → is_in seen x ≡ true → is_new seen y ≡ (not b && is_new seen y)
seen_by seen x y true e h = ap not (ap (is_in seen) (eqb-true y x e) ∙ h)
seen_by seen x y false e h = refl

in_last : (seen : List ℕ) (x y : ℕ) → is_in (seen ++ x ∷ []) y ≡ (is_in seen y || (x == y))
in_last seen x y = list_any-append (λ z. z == y) seen (x ∷ []) ∙ ap (λ b. is_in seen y || b) (or-false (x == y))

turned : (x y : ℕ) → (x == y) ≡ (y == x)
turned x y = by_case (x == y) refl
  where
    by_case : (b : Bool) → (x == y) ≡ b → b ≡ (y == x)
    by_case true e = sym (ap (λ z. z == x) (sym (eqb-true x y e)) ∙ same x)
    by_case false e = sym (apart y x (λ q. false_not_true (x == y) (ap (λ z. z == y) (sym q) ∙ same y) e))

neither : (a b : Bool) → not (a || b) ≡ (not b && not a)
neither true true = refl
neither true false = refl
neither false true = refl
neither false false = refl

new_last : (seen : List ℕ) (x y : ℕ) → is_new (seen ++ x ∷ []) y ≡ (not (y == x) && is_new seen y)
new_last seen x y =
    ap not (in_last seen x y) ∙ neither (is_in seen y) (x == y) ∙ ap (λ b. not b && is_new seen y) (turned x y)

firsts_if : (seen : List ℕ) (x : ℕ) (xs : List ℕ) (b : Bool) → is_in seen x ≡ b → with_firsts seen xs ≡ seen ++ filter (is_new seen) (first_of_each xs) → with_firsts (seen ++ x ∷ []) xs ≡ (seen ++ x ∷ []) ++ filter (is_new (seen ++ x ∷ [])) (first_of_each xs) → (if b then with_firsts seen xs else with_firsts (seen ++ x ∷ []) xs) ≡ seen ++ (if not b then x ∷ filter (is_new seen) (filter (λ y. not (y == x)) (first_of_each xs)) else filter (is_new seen) (filter (λ y. not (y == x)) (first_of_each xs)))
firsts_if seen x xs true e f g =
    f ∙ ap (λ ys. seen ++ ys) (sym (filter_both (is_new seen) (λ y. not (y == x)) (is_new seen) (first_of_each xs) (λ y. seen_by seen x y (y == x) refl e)))
firsts_if seen x xs false e f g =
    g
    ∙ append_assoc seen (x ∷ []) (filter (is_new (seen ++ x ∷ [])) (first_of_each xs))
    ∙ ap (λ ys. seen ++ (x ∷ ys)) (sym (filter_both (is_new seen) (λ y. not (y == x)) (is_new (seen ++ x ∷ [])) (first_of_each xs) (new_last seen x)))

firsts : (seen xs : List ℕ) → with_firsts seen xs ≡ seen ++ filter (is_new seen) (first_of_each xs)
firsts seen [] = sym (append-nil seen)
firsts seen (x ∷ xs) = firsts_if seen x xs (is_in seen x) refl (firsts seen xs) (firsts (seen ++ x ∷ []) xs)

all_new : (xs : List ℕ) → filter (is_new []) xs ≡ xs
all_new [] = refl
all_new (x ∷ xs) = ap (λ ys. x ∷ ys) (all_new xs)

pub firsts_are : (xs : List ℕ) → with_firsts [] xs ≡ first_of_each xs
firsts_are xs = firsts [] xs ∙ all_new (first_of_each xs)

module _ (B : List ℕ) (names : List ℕ) (i : ℕ) (within : i < length names) where
  names-drop : map (bound B) (drop i names) ≡ bound B (get_or names i 0) ∷ map (bound B) (drop (i + 1) names)
  names-drop = rw (drop-cons names i 0 within, add-one) refl

  -- the names that are left, after one more object is there
  pub first_more : (seen more : List ℕ) (object : ℕ) → object ≡ bound B (get_or names i 0) → more ≡ (if is_in seen object then seen else seen ++ object ∷ []) → with_firsts seen (map (bound B) (drop i names)) ≡ with_firsts more (map (bound B) (drop (i + 1) names))
  first_more seen more object e h =
      let later = map (bound B) (drop (i + 1) names) in
      ap (with_firsts seen) names-drop
      ∙ ap (λ o. with_firsts seen (o ∷ later)) (sym e)
      ∙ pushed seen object later (is_in seen object)
      ∙ ap (λ ns. with_firsts ns later) (sym h)
    where
      pushed : (seen : List ℕ) (o : ℕ) (later : List ℕ) (b : Bool) → (if b then with_firsts seen later else with_firsts (seen ++ o ∷ []) later) ≡ with_firsts (if b then seen else seen ++ o ∷ []) later
      pushed seen o later true = refl
      pushed seen o later false = refl
