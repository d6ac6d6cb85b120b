-- Whatever is a condition by the grammar is read, and so a list of signs has at most one tree. The promise of the
-- reader that it refuses no condition stands on it. It goes by induction on the tree; the first sign of each part tells
-- it from all others, and each part takes a sign, so that the chains have steps enough.
use Rattle.std.proofs.Common.{◌≡◌, ℕ, zero, suc, ◌<◌, ◌≤◌, inl, inr, Bool, true, false, List, [], ◌∷◌, ◌++◌, length, refl, ap, sym, subst, ◌∙◌, arith, append_assoc, append-nil, Option, Some, None, Ok, Err, ℤ}
use Rattle.qs_conditions.specs.declared.signs.Sign.{Sign}
use Rattle.qs_conditions.specs.declared.signs.Sign.TheVariants as s
use Rattle.qs_conditions.specs.declared.signs.Placed.{Placed}
use Rattle.qs_conditions.specs.declared.condition.Value.{Value}
use Rattle.qs_conditions.specs.declared.condition.Value.TheVariants as v
use Rattle.qs_conditions.specs.declared.condition.Summand.{Summand}
use Rattle.qs_conditions.specs.Conditions.{Tree, compare, negation, both, either}
use Rattle.qs_conditions.specs.Grammar.{Begins, IsNumber, AreMore, AreNumbers, IsValue, IsSummand, plus_or_minus, AreFurther, IsFirst, IsSum, Phrase, IsComparison, IsBothOf, IsEitherOf, IsPart, IsCondition, IsWholeSum}
use Rattle.qs_conditions.specs.Reading.{Read, found, open_by, close_by, minus_by, and_by, or_by, dot_by, comma_by, closed_by, name_by, natural_by, relation_by, link_by, number_by, number_at, more_at, args_at, value_by, value_at, summand_of, summand_at, first_at, sum_further, sum_at, comparison_at, and_further, both_of, or_further, either_of, inner_by, part_in, tree_of, whole_sum}
use Rattle.qs_conditions.proofs.Chains.{Runs, chain_is, runs_end, runs_on}
use Rattle.qs_conditions.proofs.Counts.{begins_shorter, summand_shorter, both_shorter, part_shorter}

found_is : {A : Type 0} (by : Sign → List Placed → Option A) (sign : Sign) (ts rest : List Placed) → Begins sign ts rest → found by ts ≡ by sign rest
found_is by sign ts rest (x, e, p) = rw (p, e) refl

-- numbers
number_complete : (z : ℤ) (ts rest : List Placed) → IsNumber z ts rest → number_at ts ≡ Ok (z, rest)
number_complete z ts rest (n, inl (e, b)) = rw (found_is number_by (s.Number n) ts rest b, e) refl
number_complete z ts rest (n, inr (e, x, b, k)) =
    rw (found_is number_by s.Minus ts x b, found_is natural_by (s.Number n) x rest k, e) refl

number_opens : (z : ℤ) (ts rest : List Placed) → IsNumber z ts rest → found close_by ts ≡ None
number_opens z ts rest (n, inl (e, b)) = found_is close_by (s.Number n) ts rest b
number_opens z ts rest (n, inr (e, x, b, k)) = found_is close_by s.Minus ts x b

more_complete : (n : ℕ) (zs done : List ℤ) (ts rest : List Placed) → AreMore zs ts rest → length zs ≤ n → more_at n done ts ≡ Ok (done ++ zs, rest)
more_complete zero [] done ts rest b few = rw (found_is close_by s.Close ts rest b, append-nil) refl
more_complete (suc n) [] done ts rest b few = rw (found_is close_by s.Close ts rest b, append-nil) refl
more_complete zero (z ∷ zs) done ts rest h few = absurd (omega arith)
more_complete (suc n) (z ∷ zs) done ts rest (x, y, b, h, k) few =
    rw (found_is close_by s.Comma ts x b, found_is comma_by s.Comma ts x b, number_complete z x y h)
    (more_complete n zs (done ++ z ∷ []) y rest k (omega arith) ∙ ap (λ ws. Ok (ws, rest)) (append_assoc done (z ∷ []) zs))

args_complete : (zs : List ℤ) (ts rest : List Placed) → AreNumbers zs ts rest → length zs ≤ 3 → args_at ts ≡ Ok (zs, rest)
args_complete [] ts rest b few = rw (found_is close_by s.Close ts rest b) refl
args_complete (z ∷ zs) ts rest (x, h, k) few =
    rw (number_opens z ts x h, number_complete z ts x h) (more_complete 2 zs (z ∷ []) x rest k (omega arith))

-- values
value_complete : (x : Value) (ts rest : List Placed) → IsValue x ts rest → found open_by rest ≡ None → value_at ts ≡ Ok (x, rest)
value_complete (v.Number z) ts rest (n, e, b) u = rw (found_is value_by (s.Number n) ts rest b, e) refl
value_complete (v.Variable n m) ts rest (x, y, b, d, k) u =
    rw (found_is value_by (s.Name n) ts x b, found_is dot_by s.Dot x y d, found_is name_by (s.Name m) y rest k, u) refl
value_complete (v.Reply n m zs) ts rest (x, y, z, w, b, d, k, o, h, few) u =
    rw (found_is value_by (s.Name n) ts x b, found_is dot_by s.Dot x y d, found_is name_by (s.Name m) y z k, found_is open_by s.Open z w o, args_complete zs w rest h few) refl

-- a value begins with a number or a name
value_other : {A : Type 0} (by : Sign → List Placed → Option A) (x : Value) (ts rest : List Placed) → ((n : ℕ) (us : List Placed) → by (s.Number n) us ≡ None) → ((n : List ℕ) (us : List Placed) → by (s.Name n) us ≡ None) → IsValue x ts rest → found by ts ≡ None
value_other by (v.Number z) ts rest f g (n, e, b) = found_is by (s.Number n) ts rest b ∙ f n rest
value_other by (v.Variable n m) ts rest f g (x, y, b, d, k) = found_is by (s.Name n) ts x b ∙ g n x
value_other by (v.Reply n m zs) ts rest f g (x, y, z, w, b, d, k, o, h, few) = found_is by (s.Name n) ts x b ∙ g n x

summand_complete : (x : Summand) (negative : Bool) (ts rest : List Placed) → x.negative ≡ negative → IsSummand x ts rest → found open_by rest ≡ None → summand_at negative ts ≡ Ok (x, rest)
summand_complete x negative ts rest e (p, h) u =
    rw (value_complete x.value ts rest h u, ← e) (ap (λ place. Ok (summand_of place x.negative x.value, rest)) (sym p))

first_complete : (x : Summand) (ts rest : List Placed) → IsFirst x ts rest → found open_by rest ≡ None → first_at ts ≡ Ok (x, rest)
first_complete x ts rest (inl (e, h)) u =
    rw (value_other minus_by x.value ts rest (λ n us. refl) (λ n us. refl) h.1) (summand_complete x false ts rest e h u)
first_complete x ts rest (inr (e, y, b, h)) u = rw (found_is minus_by s.Minus ts y b) (summand_complete x true y rest e h u)

link_is : (negative : Bool) (us : List Placed) → link_by (plus_or_minus negative) us ≡ Some (negative, us)
link_is negative us = grind arith

link_opens : (negative : Bool) (us : List Placed) → open_by (plus_or_minus negative) us ≡ None
link_opens negative us = grind arith

further_opens : (xs : List Summand) (ts rest : List Placed) → AreFurther xs ts rest → found open_by rest ≡ None → found open_by ts ≡ None
further_opens [] ts rest h u = rw h u
further_opens (x ∷ xs) ts rest (y, z, b, h, k) u =
    found_is open_by (plus_or_minus x.negative) ts y b ∙ link_opens x.negative y

further_complete : (xs done : List Summand) (ts rest : List Placed) (read : Read (List Summand)) → AreFurther xs ts rest → found open_by rest ≡ None → Runs sum_further (done ++ xs) rest read → Runs sum_further done ts read
further_complete [] done ts rest read h u r = rw h (subst (λ ws. Runs sum_further ws rest read) (append-nil done) r)
further_complete (x ∷ xs) done ts rest read (y, z, b, h, k) u r =
    runs_on sum_further done ts (done ++ x ∷ [], z) read
    (rw (found_is link_by (plus_or_minus x.negative) ts y b, link_is, summand_complete x x.negative y z refl h (further_opens xs z rest k u)) refl)
    (omega (arith, begins_shorter (plus_or_minus x.negative) ts y b, summand_shorter x y z h))
    (further_complete xs (done ++ x ∷ []) z rest read k u (subst (λ ws. Runs sum_further ws rest read) (sym (append_assoc done (x ∷ []) xs)) r))

-- what a sum does not go on with
abbrev IsUnlinked : List Placed → Type 0
IsUnlinked ts = (found open_by ts ≡ None) × (found link_by ts ≡ None)

sum_complete : (xs : List Summand) (ts rest : List Placed) → IsSum xs ts rest → IsUnlinked rest → sum_at ts ≡ Ok (xs, rest)
sum_complete [] ts rest h u = absurd h
sum_complete (x ∷ xs) ts rest (y, h, k) u =
    rw (first_complete x ts y h (further_opens xs y rest k u.0))
    (chain_is sum_further (x ∷ []) y (Ok (x ∷ xs, rest))
    (further_complete xs (x ∷ []) y rest (Ok (x ∷ xs, rest)) k u.0 (runs_end sum_further (x ∷ xs) rest (rw u.1 refl))))

sum_other : {A : Type 0} (by : Sign → List Placed → Option A) (xs : List Summand) (ts rest : List Placed) → ((n : ℕ) (us : List Placed) → by (s.Number n) us ≡ None) → ((n : List ℕ) (us : List Placed) → by (s.Name n) us ≡ None) → ((us : List Placed) → by s.Minus us ≡ None) → IsSum xs ts rest → found by ts ≡ None
sum_other by [] ts rest f g m h = absurd h
sum_other by (x ∷ xs) ts rest f g m (y, inl (e, h), k) = value_other by x.value ts y f g h.1
sum_other by (x ∷ xs) ts rest f g m (y, inr (e, z, b, h), k) = found_is by s.Minus ts z b ∙ m z

comparison_complete : (c : Tree) (ts rest : List Placed) → IsComparison c ts rest → IsUnlinked rest → comparison_at ts ≡ Ok (c, rest)
comparison_complete (compare left r right) ts rest (x, y, h, b, k) u =
    rw (sum_complete left ts x h (found_is open_by (s.Relation r) x y b, found_is link_by (s.Relation r) x y b), found_is relation_by (s.Relation r) x y b, sum_complete right y rest k u) refl
comparison_complete _ ts rest h u = absurd h

comparison_other : (part : List Placed → Read Tree) (c : Tree) (ts rest : List Placed) → IsComparison c ts rest → found (inner_by part) ts ≡ None
comparison_other part (compare left r right) ts rest (x, y, h, b, k) = sum_other (inner_by part) left ts x (λ n us. refl) (λ n us. refl) (λ us. refl) h
comparison_other part _ ts rest h = absurd h

-- conditions with signs between them
module _ (Part : Phrase) (part : List Placed → Read Tree)
    (complete : (c : Tree) (ts rest : List Placed) → Part c ts rest → IsUnlinked rest → part ts ≡ Ok (c, rest))
    (shorter : (c : Tree) (ts rest : List Placed) → Part c ts rest → length rest < length ts) where
  part_runs : (c : Tree) (ts rest : List Placed) (read : Read Tree) → Part c ts rest → IsUnlinked rest → Runs (and_further part) c rest read → both_of part ts ≡ read
  part_runs c ts rest read h u r = rw (complete c ts rest h u) (chain_is (and_further part) c rest read r)

  both_runs : (c : Tree) (ts rest : List Placed) (read : Read Tree) → IsBothOf Part c ts rest → IsUnlinked rest → Runs (and_further part) c rest read → both_of part ts ≡ read
  both_runs (both c d) ts rest read (inl h) u r = part_runs (both c d) ts rest read h u r
  both_runs (both c d) ts rest read (inr (x, y, h, b, k)) u r =
      both_runs c ts x read h (found_is open_by s.And x y b, found_is link_by s.And x y b)
      (runs_on (and_further part) c x (both c d, rest) read (rw (found_is and_by s.And x y b, complete d y rest k u) refl) (omega (arith, begins_shorter s.And x y b, shorter d y rest k)) r)
  both_runs c ts rest read h u r = part_runs c ts rest read h u r

  both_complete : (c : Tree) (ts rest : List Placed) → IsBothOf Part c ts rest → IsUnlinked rest → found and_by rest ≡ None → both_of part ts ≡ Ok (c, rest)
  both_complete c ts rest h u a = both_runs c ts rest (Ok (c, rest)) h u (runs_end (and_further part) c rest (rw a refl))

  whole_runs : (c : Tree) (ts rest : List Placed) (read : Read Tree) → IsBothOf Part c ts rest → IsUnlinked rest → found and_by rest ≡ None → Runs (or_further part) c rest read → either_of part ts ≡ read
  whole_runs c ts rest read h u a r = rw (both_complete c ts rest h u a) (chain_is (or_further part) c rest read r)

  either_runs : (c : Tree) (ts rest : List Placed) (read : Read Tree) → IsEitherOf Part c ts rest → IsUnlinked rest → found and_by rest ≡ None → Runs (or_further part) c rest read → either_of part ts ≡ read
  either_runs (either c d) ts rest read (inl h) u a r = whole_runs (either c d) ts rest read h u a r
  either_runs (either c d) ts rest read (inr (x, y, h, b, k)) u a r =
      either_runs c ts x read h (found_is open_by s.Or x y b, found_is link_by s.Or x y b) (found_is and_by s.Or x y b)
      (runs_on (or_further part) c x (either c d, rest) read (rw (found_is or_by s.Or x y b, both_complete d y rest k u a) refl) (omega (arith, begins_shorter s.Or x y b, both_shorter Part shorter d y rest k)) r)
  either_runs c ts rest read h u a r = whole_runs c ts rest read h u a r

  either_complete : (c : Tree) (ts rest : List Placed) → IsEitherOf Part c ts rest → IsUnlinked rest → found and_by rest ≡ None → found or_by rest ≡ None → either_of part ts ≡ Ok (c, rest)
  either_complete c ts rest h u a o = either_runs c ts rest (Ok (c, rest)) h u a (runs_end (or_further part) c rest (rw o refl))

part_complete : (nested : ℕ) (c : Tree) (ts rest : List Placed) → IsPart nested c ts rest → IsUnlinked rest → part_in nested ts ≡ Ok (c, rest)
part_complete zero c ts rest h u = comparison_complete c ts rest h u
part_complete (suc n) c ts rest (inl h) u =
    rw (comparison_other (part_in n) c ts rest h) (comparison_complete c ts rest h u)
part_complete (suc n) (negation c) ts rest (inr (inl (x, b, h))) u =
    rw (found_is (inner_by (part_in n)) s.Not ts x b, part_complete n c x rest h u) refl
part_complete (suc n) _ ts rest (inr (inl h)) u = absurd h
part_complete (suc n) c ts rest (inr (inr (x, y, b, h, k))) u =
    rw (found_is (inner_by (part_in n)) s.Open ts x b, either_complete (IsPart n) (part_in n) (part_complete n) (part_shorter n) c x y h (found_is open_by s.Close y rest k, found_is link_by s.Close y rest k) (found_is and_by s.Close y rest k) (found_is or_by s.Close y rest k), found_is closed_by s.Close y rest k) refl

-- a condition is read
pub condition_complete : (c : Tree) (ts : List Placed) → IsCondition c ts → tree_of ts ≡ Ok c
condition_complete c ts h =
    rw (either_complete (IsPart 16) (part_in 16) (part_complete 16) (part_shorter 16) c ts [] h (refl, refl) refl refl) refl

-- signs have at most one tree
pub one_tree : (c d : Tree) (ts : List Placed) → IsCondition c ts → IsCondition d ts → c ≡ d
one_tree c d ts g h = cc (condition_complete c ts g, condition_complete d ts h)

-- where no reading goes on there is no condition
pub no_condition : (ts : List Placed) (left : ℕ) → tree_of ts ≡ Err left → (c : Tree) → IsCondition c ts → ⊥
no_condition ts left e c h = cc (condition_complete c ts h)

-- a sum alone is read
pub whole_sum_complete : (xs : List Summand) (ts : List Placed) → IsWholeSum xs ts → whole_sum ts ≡ Ok xs
whole_sum_complete xs ts h = rw (sum_complete xs ts [] h (refl, refl)) refl

-- where no reading goes on there is no sum
pub no_sum : (ts : List Placed) (left : ℕ) → whole_sum ts ≡ Err left → (xs : List Summand) → IsWholeSum xs ts → ⊥
no_sum ts left e xs h = cc (whole_sum_complete xs ts h)
