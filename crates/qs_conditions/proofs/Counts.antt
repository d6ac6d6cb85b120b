-- What follows a part of a condition is shorter than what the part began with. The proof that every condition is read
-- needs this for the end of its chains. It goes by induction on the tree.
use Rattle.std.proofs.Common.{ℕ, zero, suc, ◌<◌, ◌≤◌, inl, inr, List, [], ◌∷◌, length, arith, ℤ}
use Rattle.qs_conditions.specs.declared.signs.Sign.{Sign}
use Rattle.qs_conditions.specs.declared.signs.Sign.TheVariants as s
use Rattle.qs_conditions.specs.declared.signs.Placed.{Placed}
use Rattle.qs_conditions.specs.declared.condition.Value.{Value}
use Rattle.qs_conditions.specs.declared.condition.Value.TheVariants as v
use Rattle.qs_conditions.specs.declared.condition.Summand.{Summand}
use Rattle.qs_conditions.specs.Conditions.{Tree, compare, negation, both, either}
use Rattle.qs_conditions.specs.Grammar.{Begins, IsNumber, AreMore, AreNumbers, IsValue, IsSummand, plus_or_minus, AreFurther, IsFirst, IsSum, Phrase, IsComparison, IsBothOf, IsEitherOf, IsPart}

pub begins_shorter : (sign : Sign) (ts rest : List Placed) → Begins sign ts rest → length rest < length ts
begins_shorter sign ts rest (x, e, p) = rw p (omega arith)

number_shorter : (z : ℤ) (ts rest : List Placed) → IsNumber z ts rest → length rest < length ts
number_shorter z ts rest (n, inl (e, b)) = begins_shorter (s.Number n) ts rest b
number_shorter z ts rest (n, inr (e, x, b, k)) =
    omega (arith, begins_shorter s.Minus ts x b, begins_shorter (s.Number n) x rest k)

more_shorter : (zs : List ℤ) (ts rest : List Placed) → AreMore zs ts rest → length rest < length ts
more_shorter [] ts rest b = begins_shorter s.Close ts rest b
more_shorter (z ∷ zs) ts rest (x, y, b, h, k) =
    omega (arith, begins_shorter s.Comma ts x b, number_shorter z x y h, more_shorter zs y rest k)

numbers_shorter : (zs : List ℤ) (ts rest : List Placed) → AreNumbers zs ts rest → length rest < length ts
numbers_shorter [] ts rest b = begins_shorter s.Close ts rest b
numbers_shorter (z ∷ zs) ts rest (x, h, k) = omega (arith, number_shorter z ts x h, more_shorter zs x rest k)

value_shorter : (x : Value) (ts rest : List Placed) → IsValue x ts rest → length rest < length ts
value_shorter (v.Number z) ts rest (n, e, b) = begins_shorter (s.Number n) ts rest b
value_shorter (v.Variable n m) ts rest (x, y, b, d, k) =
    omega (arith, begins_shorter (s.Name n) ts x b, begins_shorter s.Dot x y d, begins_shorter (s.Name m) y rest k)
value_shorter (v.Reply n m zs) ts rest (x, y, z, w, b, d, k, o, h, few) =
    omega (arith, begins_shorter (s.Name n) ts x b, begins_shorter s.Dot x y d, begins_shorter (s.Name m) y z k, begins_shorter s.Open z w o, numbers_shorter zs w rest h)

pub summand_shorter : (x : Summand) (ts rest : List Placed) → IsSummand x ts rest → length rest < length ts
summand_shorter x ts rest (e, h) = value_shorter x.value ts rest h

further_shorter : (xs : List Summand) (ts rest : List Placed) → AreFurther xs ts rest → length rest ≤ length ts
further_shorter [] ts rest h = rw h (omega arith)
further_shorter (x ∷ xs) ts rest (y, z, b, h, k) =
    omega (arith, begins_shorter (plus_or_minus x.negative) ts y b, summand_shorter x y z h, further_shorter xs z rest k)

first_shorter : (x : Summand) (ts rest : List Placed) → IsFirst x ts rest → length rest < length ts
first_shorter x ts rest (inl (e, h)) = summand_shorter x ts rest h
first_shorter x ts rest (inr (e, y, b, h)) = omega (arith, begins_shorter s.Minus ts y b, summand_shorter x y rest h)

sum_shorter : (xs : List Summand) (ts rest : List Placed) → IsSum xs ts rest → length rest < length ts
sum_shorter [] ts rest h = absurd h
sum_shorter (x ∷ xs) ts rest (y, h, k) = omega (arith, first_shorter x ts y h, further_shorter xs y rest k)

comparison_shorter : (c : Tree) (ts rest : List Placed) → IsComparison c ts rest → length rest < length ts
comparison_shorter (compare left r right) ts rest (x, y, h, b, k) =
    omega (arith, sum_shorter left ts x h, begins_shorter (s.Relation r) x y b, sum_shorter right y rest k)
comparison_shorter _ ts rest h = absurd h

module _ (Part : Phrase) (shorter : (c : Tree) (ts rest : List Placed) → Part c ts rest → length rest < length ts) where
  pub both_shorter : (c : Tree) (ts rest : List Placed) → IsBothOf Part c ts rest → length rest < length ts
  both_shorter (both c d) ts rest (inl h) = shorter (both c d) ts rest h
  both_shorter (both c d) ts rest (inr (x, y, h, b, k)) =
      omega (arith, both_shorter c ts x h, begins_shorter s.And x y b, shorter d y rest k)
  both_shorter c ts rest h = shorter c ts rest h

  either_shorter : (c : Tree) (ts rest : List Placed) → IsEitherOf Part c ts rest → length rest < length ts
  either_shorter (either c d) ts rest (inl h) = both_shorter (either c d) ts rest h
  either_shorter (either c d) ts rest (inr (x, y, h, b, k)) =
      omega (arith, either_shorter c ts x h, begins_shorter s.Or x y b, both_shorter d y rest k)
  either_shorter c ts rest h = both_shorter c ts rest h

pub part_shorter : (nested : ℕ) (c : Tree) (ts rest : List Placed) → IsPart nested c ts rest → length rest < length ts
part_shorter zero c ts rest h = comparison_shorter c ts rest h
part_shorter (suc n) c ts rest (inl h) = comparison_shorter c ts rest h
part_shorter (suc n) (negation c) ts rest (inr (inl (x, b, h))) = omega (arith, begins_shorter s.Not ts x b, part_shorter n c x rest h)
part_shorter (suc n) _ ts rest (inr (inl h)) = absurd h
part_shorter (suc n) c ts rest (inr (inr (x, y, b, h, k))) =
    omega (arith, begins_shorter s.Open ts x b, either_shorter (IsPart n) (part_shorter n) c x y h, begins_shorter s.Close y rest k)
