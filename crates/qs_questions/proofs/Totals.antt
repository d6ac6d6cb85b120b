-- The sum of summands from a place on is the first of them and the sum of the others.
use Rattle.std.proofs.Common.{◌≡◌, ℕ, ◌+◌, ◌<◌, cond, List, length, get_or, drop, refl, ap, sym, ◌∙◌, arith, ℤ, pos, ◌+ℤ◌, ◌-ℤ◌, add-one}
use Rattle.qs_questions.proofs.Common.{drop-cons, ints, sum_of, Summand, Value}

sum_drop : (value : Value → ℤ) (xs : List Summand) (i : ℕ) (d : Summand) → i < length xs
    → sum_of value (drop i xs)
    ≡ cond (get_or xs i d).negative (pos 0 -ℤ value (get_or xs i d).value) (value (get_or xs i d).value)
    +ℤ sum_of value (drop (i + 1) xs)
sum_drop value xs i d within = rw (drop-cons xs i d within, add-one) refl

three : (total part rest all later : ℤ) → total +ℤ rest ≡ all → rest ≡ part +ℤ later → (total +ℤ part) +ℤ later ≡ all
three total part rest all later e f = omega (arith, ints)

-- one summand more is added up
pub one_more : (value : Value → ℤ) (xs : List Summand) (i : ℕ) (x : Summand) (total part n : ℤ) → i < length xs
    → x ≡ get_or xs i x → n ≡ value x.value → part ≡ cond x.negative (pos 0 -ℤ n) n
    → total +ℤ sum_of value (drop i xs) ≡ sum_of value xs
    → (total +ℤ part) +ℤ sum_of value (drop (i + 1) xs) ≡ sum_of value xs
one_more value xs i x total part n within item same is so_far =
    three total part (sum_of value (drop i xs)) (sum_of value xs) (sum_of value (drop (i + 1) xs)) so_far
    (sum_drop value xs i x within
    ∙ ap (λ (y : Summand). cond y.negative (pos 0 -ℤ value y.value) (value y.value)
    +ℤ sum_of value (drop (i + 1) xs)) (sym item)
    ∙ ap (λ (m : ℤ). cond x.negative (pos 0 -ℤ m) m +ℤ sum_of value (drop (i + 1) xs)) (sym same)
    ∙ ap (λ (m : ℤ). m +ℤ sum_of value (drop (i + 1) xs)) (sym is))
