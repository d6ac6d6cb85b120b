-- A row of numbers of ways is made from the row for one letter less, from its beginning to its end: each number is the
-- sum of the old one in its place and the new one before it. Where numbers are capped, so are the sums.
use Rattle.std.proofs.Common.{◌≡◌, ℕ, zero, suc, ◌+◌, ◌*◌, ◌^◌, ◌⊎◌, drop, replicate, add-one, pow-suc, ◌<◌, ◌≤◌, List, length, get_or, set, get_or-set_other, get_or-set_same, min, refl, sym, ap, ◌∙◌, arith, ⊎_elim, length-set}
use Rattle.qs_outcomes.proofs.Common.{drop_all, get_or-replicate, mul-le-mul_left, mul-le-mul_right, pow-le-pow_right}
use Rattle.std.proofs.Math.Seq.{drop-cons}
use Rattle.qs_program.proofs.Loads.{min_mul}
use Rattle.qs_outcomes.specs.estimate.Estimates.{IsRow, capped, insertions, least_orders, most_from, most_orders, past_told}
use Rattle.qs_outcomes.proofs.estimate.Words.{no_others}

-- what is added at a place: the number before it, and 1 at the first
abbrev pub added_at : ℕ → ℕ → ℕ
added_at b zero = 1
added_at b (suc m) = insertions (suc b) m

pub record IsRowUpTo (b i before : ℕ) (row : List ℕ) : Type 0 where
  pub done : (m : ℕ) → m < i → m < length row → get_or row m 0 ≡ capped (insertions (suc b) m)
  pub ahead : (m : ℕ) → i ≤ m → m < length row → get_or row m 0 ≡ capped (insertions b m)
  pub carried : before ≡ capped (added_at b i)

pub row_of_none : (row : List ℕ) → row ≡ replicate 449 1 → IsRow 0 row
row_of_none row e m within = ap (λ xs. get_or xs m 0) e ∙ get_or-replicate 449 m 1 0 (let long : length row ≡ 449 = ap length e in omega (arith, long, within))

sum_at : (b i : ℕ) → insertions b i + added_at b i ≡ insertions (suc b) i
sum_at b zero = let e = no_others b in omega (arith, e)
sum_at b (suc m) = refl

pub row_begun : (b : ℕ) (row : List ℕ) → IsRow b row → IsRowUpTo b 0 1 row
row_begun b row is = record { done = λ m less within. absurd (omega (arith, less)); ahead = λ m low within. is m within; carried = refl }

pub row_on : (b i before : ℕ) (row : List ℕ) → i < length row → IsRowUpTo b i before row → (next : ℕ) → next ≡ capped (get_or row i 0 + before) → IsRowUpTo b (i + 1) next (set row i next)
row_on b i before row within is next e =
    let here : get_or row i 0 ≡ capped (insertions b i) = is.ahead i (omega arith) within in
    let all : next ≡ capped (insertions (suc b) i) = (let s = sum_at b i in let c = is.carried in omega (arith, e, s, c, here)) in
    let long : length (set row i next) ≡ length row = length-set row i next in
    record {
      done = λ m less inside. ⊎_elim
          (λ (l : m < i). get_or-set_other row i m next 0 (λ same. omega (arith, same, l)) ∙ is.done m l (omega (arith, inside, long)))
          (λ (same : m ≡ i). ap (λ k. get_or (set row i next) k 0) same ∙ get_or-set_same row i next 0 within ∙ all ∙ ap (λ k. capped (insertions (suc b) k)) (sym same))
          (let either : (m < i) ⊎ (m ≡ i) = grind arith in either);
      ahead = λ m low inside. get_or-set_other row i m next 0 (λ same. omega (arith, same, low)) ∙ is.ahead m (omega (arith, low)) (omega (arith, inside, long));
      carried = all ∙ ap (λ k. capped (added_at b k)) (sym (add-one i));
    }

-- ---- products

cap_first : (x y top : ℕ) → min (min x top * y) top ≡ min (x * y) top
cap_first x y top =
    let swapped : min (y * min x top) top ≡ min (y * x) top = min_mul y x top in
    let left : min x top * y ≡ y * min x top = omega arith in
    let right : x * y ≡ y * x = omega arith in omega (arith, swapped, left, right)

product_capped : (most ways rest next top : ℕ) → next ≡ min (most * min ways top) top → min (next * rest) top ≡ min (most * (ways * rest)) top
product_capped most ways rest next top e =
    ap (λ n. min (n * rest) top) e ∙ cap_first (most * min ways top) rest top
    ∙ ap (λ n. min n top) (let turned : most * min ways top * rest ≡ min ways top * (most * rest) = omega arith in turned)
    ∙ cap_first ways (most * rest) top
    ∙ ap (λ n. min n top) (let turned : ways * (most * rest) ≡ most * (ways * rest) = omega arith in turned)

pub most_on : (left : List ℕ) (i most others next : ℕ) → i < length left → next ≡ capped (most * capped (insertions (get_or left i 0) others))
    → capped (most * most_from others (drop i left)) ≡ capped (most_orders left)
    → capped (next * most_from (others + get_or left i 0) (drop (i + 1) left)) ≡ capped (most_orders left)
most_on left i most others next within e so_far =
    ap (λ k. capped (next * most_from (others + get_or left i 0) (drop k left))) (add-one i)
    ∙ product_capped most (insertions (get_or left i 0) others) (most_from (others + get_or left i 0) (drop (suc i) left)) next past_told e
    ∙ sym (ap (λ xs. capped (most * most_from others xs)) (drop-cons left i 0 within))
    ∙ so_far

pub most_done : (left : List ℕ) (i most others : ℕ) → length left ≤ i → most ≤ past_told
    → capped (most * most_from others (drop i left)) ≡ capped (most_orders left) → most ≡ capped (most_orders left)
most_done left i most others past small so_far =
    let none : capped (most * most_from others (drop i left)) ≡ capped (most * 1) = ap (λ xs. capped (most * most_from others xs)) (drop_all i left past) in
    omega (arith, none, so_far, small)

pub least_on : (left : List ℕ) (i least next : ℕ) → i < length left → next ≡ least * (get_or left i 0 + 1)
    → least * least_orders (drop i left) ≡ least_orders left
    → next * least_orders (drop (i + 1) left) ≡ least_orders left
least_on left i least next within e so_far =
    ap (λ k. next * least_orders (drop k left)) (add-one i)
    ∙ (let turned : next * least_orders (drop (suc i) left) ≡ least * (suc (get_or left i 0) * least_orders (drop (suc i) left)) = rw e (omega arith) in turned)
    ∙ sym (ap (λ xs. least * least_orders xs) (drop-cons left i 0 within))
    ∙ so_far

pub least_small : (i least b : ℕ) → least ≤ 65 ^ i → b ≤ 64 → least * (b + 1) ≤ 65 ^ (i + 1)
least_small i least b small few =
    let first : least * (b + 1) ≤ least * 65 = mul-le-mul_left least (let up : b + 1 ≤ 65 = omega (arith, few) in up) in
    let second : least * 65 ≤ 65 ^ i * 65 = mul-le-mul_right 65 small in
    let third : 65 ^ (i + 1) ≡ 65 ^ i * 65 = ap (λ k. 65 ^ k) (add-one i) ∙ pow-suc 65 i in
    omega (arith, first, second, third)

pub least_fits : (i n : ℕ) → i < n → n ≤ 8 → 65 ^ (i + 1) ≤ 318644812890625
least_fits i n less few = pow-le-pow_right {n = 65} (omega arith) {i = i + 1} {j = 8} (omega (arith, less, few))
