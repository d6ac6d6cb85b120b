-- The digits of a number, the last ones by themselves.
use Rattle.std.proofs.Common.{◌≡◌, ℕ, ◌+◌, ◌/◌, ◌%◌, ◌^◌, ◌<◌, ◌≤◌, List, [], ◌∷◌, ◌++◌, decimal, sym, ap, ◌∙◌, append_assoc, arith}
use Rattle.std.proofs.lemmas.Fmt.{decimal_step}

-- the last digit after those before it
pub last_digit : (n : ℕ) (old front : List ℕ) → 10 ≤ n → n < 2 ^ 64 → decimal (n / 10) ≡ front → (old ++ front) ++ ((48 + n % 10) ∷ []) ≡ old ++ decimal n
last_digit n old front some small e =
    append_assoc old front ((48 + n % 10) ∷ []) ∙ ap (λ l. old ++ l) (sym (decimal_step n some small ∙ ap (λ l. l ++ ((48 + n % 10) ∷ [])) e))

-- the last two digits after those before them
pub last_digits : (n : ℕ) (old : List ℕ) → 100 ≤ n → n < 2 ^ 64 → ((old ++ decimal (n / 100)) ++ ((48 + n / 10 % 10) ∷ [])) ++ ((48 + n % 10) ∷ []) ≡ old ++ decimal n
last_digits n old some small =
    let front : n / 10 / 10 ≡ n / 100 = omega arith in
    let tens = (48 + n / 10 % 10) ∷ [] in
    ap (λ l. l ++ ((48 + n % 10) ∷ [])) (append_assoc old (decimal (n / 100)) tens)
    ∙ last_digit n old (decimal (n / 100) ++ tens) (omega arith) small
    (decimal_step (n / 10) (omega arith) (omega arith) ∙ ap (λ m. decimal m ++ tens) front)
