-- The first place at which a test passes: what the loops over clients and objects look for.
use Rattle.std.proofs.lemmas.List.Sums.{position_or_len_is}
use Rattle.std.proofs.Common.{◌≡◌, ℕ, ◌<◌, Bool, true, false, cond, nat_lt, List, length, get_or, Some, None, ap, ◌∙◌, arith}
use Rattle.qs_questions.proofs.Common.{nat_tests, position, position_or_len}

module _ {X : Type 0} (p : X → Bool) (d : X) where
  pub first_at : (xs : List X) (i : ℕ) → i < length xs → p (get_or xs i d) ≡ true
      → ((k : ℕ) → k < i → p (get_or xs k d) ≡ false) → position p xs ≡ Some i
  first_at xs i within here before =
      let place : position_or_len p xs ≡ i = position_or_len_is p xs i d (omega (arith, within)) before (λ _. here) in
      let less : nat_lt i (length xs) ≡ true = grind (arith, nat_tests) in
      ap (λ n. cond (nat_lt n (length xs)) (Some n) None) place ∙ ap (λ (b : Bool). cond b (Some i) None) less

  pub first_none : (xs : List X) → ((k : ℕ) → k < length xs → p (get_or xs k d) ≡ false) → position p xs ≡ None
  first_none xs before =
      let place : position_or_len p xs ≡ length xs = position_or_len_is p xs (length xs) d (omega arith) before (λ h. absurd (omega (arith, h))) in
      let same : nat_lt (length xs) (length xs) ≡ false = grind (arith, nat_tests) in
      ap (λ n. cond (nat_lt n (length xs)) (Some n) None) place ∙ ap (λ (b : Bool). cond b (Some (length xs)) None) same
