-- What is left of a client's blocks from one of them on, where each block counts for some number: that block's, and
-- what is left after it.
use Rattle.std.proofs.Common.{◌≡◌, ◌<◌, ◌∙◌, ◌+◌, ℕ, zero, suc, List, [], ◌∷◌, length, get_or, sum_by, refl, sym, ap, arith}
use Rattle.qs_played.proofs.Names.{sum_by-cons, BlockShape, no_block}

module _ (each : BlockShape → ℕ) where
  -- from the k-th block on
  abbrev pub left_by : List BlockShape → ℕ → ℕ
  left_by [] k = 0
  left_by (b ∷ bs) zero = each b + left_by bs zero
  left_by (b ∷ bs) (suc k) = left_by bs k

  pub left_one : (bs : List BlockShape) (k : ℕ) → k < length bs
      → left_by bs k ≡ each (get_or bs k no_block) + left_by bs (suc k)
  left_one [] k less = absurd (omega (arith, less))
  left_one (b ∷ bs) zero less = refl
  left_one (b ∷ bs) (suc k) less = left_one bs k (omega (arith, less))

  pub left_all : (bs : List BlockShape) → left_by bs 0 ≡ sum_by each bs
  left_all [] = refl
  left_all (b ∷ bs) = ap (λ n. each b + n) (left_all bs) ∙ sym (sum_by-cons each b bs)
