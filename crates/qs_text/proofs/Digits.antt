-- The text of a number of one digit.
use Rattle.std.proofs.Common.{◌≡◌, ◌+◌, [], ◌∷◌, ℤ, pos, negsuc, ◌≤ℤ◌, ◌<ℤ◌, sym, arith}
use Rattle.std.proofs.lemmas.Int.{ints}
use Rattle.std.proofs.lemmas.Fmt.{decimal_digit}
use Rattle.std.specs.Int.RustNames.{unsigned_abs}
use Rattle.std.specs.Fmt.{signed_decimal}

pub digit_text : (z : ℤ) → pos 0 ≤ℤ z → z <ℤ pos 10 → (48 + unsigned_abs z) ∷ [] ≡ signed_decimal z
digit_text (pos n) low high = sym (decimal_digit n (omega (arith, ints, high)))
digit_text (negsuc n) low high = absurd (omega (arith, ints, low))
