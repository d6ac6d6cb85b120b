-- A power of ten is at most any power of ten with a larger exponent. The loop of `number_of`, which makes a number of
-- at most 18 digits, needs this to show that nothing overflows.
use Rattle.std.proofs.Common.{ℕ, ◌^◌, ◌≤◌, arith}
use Rattle.std.proofs.Math.Nat.{pow-le-pow_right}

pub ten_mono : (i j : ℕ) → i ≤ j → 10 ^ i ≤ 10 ^ j
ten_mono i j h = pow-le-pow_right {n = 10} (omega arith) h
