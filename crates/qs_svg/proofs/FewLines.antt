-- No client has more than one line of its variables.
use Rattle.qs_svg.proofs.Common.{◌≡◌, ◌≤◌, ◌+◌, ℕ, zero, suc, Bool, true, false, if◌then◌else◌, arith, ProgramShape, has_variables, lines_before}

one_at_most : (b : Bool) → (if b then 1 else 0) ≤ 1
one_at_most true = omega arith
one_at_most false = omega arith

pub few_lines : (p : ProgramShape) (c : ℕ) → lines_before p c ≤ c
few_lines p zero = omega arith
few_lines p (suc c) = omega (arith, few_lines p c, one_at_most (has_variables p c))
