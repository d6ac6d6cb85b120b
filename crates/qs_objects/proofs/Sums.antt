-- The sum of a list from an index on is the value at that index and the sum of what comes after it. The loop of
-- `clamped_sum`, which adds one value in each turn, is proved with it. The proof takes the first value off the rest of
-- the list.
use Rattle.std.proofs.Common.{◌≡◌, ℕ, ◌+◌, ◌<◌, List, length, get_or, drop, refl, ℤ, pos, ◌+ℤ◌, add-one, drop-cons}
use Rattle.qs_objects.specs.audit.Act.{exact_sum}

pub exact_sum_drop : (xs : List ℤ) (i : ℕ) → i < length xs → exact_sum (drop i xs) ≡ get_or xs i (pos 0) +ℤ exact_sum (drop (i + 1) xs)
exact_sum_drop xs i within = rw (drop-cons xs i (pos 0) within, add-one) refl
