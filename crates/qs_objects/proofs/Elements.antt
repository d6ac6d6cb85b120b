-- What holds of each element of a list holds of the element at any index in the list. Code takes elements by index
-- while most statements speak of all elements, so proofs in many crates need this step. It goes by induction on the
-- list and the index.
use Rattle.std.proofs.Common.{ℕ, zero, suc, ◌<◌, List, [], ◌∷◌, length, get_or, arith}
use Rattle.std.specs.List.{AllByRecursion}

-- what holds of each element holds of the one at a place
pub AllByRecursion-get_or : {X : Type 0} (P : X → Type 0) (xs : List X) (i : ℕ) (d : X) → AllByRecursion P xs → i < length xs → P (get_or xs i d)
AllByRecursion-get_or P [] i d each within = absurd (omega arith)
AllByRecursion-get_or P (x ∷ xs) zero d each within = each.0
AllByRecursion-get_or P (x ∷ xs) (suc i) d each within = AllByRecursion-get_or P xs i d each.1 (omega arith)
