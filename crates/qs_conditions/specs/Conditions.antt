-- What a condition is, what it means, and the steps by which it is answered.
use Rattle.std.specs.Prelude.{Bool, not, ◌&&◌, ◌||◌, if◌then◌else◌, List, [], ◌∷◌, ◌++◌, ℤ, pos, ◌+ℤ◌, ◌-ℤ◌}
use Rattle.qs_script.specs.declared.tree.tree.Relation.{Relation}
use Rattle.qs_program.specs.audit.Values.{relates}
use Rattle.qs_conditions.specs.declared.condition.Value.{Value}
use Rattle.qs_conditions.specs.declared.condition.Summand.{Summand}
use Rattle.qs_conditions.specs.declared.condition.Step.{Step}
use Rattle.qs_conditions.specs.declared.condition.Step.TheVariants as s

-- a condition: two sums that are compared, or what is made of conditions
pub data Tree : Type 0 where
  compare : List Summand → Relation → List Summand → Tree
  negation : Tree → Tree
  both : Tree → Tree → Tree
  either : Tree → Tree → Tree

-- what the values that are written come to, added up exactly
abbrev pub sum_of : (Value → ℤ) → List Summand → ℤ
sum_of value [] = pos 0
sum_of value (x ∷ xs) =
    (if x.negative then pos 0 -ℤ value x.value else value x.value) +ℤ sum_of value xs

-- whether a condition holds, where each value is that number
abbrev pub holds : (Value → ℤ) → Tree → Bool
holds value (compare left relation right) = relates relation (sum_of value left) (sum_of value right)
holds value (negation c) = not (holds value c)
holds value (both c d) = holds value c && holds value d
holds value (either c d) = holds value c || holds value d

-- the steps by which a condition is answered
abbrev pub steps_of : Tree → List Step
steps_of (compare left relation right) = s.Compare left relation right ∷ []
steps_of (negation c) = steps_of c ++ s.Not ∷ []
steps_of (both c d) = steps_of c ++ steps_of d ++ s.And ∷ []
steps_of (either c d) = steps_of c ++ steps_of d ++ s.Or ∷ []
