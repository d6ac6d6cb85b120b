-- How steps answer a condition: with a stack of answers, the last one first.
use Rattle.std.specs.Prelude.{Bool, false, not, ◌&&◌, ◌||◌, List, [], ◌∷◌, drop, ℤ}
use Rattle.qs_program.specs.audit.Values.{relates}
use Rattle.qs_conditions.specs.Conditions.{sum_of}
use Rattle.qs_conditions.specs.declared.condition.Value.{Value}
use Rattle.qs_conditions.specs.declared.condition.Step.{Step}
use Rattle.qs_conditions.specs.declared.condition.Step.TheVariants as s

-- the last answer; false where there is none
abbrev pub last_of : List Bool → Bool
last_of [] = false
last_of (b ∷ stack) = b

-- the answers after one more step
abbrev pub answered : (Value → ℤ) → List Bool → Step → List Bool
answered value stack (s.Compare left relation right) =
    relates relation (sum_of value left) (sum_of value right) ∷ stack
answered value stack s.Not = not (last_of stack) ∷ drop 1 stack
answered value stack s.And = (last_of (drop 1 stack) && last_of stack) ∷ drop 2 stack
answered value stack s.Or = (last_of (drop 1 stack) || last_of stack) ∷ drop 2 stack

-- the answers after all steps
abbrev pub run_steps : (Value → ℤ) → List Step → List Bool → List Bool
run_steps value [] stack = stack
run_steps value (step ∷ steps) stack = run_steps value steps (answered value stack step)

-- the answer of a condition's steps
abbrev pub answer_of : (Value → ℤ) → List Step → Bool
answer_of value steps = last_of (run_steps value steps [])
