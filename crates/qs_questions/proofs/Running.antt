-- The steps of a condition leave its answer on the stack, by induction on the condition.
use Rattle.std.proofs.Common.{◌≡◌, ℕ, ◌≤◌, Bool, List, [], ◌∷◌, ◌++◌, length, drop, refl, ap, sym, ◌∙◌, ℤ}
use Rattle.qs_questions.proofs.Common.{both, compare, drop_all, either, holds, negation, Step, steps_of, Tree, Value}
use Rattle.qs_conditions.specs.declared.condition.Step.TheVariants as s
use Rattle.qs_questions.specs.Answering.{answer_of, answered, last_of, run_steps}

module _ (value : Value → ℤ) where
  run_append : (xs ys : List Step) (stack : List Bool)
      → run_steps value (xs ++ ys) stack ≡ run_steps value ys (run_steps value xs stack)
  run_append [] ys stack = refl
  run_append (x ∷ xs) ys stack = run_append xs ys (answered value stack x)

  two : (xs ys : List Step) (a b : Bool) (step : Step) (stack : List Bool)
      → ((s : List Bool) → run_steps value xs s ≡ a ∷ s) → ((s : List Bool) → run_steps value ys s ≡ b ∷ s)
      → run_steps value ((xs ++ ys) ++ step ∷ []) stack ≡ answered value (b ∷ a ∷ stack) step
  two xs ys a b step stack first second =
      run_append (xs ++ ys) (step ∷ []) stack
      ∙ ap (run_steps value (step ∷ []))
      (run_append xs ys stack ∙ ap (run_steps value ys) (first stack) ∙ second (a ∷ stack))

  pub run_tree : (c : Tree) (stack : List Bool) → run_steps value (steps_of c) stack ≡ holds value c ∷ stack
  run_tree (compare left relation right) stack = refl
  run_tree (negation c) stack =
      run_append (steps_of c) (s.Not ∷ []) stack ∙ ap (run_steps value (s.Not ∷ [])) (run_tree c stack)
  run_tree (both c d) stack =
      two (steps_of c) (steps_of d) (holds value c) (holds value d) s.And stack (run_tree c) (run_tree d)
  run_tree (either c d) stack =
      two (steps_of c) (steps_of d) (holds value c) (holds value d) s.Or stack (run_tree c) (run_tree d)

  -- where all steps were taken, the last answer is the condition's
  pub ended : (xs : List Step) (i : ℕ) (answers : List Bool) (tree : Tree) → length xs ≤ i
      → run_steps value (drop i xs) answers ≡ run_steps value xs [] → xs ≡ steps_of tree
      → last_of answers ≡ holds value tree
  ended xs i answers tree past so_far e =
      ap last_of (ap (λ t. run_steps value t answers) (sym (drop_all i xs past)) ∙ so_far
      ∙ ap (λ t. run_steps value t []) e ∙ run_tree tree [])

  -- and it is that of the steps
  pub ended_steps : (xs : List Step) (i : ℕ) (answers : List Bool) → length xs ≤ i
      → run_steps value (drop i xs) answers ≡ run_steps value xs [] → last_of answers ≡ answer_of value xs
  ended_steps xs i answers past so_far =
      ap last_of (ap (λ t. run_steps value t answers) (sym (drop_all i xs past)) ∙ so_far)
