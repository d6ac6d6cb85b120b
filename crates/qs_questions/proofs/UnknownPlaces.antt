-- The first unknown summand of steps is looked for step by step, and there is none exactly where the program has all
-- values of the condition. The proofs go by induction on lists, and on the condition.
use Rattle.std.proofs.Common.{◌≡◌, ◌≤◌, ℕ, suc, ◌+◌, ◌<◌, Bool, true, false, cond, List, [], ◌∷◌, ◌++◌, length, get_or, drop, Option, Some, None, refl, ap, sym, ◌∙◌, append_assoc, add-one}
use Rattle.qs_questions.proofs.Common.{both, compare, drop-cons, drop_all, either, is_some, negation, option_or, ProgramShape, Relation, Step, steps_of, Summand, Tree}
use Rattle.qs_conditions.specs.declared.condition.Step.TheVariants as s
use Rattle.qs_questions.specs.Questions.{HasAllValues, HasValues, first_unknown_in, first_unknown_of, has_value, summands_of}

joined : (b : Bool) (n : ℕ) (u v w : Option ℕ) → u ≡ option_or v w → cond b u (Some n) ≡ option_or (cond b v (Some n)) w
joined true n u v w h = h
joined false n u v w h = refl

pub summands_append : (xs ys : List Step) → summands_of (xs ++ ys) ≡ summands_of xs ++ summands_of ys
summands_append [] ys = refl
summands_append (s.Compare left relation right ∷ xs) ys =
    ap (λ t. left ++ (right ++ t)) (summands_append xs ys)
    ∙ simp append_assoc
summands_append (_ ∷ xs) ys = summands_append xs ys

module _ (p : ProgramShape) where
  pub unknown_append : (xs ys : List Summand)
      → first_unknown_of p (xs ++ ys) ≡ option_or (first_unknown_of p xs) (first_unknown_of p ys)
  unknown_append [] ys = refl
  unknown_append (x ∷ xs) ys =
      joined (has_value p x.value) x.place (first_unknown_of p (xs ++ ys)) (first_unknown_of p xs)
      (first_unknown_of p ys) (unknown_append xs ys)

  pub steps_append : (xs ys : List Step)
      → first_unknown_in p (xs ++ ys) ≡ option_or (first_unknown_in p xs) (first_unknown_in p ys)
  steps_append xs ys =
      ap (first_unknown_of p) (summands_append xs ys) ∙ unknown_append (summands_of xs) (summands_of ys)

  pub steps_drop : (xs : List Step) (i : ℕ) (d : Step) → i < length xs
      → first_unknown_in p (drop i xs)
      ≡ option_or (first_unknown_in p (get_or xs i d ∷ [])) (first_unknown_in p (drop (i + 1) xs))
  steps_drop xs i d within =
      rw (drop-cons xs i d within, add-one) (steps_append (get_or xs i d ∷ []) (drop (suc i) xs))

  none_both : (u v : Option ℕ) → option_or u v ≡ None → (u ≡ None) × (v ≡ None)
  none_both None v h = (refl, h)
  none_both (Some n) v h = cc

  both_none : (u v : Option ℕ) → (u ≡ None) × (v ≡ None) → option_or u v ≡ None
  both_none None v h = h.1
  both_none (Some n) v h = cc

  known : (b : Bool) (n : ℕ) (u : Option ℕ) → cond b u (Some n) ≡ None → (b ≡ true) × (u ≡ None)
  known true n u h = (refl, h)
  known false n u h = cc

  pub has_values : (xs : List Summand) → first_unknown_of p xs ≡ None → HasValues p xs
  has_values [] h = tt
  has_values (x ∷ xs) h =
      let k = known (has_value p x.value) x.place (first_unknown_of p xs) h in
      (k.0, has_values xs k.1)

  pub none_unknown : (xs : List Summand) → HasValues p xs → first_unknown_of p xs ≡ None
  none_unknown [] h = refl
  none_unknown (x ∷ xs) h =
      ap (λ (b : Bool). cond b (first_unknown_of p xs) (Some x.place)) h.0 ∙ none_unknown xs h.1

  or_none : (u : Option ℕ) → option_or u None ≡ u
  or_none None = refl
  or_none (Some n) = refl

  one : (c : List Step) (step : Step) → summands_of (step ∷ []) ≡ []
      → first_unknown_in p (c ++ step ∷ []) ≡ first_unknown_in p c
  one c step none =
      steps_append c (step ∷ [])
      ∙ ap (λ t. option_or (first_unknown_in p c) (first_unknown_of p t)) none
      ∙ or_none (first_unknown_in p c)

  two : (c d : List Step) (step : Step) → summands_of (step ∷ []) ≡ []
      → first_unknown_in p ((c ++ d) ++ step ∷ []) ≡ option_or (first_unknown_in p c) (first_unknown_in p d)
  two c d step none = one (c ++ d) step none ∙ steps_append c d

  none_in : (c d : List Step) (step : Step) → summands_of (step ∷ []) ≡ [] → first_unknown_in p ((c ++ d) ++ step ∷ []) ≡ None
      → (first_unknown_in p c ≡ None) × (first_unknown_in p d ≡ None)
  none_in c d step none h = none_both (first_unknown_in p c) (first_unknown_in p d) (sym (two c d step none) ∙ h)

  none_of_two : (c d : List Step) (step : Step) → summands_of (step ∷ []) ≡ [] → (first_unknown_in p c ≡ None) × (first_unknown_in p d ≡ None)
      → first_unknown_in p ((c ++ d) ++ step ∷ []) ≡ None
  none_of_two c d step none h = two c d step none ∙ both_none (first_unknown_in p c) (first_unknown_in p d) h

  compared : (left right : List Summand) (relation : Relation)
      → first_unknown_in p (s.Compare left relation right ∷ [])
      ≡ option_or (first_unknown_of p left) (first_unknown_of p right)
  compared left right relation =
      unknown_append left (right ++ [])
      ∙ ap (option_or (first_unknown_of p left)) (unknown_append right [] ∙ or_none (first_unknown_of p right))

  pub tree_has : (c : Tree) → first_unknown_in p (steps_of c) ≡ None → HasAllValues p c
  tree_has (compare left relation right) h =
      let k = none_both (first_unknown_of p left) (first_unknown_of p right) (sym (compared left right relation) ∙ h) in
      (has_values left k.0, has_values right k.1)
  tree_has (negation c) h = tree_has c (sym (one (steps_of c) s.Not refl) ∙ h)
  tree_has (both c d) h = let k = none_in (steps_of c) (steps_of d) s.And refl h in (tree_has c k.0, tree_has d k.1)
  tree_has (either c d) h = let k = none_in (steps_of c) (steps_of d) s.Or refl h in (tree_has c k.0, tree_has d k.1)

  pub tree_known : (c : Tree) → HasAllValues p c → first_unknown_in p (steps_of c) ≡ None
  tree_known (compare left relation right) h =
      compared left right relation
      ∙ both_none (first_unknown_of p left) (first_unknown_of p right) (none_unknown left h.0, none_unknown right h.1)
  tree_known (negation c) h = one (steps_of c) s.Not refl ∙ tree_known c h
  tree_known (both c d) h = none_of_two (steps_of c) (steps_of d) s.And refl (tree_known c h.0, tree_known d h.1)
  tree_known (either c d) h = none_of_two (steps_of c) (steps_of d) s.Or refl (tree_known c h.0, tree_known d h.1)

  -- what one step that compares has
  pub at_compare : (step : Step) (left right : List Summand) (relation : Relation) (u v : Option ℕ)
      → step ≡ s.Compare left relation right → u ≡ first_unknown_of p left → v ≡ first_unknown_of p right
      → option_or u v ≡ first_unknown_in p (step ∷ [])
  at_compare step left right relation u v e a b =
      (λ i. option_or (a i) (b i)) ∙ sym (compared left right relation)
      ∙ ap (λ t. first_unknown_in p (t ∷ [])) (sym e)

  passes : (u v w : Option ℕ) → is_some u ≡ false → w ≡ option_or u v → v ≡ w
  passes None v w h e = sym e
  passes (Some n) v w h e = cc

  stops : (u v w : Option ℕ) → is_some u ≡ true → w ≡ option_or u v → u ≡ w
  stops None v w h e = cc
  stops (Some n) v w h e = sym e

  module _ (xs : List Step) (i : ℕ) (x : Step) (u : Option ℕ) (within : i < length xs) (item : x ≡ get_or xs i x)
      (one : u ≡ first_unknown_in p (x ∷ [])) (so_far : first_unknown_in p (drop i xs) ≡ first_unknown_in p xs) where
    parts : first_unknown_in p xs ≡ option_or u (first_unknown_in p (drop (i + 1) xs))
    parts =
        sym so_far ∙ steps_drop xs i x within
        ∙ ap (λ t. option_or (first_unknown_in p (t ∷ [])) (first_unknown_in p (drop (i + 1) xs))) (sym item)
        ∙ ap (λ t. option_or t (first_unknown_in p (drop (i + 1) xs))) (sym one)

    pub step_passed : is_some u ≡ false → first_unknown_in p (drop (i + 1) xs) ≡ first_unknown_in p xs
    step_passed h = passes u (first_unknown_in p (drop (i + 1) xs)) (first_unknown_in p xs) h parts

    pub step_stopped : is_some u ≡ true → u ≡ first_unknown_in p xs
    step_stopped h = stops u (first_unknown_in p (drop (i + 1) xs)) (first_unknown_in p xs) h parts

  pub all_has : (u : Option ℕ) (xs : List Step) (tree : Tree) → u ≡ first_unknown_in p xs → xs ≡ steps_of tree
      → (u ≡ None → HasAllValues p tree) × (HasAllValues p tree → u ≡ None)
  all_has u xs tree a e = (
    λ h. tree_has tree (ap (first_unknown_in p) (sym e) ∙ sym a ∙ h),
    λ h. a ∙ ap (first_unknown_in p) e ∙ tree_known tree h,
  )

pub kept : (u v : Option ℕ) → (u ≡ None → ⊥) → u ≡ option_or u v
kept None v h = absurd (h refl)
kept (Some n) v h = refl

pub none_at_end : (p : ProgramShape) (xs : List Step) (i : ℕ) → length xs ≤ i
    → first_unknown_in p (drop i xs) ≡ first_unknown_in p xs → None ≡ first_unknown_in p xs
none_at_end p xs i past so_far = ap (first_unknown_in p) (sym (drop_all i xs past)) ∙ so_far
