-- What reading a text answers.
use Rattle.std.specs.Prelude.{◌≡◌, ℕ, ◌-◌, List, length, drop, Option, Some, None, Result, Ok, Err}
use Rattle.qs_conditions.specs.declared.condition.Step.{Step}
use Rattle.qs_conditions.specs.declared.condition.Summand.{Summand}
use Rattle.qs_conditions.specs.declared.signs.Placed.{Placed}
use Rattle.qs_conditions.specs.declared.fault.ConditionFault.{ConditionFault}
use Rattle.qs_conditions.specs.declared.fault.ConditionFault.TheVariants as f
use Rattle.qs_conditions.specs.Conditions.{Tree, steps_of}
use Rattle.qs_conditions.specs.Signs.{signs_of}
use Rattle.qs_conditions.specs.Grammar.{first_place, IsCondition, IsWholeSum}
use Rattle.qs_conditions.specs.Reading.{tree_of, whole_sum}

-- the text's signs are the condition's
pub record IsConditionText (c : Tree) (text : List ℕ) : Type 0 where
  pub signs : List Placed
  pub cut : signs_of text ≡ Ok signs
  pub tree : IsCondition c signs

-- the place of the first sign with which the reading does not go on, or the text's end
abbrev pub IsFormPlace : List ℕ → List Placed → ℕ → Type 0
IsFormPlace text ts place =
    (left : ℕ) × (tree_of ts ≡ Err left) × (place ≡ first_place (length text) (drop (length ts - left) ts))

-- why a text is refused: its first fault of signs, with its place; or no condition has its signs, with the place where
-- the reading does not go on. Where memory runs out no more is said
abbrev pub IsRefused : ConditionFault → List ℕ → Type 0
IsRefused (f.Byte place) text = signs_of text ≡ Err (f.Byte place)
IsRefused (f.Number place) text = signs_of text ≡ Err (f.Number place)
IsRefused (f.Name place) text = signs_of text ≡ Err (f.Name place)
IsRefused (f.Form place) text =
    (ts : List Placed) × (signs_of text ≡ Ok ts) × ((c : Tree) → IsCondition c ts → ⊥) × IsFormPlace text ts place
IsRefused f.Memory text = Unit {0}

abbrev pub IsReadOf : List ℕ → Result (List Step) ConditionFault → Type 0
IsReadOf text (Ok steps) = (c : Tree) × IsConditionText c text × (steps ≡ steps_of c)
IsReadOf text (Err fault) = IsRefused fault text

-- the steps of the condition that a text is, where it is one
abbrev pub steps_by_tree : Result Tree ℕ → Option (List Step)
steps_by_tree (Ok c) = Some (steps_of c)
steps_by_tree (Err left) = None

abbrev pub steps_by_signs : Result (List Placed) ConditionFault → Option (List Step)
steps_by_signs (Ok ts) = steps_by_tree (tree_of ts)
steps_by_signs (Err e) = None

abbrev pub condition_in : List ℕ → Option (List Step)
condition_in text = steps_by_signs (signs_of text)

-- a fault says that the text is no condition, unless memory ran out
abbrev pub IsNone : List ℕ → ConditionFault → Type 0
IsNone text f.Memory = Unit {0}
IsNone text _ = condition_in text ≡ None

-- the text's signs are the sum's
pub record IsSumText (xs : List Summand) (text : List ℕ) : Type 0 where
  pub signs : List Placed
  pub cut : signs_of text ≡ Ok signs
  pub sum : IsWholeSum xs signs

-- the place of the first sign with which the reading of a sum does not go on, or the text's end
abbrev pub IsSumFormPlace : List ℕ → List Placed → ℕ → Type 0
IsSumFormPlace text ts place =
    (left : ℕ) × (whole_sum ts ≡ Err left) × (place ≡ first_place (length text) (drop (length ts - left) ts))

-- why a text is no sum, as for conditions: its first fault of signs, with its place; or no sum has its signs, with the
-- place where the reading does not go on
abbrev pub IsSumRefused : ConditionFault → List ℕ → Type 0
IsSumRefused (f.Byte place) text = signs_of text ≡ Err (f.Byte place)
IsSumRefused (f.Number place) text = signs_of text ≡ Err (f.Number place)
IsSumRefused (f.Name place) text = signs_of text ≡ Err (f.Name place)
IsSumRefused (f.Form place) text =
    (ts : List Placed) × (signs_of text ≡ Ok ts) × ((xs : List Summand) → IsWholeSum xs ts → ⊥)
    × IsSumFormPlace text ts place
IsSumRefused f.Memory text = Unit {0}

abbrev pub IsSumReadOf : List ℕ → Result (List Summand) ConditionFault → Type 0
IsSumReadOf text (Ok xs) = IsSumText xs text
IsSumReadOf text (Err fault) = IsSumRefused fault text

-- the sum that a text is, where it is one
abbrev pub sum_by_reading : Result (List Summand) ℕ → Option (List Summand)
sum_by_reading (Ok xs) = Some xs
sum_by_reading (Err left) = None

abbrev pub sum_by_signs : Result (List Placed) ConditionFault → Option (List Summand)
sum_by_signs (Ok ts) = sum_by_reading (whole_sum ts)
sum_by_signs (Err e) = None

abbrev pub sum_in : List ℕ → Option (List Summand)
sum_in text = sum_by_signs (signs_of text)

-- a fault says that the text is no sum, unless memory ran out
abbrev pub IsNoSum : List ℕ → ConditionFault → Type 0
IsNoSum text f.Memory = Unit {0}
IsNoSum text _ = sum_in text ≡ None
