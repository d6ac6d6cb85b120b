-- How the values of a sum are listed: one end after another is noted.
use Rattle.std.specs.Prelude.{◌≡◌, ◌⊎◌, ◌+◌, ℕ, List, [], ◌∷◌, ◌++◌, ℤ, ◌≤ℤ◌, ◌<ℤ◌}
use Rattle.std.specs.List.{AllByRecursion}
use Rattle.qs_questions.specs.declared.sums.SumValue.{SumValue}

-- values that are less than a number
abbrev pub AreBelow : ℤ → List SumValue → Type 0
AreBelow v values = AllByRecursion (λ x. x.value <ℤ v) values

-- the first of these, if there is one, is not less, or is greater
abbrev pub StartsFrom : ℤ → List SumValue → Type 0
StartsFrom v [] = Unit {0}
StartsFrom v (x ∷ xs) = v ≤ℤ x.value

abbrev pub StartsAbove : ℤ → List SumValue → Type 0
StartsAbove v [] = Unit {0}
StartsAbove v (x ∷ xs) = v <ℤ x.value

-- one more end has the value
abbrev pub with_more : SumValue → SumValue
with_more x = record { value = x.value; ends = x.ends + 1; first = x.first }

-- one end has the value
abbrev pub with_one : ℤ → (end : ℕ) → SumValue
with_one v end = record { value = v; ends = 1; first = end }

-- The value of one more end is noted behind those that are less: it is counted where it is listed, and else stands there
-- anew.
abbrev pub IsNoted : ℤ → (end : ℕ) → (old new : List SumValue) → Type 0
IsNoted v end old new =
    (before after : List SumValue) × AreBelow v before
    × (((x : SumValue) × (x.value ≡ v) × (old ≡ before ++ x ∷ after) × (new ≡ before ++ with_more x ∷ after))
    ⊎ (StartsAbove v after × (old ≡ before ++ after) × (new ≡ before ++ with_one v end ∷ after)))
