-- Which values a sum has at the ends of a program's orders.
use Rattle.std.specs.Prelude.{◌≡◌, ◌<◌, ℕ, List, length, map, slice_index_or, count_by, ℤ, pos, ◌<ℤ◌}
use Rattle.std.specs.List.{AllByRecursion}
use Rattle.std.specs.Ordering.{int_eq}
use Rattle.qs_program.specs.audit.Program.{ProgramShape}
use Rattle.qs_conditions.specs.Conditions.{sum_of}
use Rattle.qs_conditions.specs.declared.condition.Summand.{Summand}
use Rattle.qs_outcomes.specs.Outcomes.{outcome_at}
use Rattle.qs_standings.specs.Lists.{EachTwo, HasOne}
use Rattle.qs_standings.specs.Standings.{StandingShape}
use Rattle.qs_questions.specs.Questions.{value_at}
use Rattle.qs_questions.specs.declared.sums.SumValue.{SumValue}

-- what a sum comes to at an end, and at each of a list of ends
abbrev pub sum_at_end : ProgramShape → List Summand → StandingShape → ℤ
sum_at_end p sum s = sum_of (value_at p (outcome_at s)) sum

abbrev pub sums_at : ProgramShape → List Summand → List StandingShape → List ℤ
sums_at p sum ends = map (sum_at_end p sum) ends

-- each value is less than all that are listed behind it
abbrev pub AreAscending : List SumValue → Type 0
AreAscending values = EachTwo (λ x y. x.value <ℤ y.value) values

-- each of these numbers is a value that is listed
abbrev pub AreListed : List ℤ → List SumValue → Type 0
AreListed numbers values = AllByRecursion (λ n. HasOne (λ x. x.value ≡ n) values) numbers

-- a value that some of these numbers have: how many of them, and the place of the first
pub record IsValueIn (numbers : List ℤ) (x : SumValue) : Type 0 where
  pub ends : x.ends ≡ count_by (int_eq x.value) numbers
  pub within : x.first < length numbers
  pub here : slice_index_or numbers x.first (pos 0) ≡ x.value
  pub before : (k : ℕ) → k < x.first → slice_index_or numbers k (pos 0) ≡ x.value → ⊥

-- the values of a list of numbers: in ascending order, each of the numbers, and no other
pub record AreValuesIn (numbers : List ℤ) (values : List SumValue) : Type 0 where
  pub ascending : AreAscending values
  pub listed : AreListed numbers values
  pub exact : AllByRecursion (IsValueIn numbers) values

-- the values that a sum has at these ends
abbrev pub AreValuesOf : ProgramShape → List Summand → List StandingShape → List SumValue → Type 0
AreValuesOf p sum ends values = AreValuesIn (sums_at p sum ends) values

-- each value was first had at one of these ends
abbrev pub AreWithin : List StandingShape → List SumValue → Type 0
AreWithin ends values = AllByRecursion (λ x. x.first < length ends) values
