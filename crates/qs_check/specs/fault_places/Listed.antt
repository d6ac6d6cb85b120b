-- A block's list by the numbers of its objects.
use Rattle.std.specs.Prelude.{◌≡◌, ◌<◌, ◌==◌, ℕ, Bool, true, false, List, [], length, map, slice_index_or}
use Rattle.std.specs.List.{AllByRecursion, list_any}
use Rattle.qs_program.specs.audit.Limits.{most_objects}
use Rattle.qs_program.specs.audit.Numbering.{Name, is_among, found_at}

-- the names of numbers
abbrev pub names_at : List Name → List ℕ → List Name
names_at objects numbers = map (λ i. slice_index_or objects i []) numbers

-- a number under which its own name is found
pub record IsFirst (objects : List Name) (i : ℕ) : Type 0 where
  pub within : i < length objects
  pub among : is_among objects (slice_index_or objects i []) ≡ true
  pub first : found_at objects (slice_index_or objects i []) ≡ i

abbrev pub AreFirst : List Name → List ℕ → Type 0
AreFirst objects numbers = AllByRecursion (IsFirst objects) numbers

-- flags that tell of each number of 8 objects whether it is in a list
abbrev pub DoFlag : List Bool → List ℕ → Type 0
DoFlag flags numbers = (n : ℕ) → n < most_objects → slice_index_or flags n false ≡ list_any (λ m. n == m) numbers
