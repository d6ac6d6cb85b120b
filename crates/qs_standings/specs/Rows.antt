-- The rows of a table; how a row is written from another one, and how it is added.
use Rattle.std.specs.Prelude.{◌≡◌, ◌≤◌, ℕ, ◌+◌, zero, suc, Bool, ◌&&◌, ◌==◌, List, [], ◌∷◌, ◌++◌, true, false, length, map, slice_index_or, slice_set, ℤ}
use Rattle.std.specs.Ordering.{int_eq}
use Rattle.std.specs.Cmp.Lexicographic.{pointwise}
use Rattle.qs_program.specs.audit.Program.{ProgramShape, client_at}
use Rattle.qs_standings.specs.declared.rows.Draft.{Draft}
use Rattle.qs_standings.specs.declared.rows.Row.{Row}
use Rattle.qs_standings.specs.Lists.{HasOne}
use Rattle.qs_standings.specs.Standings.{RowShape}

-- a row as it is kept
abbrev pub shape_of : Row → RowShape
shape_of r = record { begun = r.begun; numbers = r.numbers.items }

abbrev pub rows_in : List Row → List RowShape
rows_in keys = map shape_of keys

-- how many variables the texts of so many clients name, from a client on
abbrev pub named_before : ProgramShape → ℕ → ℕ → ℕ
named_before p c zero = 0
named_before p c (suc n) = length (client_at p c).variables + named_before p (suc c) n

-- a row as it is written to be looked up
abbrev pub drafted : Draft → RowShape
drafted d = record { begun = d.begun; numbers = d.numbers.items }

-- the test for equal rows
abbrev pub equal : RowShape → RowShape → Bool
equal a b = pointwise ◌==◌ a.begun b.begun && pointwise int_eq a.numbers b.numbers

-- for each client where its variables begin among the numbers of a row, and last where the objects begin
pub record AreStarts (p : ProgramShape) (starts : List ℕ) : Type 0 where
  pub count : length starts ≡ suc (length p.clients)
  pub each : (c : ℕ) → c ≤ length p.clients → slice_index_or starts c 0 ≡ named_before p 0 c

-- numbers in the place of those from a place on
abbrev pub overwritten : List ℤ → ℕ → List ℤ → List ℤ
overwritten row place [] = row
overwritten row place (x ∷ xs) = overwritten (slice_set row place x) (suc place) xs

-- whether a row is new, and the rows with it
abbrev pub IsInserted : List RowShape → RowShape → Bool → List RowShape → Type 0
IsInserted before r true after = (after ≡ before ++ r ∷ []) × (HasOne (λ x. r ≡ x) before → ⊥)
IsInserted before r false after = (after ≡ before) × HasOne (λ x. r ≡ x) before
