-- Rows of values that lie one after another in one list, and where each begins.
use Rattle.std.specs.Prelude.{◌≡◌, ◌<◌, ◌≤◌, ℕ, ◌+◌, ◌-◌, List, [], ◌∷◌, length, take, drop, slice_index_or, refl}
use Rattle.std.specs.Coded.{Coded, code_by, coded×, coded_list, coded_ℕ}
use Rattle.qs_objects.specs.Sums.{total}

-- the rows, and how many values more there may be
pub record RowsState (X : Type 0) : Type 0 where
  pub rows : List (List X)
  pub room : ℕ

module _ {X : Type 0} where
  abbrev pub rows_state : List (List X) → ℕ → RowsState X
  rows_state rows room = record { rows = rows; room = room }

  abbrev pub rows_code : Coded X → Coded (RowsState X)
  rows_code c =
      code_by (List (List X) × ℕ) (coded× (coded_list (coded_list c)) coded_ℕ) (λ s. (
        s.rows,
        s.room,
      )) (λ p. rows_state p.0 p.1) (λ _. refl)

  -- how many values more there may be, of `room` in all
  abbrev pub room_left : ℕ → List X → ℕ
  room_left room xs = room - length xs

  -- a list cut into rows of these lengths
  abbrev pub rows_of_lengths : List ℕ → List X → List (List X)
  rows_of_lengths [] xs = []
  rows_of_lengths (n ∷ ns) xs = take n xs ∷ rows_of_lengths ns (drop n xs)

  -- no row after this has values
  abbrev pub IsLast : List (List X) → ℕ → Type 0
  IsLast rows k = (j : ℕ) → k < j → slice_index_or rows j [] ≡ []

-- each row that has values starts where the rows before it end, and no row starts beyond the list's end
pub record IsStart (starts lengths : List ℕ) (k : ℕ) : Type 0 where
  pub within : slice_index_or starts k 0 + slice_index_or lengths k 0 ≤ total lengths
  pub exact : 0 < slice_index_or lengths k 0 → slice_index_or starts k 0 ≡ total (take k lengths)

abbrev pub AreStarts : List ℕ → List ℕ → Type 0
AreStarts starts lengths = (k : ℕ) → k < length lengths → IsStart starts lengths k

-- the rows make up a list of so many values, that has room for more
pub record FillList (starts lengths : List ℕ) (count room capacity : ℕ) : Type 0 where
  pub whole : total lengths ≡ count
  pub fits : count + room ≤ capacity
  pub many : length starts ≡ length lengths
  pub begin : AreStarts starts lengths
