-- Rows of values that lie one after another in one list.
use Rattle.std.specs.Prelude.{List, [], ◌∷◌, ◌++◌}

module _ {X : Type 0} where
  -- one row after another
  abbrev pub join_rows : List (List X) → List X
  join_rows [] = []
  join_rows (row ∷ rows) = row ++ join_rows rows
