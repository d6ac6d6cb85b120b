-- The limits of objects.
use Rattle.std.specs.Prelude.{ℕ}

-- of an account
abbrev pub greatest_balance : ℕ
greatest_balance = 1000000000000000

-- values in a buffer
abbrev pub most_values : ℕ
most_values = 1024

-- rows, and columns, of a grid
abbrev pub most_lines : ℕ
most_lines = 16
