-- The limits of a token.
use Rattle.std.specs.Prelude.{ℕ}

-- bytes of a name
abbrev pub longest_name : ℕ
longest_name = 16

-- digits of a number
abbrev pub most_digits : ℕ
most_digits = 18
