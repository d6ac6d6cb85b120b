-- The limits of a condition.
use Rattle.std.specs.Prelude.{ℕ}

-- negations and brackets one inside another
abbrev pub most_nested : ℕ
most_nested = 16

-- arguments of a query
abbrev pub most_arguments : ℕ
most_arguments = 3
