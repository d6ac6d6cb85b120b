-- The sum of a list of numbers.
use Rattle.std.specs.Prelude.{ℕ, ◌+◌, List, [], ◌∷◌}

abbrev pub total : List ℕ → ℕ
total [] = 0
total (n ∷ ns) = n + total ns
