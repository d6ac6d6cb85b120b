-- Which words are near to each other.
use Rattle.std.specs.Prelude.{ℕ, ◌-◌, Bool, ◌&&◌, nat_eq, nat_le, nat_lt, max, List, length}
use Rattle.strsim.specs.Edits.{levenshtein_row}

-- how many letters are put in, left out or changed from one word to the other
abbrev pub edits : List ℕ → List ℕ → ℕ
edits left right = levenshtein_row nat_eq left right (length right)

-- one or two, and two others stay
abbrev pub is_near : List ℕ → List ℕ → Bool
is_near left right =
    nat_lt 0 (edits left right) && nat_le (edits left right) 2
    && nat_le 2 (max (length left) (length right) - edits left right)
