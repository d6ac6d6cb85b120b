-- Lines, and texts one after another.
use Rattle.std.specs.Prelude.{ℕ, zero, suc, List, [], ◌++◌, codes, decimal, if◌then◌else◌, nat_eq, ℤ, pos, slice_index_or}
use Rattle.std.specs.Fmt.{signed_decimal}

-- a word, a space and a count
abbrev pub count_line : List ℕ → ℕ → List ℕ
count_line word n = word ++ codes " " ++ decimal n ++ codes "\n"

-- the value at a place, with a space before it unless it is the first
abbrev pub spaced_value : List ℤ → ℕ → List ℕ
spaced_value values i = (if nat_eq i 0 then [] else codes " ") ++ signed_decimal (slice_index_or values i (pos 0))

-- the texts of the places from 0 up to n
abbrev pub texts_up_to : ℕ → (ℕ → List ℕ) → List ℕ
texts_up_to zero text = []
texts_up_to (suc n) text = texts_up_to n text ++ text n
