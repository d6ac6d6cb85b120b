-- Lines and columns of a text.
use Rattle.std.specs.Prelude.{ℕ, ◌+◌, nat_eq, if◌then◌else◌, List, [], ◌∷◌, fold, take, drop}
use Rattle.qs_diagnosis.specs.declared.spot.Spot.{Spot}

-- the first line, its first column
abbrev pub begin : Spot
begin = record { line = 1; column = 1 }

-- after a byte: a LF begins the next line
abbrev pub moved : Spot → ℕ → Spot
moved s b =
    if nat_eq b 10 then record { line = s.line + 1; column = 1 } else record { line = s.line; column = s.column + 1 }

-- the place of the byte after so many
abbrev pub spot_at : List ℕ → ℕ → Spot
spot_at text offset = fold moved begin (take offset text)

-- how many bytes come before the first LF, or the end
abbrev pub line_length : List ℕ → ℕ
line_length [] = 0
line_length (b ∷ bs) = if nat_eq b 10 then 0 else line_length bs + 1

abbrev pub line_end_at : List ℕ → ℕ → ℕ
line_end_at text from = line_length (drop from text)
