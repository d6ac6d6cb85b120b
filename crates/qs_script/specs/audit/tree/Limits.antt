-- The limits of a script.
use Rattle.std.specs.Prelude.{ℕ}

-- bytes of a script
abbrev pub longest_text : ℕ
longest_text = 65536

-- statements one inside another: each inside at most eight others
abbrev pub most_levels : ℕ
most_levels = 9
