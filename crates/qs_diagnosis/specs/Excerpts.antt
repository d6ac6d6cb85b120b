-- A source line with a token underlined, as bytes.
use Rattle.std.specs.Prelude.{ℕ, ◌+◌, ◌-◌, ◌/◌, ◌%◌, Bool, ◌&&◌, ◌||◌, nat_eq, nat_le, nat_lt, if◌then◌else◌, List, [], ◌∷◌}
use Rattle.qs_diagnosis.specs.declared.window.Window.{Window}

-- bytes of a line that are shown, and those of them before the place
abbrev pub longest_line : ℕ
longest_line = 100

abbrev pub most_before : ℕ
most_before = 60

-- from the first byte that is shown
abbrev pub window_from : (from end : ℕ) → Window
window_from from end =
    record { from = from; to = if nat_le (end - from) longest_line then end else from + longest_line }

-- the whole line, or what stands around a place of it
abbrev pub window_of : (start end place : ℕ) → Window
window_of start end place =
    if nat_le (end - start) longest_line then record { from = start; to = end }
    else window_from (if nat_le (place - start) most_before then start else place - most_before) end

-- a hexadecimal digit
abbrev pub hex : ℕ → ℕ
hex n = if nat_lt n 10 then 48 + n else 97 + (n - 10)

-- a tab and a carriage return; the printable bytes of ASCII, from the first to the last; the bytes of a longer
-- character, of which those from the second on are below the first byte of any
abbrev pub tab : ℕ
tab = 9

abbrev pub carriage_return : ℕ
carriage_return = 13

abbrev pub is_printable : ℕ → Bool
is_printable b = nat_le 32 b && nat_le b 126

abbrev pub is_of_longer : ℕ → Bool
is_of_longer b = nat_le 128 b

abbrev pub is_later_of_longer : ℕ → Bool
is_later_of_longer b = nat_le 128 b && nat_lt b 192

-- a byte that is shown as it is: a printable one, a tab, or in a text a byte of a longer character
abbrev pub is_plain : Bool → ℕ → Bool
is_plain is_text b = nat_eq b tab || is_printable b || (is_text && is_of_longer b)

-- a byte as it is shown: a CR not at all, and a byte that is no text as `\x` and two digits
abbrev pub shown : Bool → ℕ → List ℕ
shown is_text b =
    if nat_eq b carriage_return then [] else
    (if is_plain is_text b then b ∷ [] else 92 ∷ 120 ∷ hex (b / 16) ∷ hex (b % 16) ∷ [])

-- what stands below a byte that is shown: a mark for each column that it takes, and a tab below a tab
abbrev pub below : Bool → ℕ → ℕ → List ℕ
below is_text mark b =
    if nat_eq b carriage_return || (is_text && is_later_of_longer b) then [] else
    (if nat_eq b tab then tab ∷ [] else
    (if is_plain is_text b then mark ∷ [] else mark ∷ mark ∷ mark ∷ mark ∷ []))
