-- Where things stand in a picture, in pixels from the left and from the top. Its columns go on in a further band of
-- rows below after each seventh.
use Rattle.std.specs.Prelude.{ℕ, ◌+◌, ◌-◌, ◌*◌, ◌/◌, ◌%◌, min, max, List, length}
use Rattle.std.specs.List.{fold}
use Rattle.qs_program.specs.audit.Program.{ProgramShape}
use Rattle.qs_played.specs.audit.Played.{Played}
use Rattle.qs_svg.specs.audit.Stretches.{columns_of, longest, most_symbols}
use Rattle.qs_svg.specs.declared.layout.Layout.{Layout}

-- A stretch has lines for as many requests as the longest has, or as are drawn and one more that counts the others; but
-- one at least, so that what is said of an object has room.
abbrev pub lines_for : (most requests : ℕ) → ℕ
lines_for most requests = max 1 (min requests (most + 1))

abbrev pub layout_with : (rows most requests : ℕ) → Layout
layout_with rows most requests = record { rows = rows; lines = lines_for most requests; most = most }

abbrev pub layout_of : ProgramShape → Played → Layout
layout_of p run =
    layout_with (length p.objects) (most_symbols (columns_of run) (length p.objects)) (longest (length p.objects) run)

-- the band of a column, and its left edge
abbrev pub band_of : ℕ → ℕ
band_of i = i / 7

abbrev pub column_x : ℕ → ℕ
column_x i = 200 + 196 * (i % 7)

-- how many bands there are; without a column there is one for the objects
abbrev pub bands_of : (columns : ℕ) → ℕ
bands_of columns = max 1 ((columns + 6) / 7)

-- how high a row is, and a band, which has the names of its columns above
abbrev pub row_height : Layout → ℕ
row_height l = 54 + 16 * l.lines

abbrev pub band_height : Layout → ℕ
band_height l = 52 + l.rows * row_height l

-- the upper edge of a band, and of a row in it
abbrev pub band_y : Layout → ℕ → ℕ
band_y l band = 104 + band * band_height l

abbrev pub row_y : Layout → (band h : ℕ) → ℕ
row_y l band h = band_y l band + 40 + h * row_height l

-- the corner of the symbol on a line of a stretch
abbrev pub symbol_x : ℕ → ℕ
symbol_x i = column_x i + 16

abbrev pub symbol_y : Layout → (i h line : ℕ) → ℕ
symbol_y l i h line = row_y l (band_of i) h + 13 + 16 * line

-- the first and the last row of the objects that a block reserves
abbrev pub first_row : List ℕ → ℕ
first_row objects = fold min 7 objects

abbrev pub last_row : List ℕ → ℕ
last_row objects = fold max 0 objects

-- how far it is from the upper edge of the frame in one row to the lower edge of that in another
abbrev pub reach : Layout → (first last : ℕ) → ℕ
reach l first last = (last - first) * row_height l + (row_height l - 12)

-- the size of a picture: the legend and the names of all clients have room, and below the bands so many lines
abbrev pub picture_width : (columns clients : ℕ) → ℕ
picture_width columns clients = max (max 800 (24 + 130 * clients)) (212 + 196 * min columns 7)

abbrev pub picture_height : Layout → (bands lines : ℕ) → ℕ
picture_height l bands lines = band_y l bands + 16 * lines
