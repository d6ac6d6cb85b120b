-- A run as one picture in SVG: a column for each block, in the order of the reservations, and a row for each object.
use Rattle.std.specs.Prelude.{ℕ, zero, suc, ◌+◌, ◌*◌, Bool, if◌then◌else◌, nat_lt, Option, None, Some, List, [], ◌∷◌, ◌++◌, codes, length}
use Rattle.std.specs.List.{concat}
use Rattle.qs_program.specs.audit.Program.{ProgramShape, client_at}
use Rattle.qs_program.specs.audit.Values.{Locals}
use Rattle.qs_played.specs.audit.Played.{Played}
use Rattle.qs_svg.specs.audit.Shapes.{Shape, fitted_text, shapes_up_to, with_number}
use Rattle.qs_svg.specs.audit.Stretches.{all_columns, columns_of}
use Rattle.qs_svg.specs.audit.Places.{band_y, bands_of, layout_of, picture_height, picture_width}
use Rattle.qs_svg.specs.audit.Words.{client_words, description, title_words}
use Rattle.qs_svg.specs.audit.Blocks.{column, columns_left, row}
use Rattle.qs_svg.specs.declared.layout.Layout.{Layout}
use Rattle.qs_svg.specs.audit.Legend.{client_shapes, client_square, sign_shapes, style}

abbrev pub ground : Shape
ground = codes "<rect class='ground' width='100%' height='100%'/>\n"

abbrev pub heading : ProgramShape → Played → Shape
heading p run = codes "<text class='head' x='12' y='22'>" ++ title_words p run ++ codes "</text>\n"

-- the ground, the title, the legend, the columns and the rows
abbrev pub legend_shapes : ProgramShape → Played → List Shape
legend_shapes p run =
    (ground ∷ []) ++ (heading p run ∷ [])
    ++ shapes_up_to (length p.clients) (client_shapes p)
    ++ sign_shapes

abbrev pub row_shapes : ProgramShape → Played → Layout → List Shape
row_shapes p run l = shapes_up_to (length p.objects) (row p run l)

-- the clients that have variables, with those at the end, on lines below the last band, where an end is given
abbrev pub has_variables : ProgramShape → ℕ → Bool
has_variables p c = nat_lt 0 (length (client_at p c).variables)

abbrev pub lines_of_client : ProgramShape → ℕ → ℕ
lines_of_client p c = if has_variables p c then 1 else 0

abbrev pub lines_before : ProgramShape → ℕ → ℕ
lines_before p zero = 0
lines_before p (suc c) = lines_before p c + lines_of_client p c

abbrev pub end_lines : ProgramShape → Option (ℕ → Locals) → ℕ
end_lines p None = 0
end_lines p (Some locals) = lines_before p (length p.clients)

abbrev pub client_line : ProgramShape → (ℕ → Locals) → (y c : ℕ) → List Shape
client_line p locals y c =
    (client_square c 12 y ∷ []) ++ (fitted_text 26 (y + 8) 762 (client_words p c (locals c)) ∷ [])

abbrev pub client_end : ProgramShape → (ℕ → Locals) → (y : ℕ) → ℕ → List Shape
client_end p locals y c =
    if has_variables p c then client_line p locals (y + 16 * lines_before p c) c else []

abbrev pub end_shapes : ProgramShape → Option (ℕ → Locals) → (y : ℕ) → List Shape
end_shapes p None y = []
end_shapes p (Some locals) y = shapes_up_to (length p.clients) (client_end p locals y)

abbrev pub run_shapes : ProgramShape → Played → Option (ℕ → Locals) → Layout → List Shape
run_shapes p run locals l =
    legend_shapes p run
    ++ shapes_up_to (columns_of run) (column p run l) ++ columns_left run l
    ++ row_shapes p run l ++ end_shapes p locals (band_y l (bands_of (all_columns run)))

-- the first lines, with the size, the title, the description and the style
abbrev pub size_text : (width height : ℕ) → List ℕ
size_text width height =
    with_number (codes "<svg xmlns='http://www.w3.org/2000/svg' role='img' aria-labelledby='title description' width='")
    width
    ++ with_number (codes "' height='") height ++ with_number (codes "' viewBox='0 0 ") width
    ++ with_number (codes " ") height ++ codes "'>\n"

abbrev pub head_text : ProgramShape → Played → (lines : ℕ) → Layout → List ℕ
head_text p run lines l =
    size_text (picture_width (all_columns run) (length p.clients))
    (picture_height l (bands_of (all_columns run)) lines)
    ++ codes "<title id='title'>" ++ title_words p run ++ codes "</title>\n"
    ++ codes "<desc id='description'>" ++ description p run ++ codes "</desc>\n"
    ++ style

abbrev pub picture : ProgramShape → Played → Option (ℕ → Locals) → Layout → List ℕ
picture p run locals l =
    head_text p run (end_lines p locals) l ++ concat (run_shapes p run locals l) ++ codes "</svg>\n"

abbrev pub run_svg : ProgramShape → Played → Option (ℕ → Locals) → List ℕ
run_svg p run locals = picture p run locals (layout_of p run)
