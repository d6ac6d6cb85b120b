-- The shapes of a run: those of the columns, one for each block, and those of the rows, one for each object.
use Rattle.std.specs.Prelude.{ℕ, ◌+◌, ◌-◌, ◌*◌, min, suc, List, [], ◌∷◌, ◌++◌, codes, length, slice_index_or, Option, None, Some, slice_get, Bool, ◌&&◌, if◌then◌else◌, nat_eq, nat_lt}
use Rattle.qs_objects.specs.audit.Act.{State}
use Rattle.qs_objects.specs.audit.Operations.{is_query}
use Rattle.qs_objects.specs.declared.held.Entry.{Entry}
use Rattle.qs_objects.specs.declared.held.Ticket.{Ticket}
use Rattle.qs_program.specs.audit.Program.{ProgramShape, client_at, object_at}
use Rattle.qs_played.specs.audit.Played.{Played}
use Rattle.qs_text.specs.declared.fates.fate.Fate.{Fate}
use Rattle.qs_text.specs.declared.fates.fate.Fate.TheVariants.{Done, Refused, NoValue}
use Rattle.qs_svg.specs.declared.layout.Layout.{Layout}
use Rattle.qs_svg.specs.audit.Shapes.{Shape, fitted_text, path_end, path_start, shapes_up_to, text_at, with_number}
use Rattle.qs_svg.specs.audit.Stretches.{all_columns, columns_of, ended_at, journal_of, most_columns, no_entry, objects_at, queries_in, reserves, sent_for, state_at, stretch_fates, syncs_at, ticket_at, stretch, stretch_start}
use Rattle.qs_svg.specs.audit.Places.{band_of, band_y, bands_of, column_x, first_row, last_row, reach, row_y, symbol_x, symbol_y}
use Rattle.qs_svg.specs.audit.Words.{block_words, counted, declared_words, entry_words, line_words, state_words, stretch_words}

-- a query is a circle, a command a square
abbrev pub form : Bool → List ℕ
form query = if query then codes "m0,4a4,4 0 1 1 8,0a4,4 0 1 1-8,0z" else codes "h8v8h-8z"

-- a command that was refused and a query of what is not there are hollow, and the command is crossed out
abbrev pub symbol_kind : Fate → List ℕ
symbol_kind Done = codes "symbol"
symbol_kind Refused = codes "void"
symbol_kind NoValue = codes "void"

abbrev pub cross : Fate → List ℕ
cross Done = []
cross Refused = codes "l8,8m0-8l-8,8"
cross NoValue = []

-- a request, in the colour of its ticket's client, and its words beside it
abbrev pub symbol : ProgramShape → (x y : ℕ) → Entry → Fate → Shape
symbol p x y e fate =
    path_start (symbol_kind fate) e.ticket.client x y ++ form (is_query e.request.op) ++ cross fate
    ++ path_end (entry_words p e fate)

abbrev pub request_shapes : ProgramShape → (x y : ℕ) → Entry → Fate → List Shape
request_shapes p x y e fate =
    (symbol p x y e fate ∷ []) ++ (fitted_text (x + 14) (y + 8) 156 (line_words e fate) ∷ [])

-- the frame of a block that is open has no right side
abbrev pub right_side : Bool → List ℕ
right_side ended = if ended then codes "z" else []

-- the frame of a stretch
abbrev pub stretch_frame : ProgramShape → Ticket → (ended : Bool) → Layout → (i h requests : ℕ) → Shape
stretch_frame p t ended l i h requests =
    path_start (codes "stretch") t.client (column_x i + 188) (row_y l (band_of i) h + 6)
    ++ with_number (codes "h-180v") (16 * l.lines + 42) ++ codes "h180" ++ right_side ended
    ++ path_end (stretch_words p t h requests)

-- the requests of a stretch that are drawn, and how many more there are
abbrev pub symbols : ProgramShape → Layout → (i h : ℕ) → List Entry → List Fate → List Shape
symbols p l i h entries fates =
    shapes_up_to (min (length entries) l.most)
    (λ j. request_shapes p (symbol_x i) (symbol_y l i h j) (slice_index_or entries j no_entry)
    (slice_index_or fates j Done))

abbrev pub more_text : Layout → (i h requests : ℕ) → Shape
more_text l i h requests =
    text_at (symbol_x i) (symbol_y l i h l.most + 8) (with_number (codes "+ ") (requests - l.most) ++ codes " more")

abbrev pub more_symbols : Layout → (i h requests : ℕ) → List Shape
more_symbols l i h requests =
    if nat_lt l.most requests then more_text l i h requests ∷ [] else []

-- the synchronisations that were sent are filled; those that were skipped, as the other queries had none, are hollow
abbrev pub sync_words : (sent skipped : ℕ) → List ℕ
sync_words sent skipped = with_number (codes "&#9670; ") sent ++ with_number (codes " &#9671; ") skipped

abbrev pub sync_text : Layout → (i h sent queries : ℕ) → Shape
sync_text l i h sent queries =
    text_at (symbol_x i) (symbol_y l i h l.lines + 8) (sync_words sent (queries - sent))

abbrev pub sync_symbols : Layout → (i h sent queries : ℕ) → List Shape
sync_symbols l i h sent queries =
    if nat_eq sent 0 && nat_eq queries 0 then [] else sync_text l i h sent queries ∷ []

-- all that is drawn of a ticket at an object, from the entries of its stretch and what became of them
abbrev pub stretch_shapes : ProgramShape → Played → Layout → (i h : ℕ) → List Entry → List Fate → List Shape
stretch_shapes p run l i h entries fates =
    (stretch_frame p (ticket_at run i) (ended_at run i) l i h (length entries) ∷ [])
    ++ symbols p l i h entries fates ++ more_symbols l i h (length entries)
    ++ sync_symbols l i h (sent_for h (syncs_at run i)) (queries_in entries)

abbrev pub cell : ProgramShape → Played → Layout → (i h : ℕ) → List Entry → List Fate → List Shape
cell p run l i h entries fates = if reserves run i h then stretch_shapes p run l i h entries fates else []

-- last in the frame of a stretch: what the object held after it
abbrev pub left_shapes : Played → Layout → (i h : ℕ) → State → List Shape
left_shapes run l i h s =
    if reserves run i h
    then fitted_text (symbol_x i) (symbol_y l i h l.lines + 24) 170 (codes "= " ++ state_words s) ∷ []
    else []

-- what is said of an object before its row: its name in each band, and in the last one how it is declared, the number
-- of its requests, and its last state
abbrev pub requests_words : ℕ → List ℕ
requests_words n = counted n (codes " request")

abbrev pub state_shapes : Option State → (y : ℕ) → List Shape
state_shapes None y = []
state_shapes (Some s) y = fitted_text 12 y 180 (codes "ends as " ++ state_words s) ∷ []

abbrev pub row_name : ProgramShape → Layout → (h band : ℕ) → List Shape
row_name p l h band = text_at 12 (row_y l band h + 21) (object_at p h).name ∷ []

abbrev pub row_end : ProgramShape → Played → Layout → (h band : ℕ) → List Shape
row_end p run l h band =
    (fitted_text 12 (row_y l band h + 37) 180 (declared_words (object_at p h).kind (length (journal_of run h))) ∷ [])
    ++ state_shapes (slice_get run.states h) (row_y l band h + 53)

-- what stands of an object in a column: the stretch, and what it left
abbrev pub whole_cell : ProgramShape → Played → Layout → (h i : ℕ) → List Shape
whole_cell p run l h i =
    cell p run l i h (stretch run h i) (stretch_fates p run h i) ++ left_shapes run l i h (state_at p run h (suc i))

-- the row of an object: what is said of it, a stretch for each column, and in the further column what is left
abbrev pub left_text : Layout → (h requests : ℕ) → Shape
left_text l h requests =
    text_at (column_x most_columns + 12) (row_y l (band_of most_columns) h + 21) (requests_words requests)

abbrev pub row_left : Played → Layout → (h requests : ℕ) → List Shape
row_left run l h requests =
    if nat_lt most_columns (length run.order) then left_text l h requests ∷ [] else []

abbrev pub row : ProgramShape → Played → Layout → (h : ℕ) → List Shape
row p run l h =
    shapes_up_to (bands_of (all_columns run)) (row_name p l h)
    ++ row_end p run l h (bands_of (all_columns run) - 1)
    ++ shapes_up_to (columns_of run) (whole_cell p run l h)
    ++ row_left run l h (length (journal_of run h) - stretch_start run h (columns_of run))

-- the line of a block, which holds together the frames of its stretches, at their left side
abbrev pub block_line : ProgramShape → Ticket → (ended : Bool) → Layout → (i first last : ℕ) → Shape
block_line p t ended l i first last =
    path_start (codes "block") t.client (column_x i + 8) (row_y l (band_of i) first + 6)
    ++ with_number (codes "v") (reach l first last) ++ path_end (block_words p t ended)

-- the column of a ticket: whose it is, the number of its block, and the line
abbrev pub column_names : ProgramShape → Layout → ℕ → Ticket → List Shape
column_names p l i t =
    (text_at (column_x i + 8) (band_y l (band_of i) + 14) (client_at p t.client).name ∷ [])
    ++ (text_at (column_x i + 8) (band_y l (band_of i) + 30) (with_number (codes "block ") t.index) ∷ [])

abbrev pub column : ProgramShape → Played → Layout → ℕ → List Shape
column p run l i =
    column_names p l i (ticket_at run i)
    ++ (block_line p (ticket_at run i) (ended_at run i) l i (first_row (objects_at run i))
    (last_row (objects_at run i))
    ∷ [])

-- how many blocks more there are
abbrev pub columns_text : Played → Layout → Shape
columns_text run l =
    text_at (column_x most_columns + 8) (band_y l (band_of most_columns) + 14)
    (counted (length run.order - most_columns) (codes " more block"))

abbrev pub columns_left : Played → Layout → List Shape
columns_left run l =
    if nat_lt most_columns (length run.order) then columns_text run l ∷ [] else []
