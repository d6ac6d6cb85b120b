-- No picture has more shapes than it may have: a stretch has its frame, two shapes for each of the requests that are
-- drawn, and three texts. Where few stretches are drawn, each has up to 12 requests, and else 4; so both stay below the
-- limit.
use Rattle.qs_svg.proofs.Common.{◌≡◌, ℕ, zero, suc, ◌+◌, ◌*◌, ◌-◌, ◌≤◌, min, List, [], ◌∷◌, length, refl, arith, Bool, true, false, ◌&&◌, if◌then◌else◌, nat_eq, nat_le, nat_lt, get_or, slice_get}
use Rattle.qs_svg.proofs.Common.{Option, None, Some, ◌++◌, codes, length-append, nat_tests, Entry, ProgramShape, Played, State, object_at, Fate, Done, Shape, fitted_text, shapes_up_to, all_columns}
use Rattle.qs_svg.proofs.Common.{columns_of, ended_at, journal_of, most_columns, most_symbols, no_entry, queries_in, reserves, sent_for, state_at, stretch, stretch_fates, stretch_start, syncs_at}
use Rattle.qs_svg.proofs.Common.{ticket_at, band_y, bands_of, layout_of, row_y, symbol_x, symbol_y, cell, column, columns_left, columns_text, left_shapes, left_text, more_symbols, more_text}
use Rattle.qs_svg.proofs.Common.{request_shapes, row, row_end, row_left, row_name, state_shapes, stretch_frame, stretch_shapes, symbols, sync_symbols, sync_text, whole_cell, client_shapes, rules}
use Rattle.qs_svg.proofs.Common.{sign_shapes, client_end, client_line, end_shapes, ground, has_variables, heading, legend_shapes, lines_before, row_shapes, run_shapes, declared_words, state_words}
use Rattle.std.proofs.lemmas.Nat.{mul-le}
use Rattle.std.proofs.Math.Nat.{mul-add, mul_assoc, mul_comm, suc-mul}
use Rattle.qs_program.specs.audit.Values.{Locals}
use Rattle.qs_svg.specs.declared.layout.Layout.{Layout}
use Rattle.qs_svg.specs.Few.{AreFewShapes}

-- so many places with so many shapes each
up_to_few : (n m : ℕ) (shapes : ℕ → List Shape) → ((i : ℕ) → length (shapes i) ≤ m) → length (shapes_up_to n shapes) ≤ n * m
up_to_few zero m shapes few = omega arith
up_to_few (suc n) m shapes few =
    omega (arith, length-append (shapes_up_to n shapes) (shapes n), up_to_few n m shapes few, few n, suc-mul n m)

-- where one shape is drawn or none
one_or_none : (b : Bool) (shape : Shape) → length (if b then shape ∷ [] else []) ≤ 1
one_or_none true shape = omega arith
one_or_none false shape = omega arith

none_or_one : (b : Bool) (shape : Shape) → length (if b then [] else shape ∷ []) ≤ 1
none_or_one true shape = omega arith
none_or_one false shape = omega arith

some_or_none : (b : Bool) (shapes : List Shape) (m : ℕ) → length shapes ≤ m → length (if b then shapes else []) ≤ m
some_or_none true shapes m few = few
some_or_none false shapes m few = omega arith

symbols_few : (p : ProgramShape) (l : Layout) (i h : ℕ) (entries : List Entry) (fates : List Fate) → length (symbols p l i h entries fates) ≤ l.most * 2
symbols_few p l i h entries fates =
    let drawn = λ (j : ℕ). request_shapes p (symbol_x i) (symbol_y l i h j) (get_or entries j no_entry) (get_or fates j Done) in
    omega (arith, up_to_few (min (length entries) l.most) 2 drawn (λ j. omega arith))

-- a stretch: its frame, its requests, and two texts
cell_few : (p : ProgramShape) (run : Played) (l : Layout) (i h : ℕ) (entries : List Entry) (fates : List Fate)
    → length (cell p run l i h entries fates) ≤ l.most * 2 + 3
cell_few p run l i h entries fates =
    let frame = stretch_frame p (ticket_at run i) (ended_at run i) l i h (length entries) ∷ [] in
    let drawn = symbols p l i h entries fates in
    let more = more_symbols l i h (length entries) in
    let sent = sent_for h (syncs_at run i) in
    let queries = queries_in entries in
    let syncs = sync_symbols l i h sent queries in
    let few_more = one_or_none (nat_lt l.most (length entries)) (more_text l i h (length entries)) in
    let few_syncs = none_or_one (nat_eq sent 0 && nat_eq queries 0) (sync_text l i h sent queries) in
    some_or_none (reserves run i h) (stretch_shapes p run l i h entries fates) (l.most * 2 + 3)
    (omega (
      arith,
      length-append (frame ++ drawn ++ more) syncs,
      length-append (frame ++ drawn) more,
      length-append frame drawn,
      symbols_few p l i h entries fates,
      few_more,
      few_syncs,
    ))

-- and what it left
whole_few : (p : ProgramShape) (run : Played) (l : Layout) (h i : ℕ) → length (whole_cell p run l h i) ≤ l.most * 2 + 4
whole_few p run l h i =
    let entries = stretch run h i in
    let fates = stretch_fates p run h i in
    let s = state_at p run h (suc i) in
    let left = fitted_text (symbol_x i) (symbol_y l i h l.lines + 24) 170 (codes "= " ++ state_words s) in
    omega (
      arith,
      length-append (cell p run l i h entries fates) (left_shapes run l i h s),
      cell_few p run l i h entries fates,
      one_or_none (reserves run i h) left,
    )

-- what is said of an object beside its name: two texts
state_few : (s : Option State) (y : ℕ) → length (state_shapes s y) ≤ 1
state_few None y = omega arith
state_few (Some s) y = omega arith

row_end_few : (p : ProgramShape) (run : Played) (l : Layout) (h band : ℕ) → length (row_end p run l h band) ≤ 2
row_end_few p run l h band = search (rules, state_few)

bands_few : (n : ℕ) → n ≤ 65 → bands_of n ≤ 10
bands_few n few = omega (arith, few)

-- a row: the name of its object in ten bands at most, two texts, its stretches, and one text
row_few : (p : ProgramShape) (run : Played) (l : Layout) (h : ℕ) → length (row p run l h) ≤ 13 + columns_of run * (l.most * 2 + 4)
row_few p run l h =
    let requests = length (journal_of run h) in
    let bands = bands_of (all_columns run) in
    let names = shapes_up_to bands (row_name p l h) in
    let end = row_end p run l h (bands - 1) in
    let stretches = shapes_up_to (columns_of run) (whole_cell p run l h) in
    let left = requests - stretch_start run h (columns_of run) in
    let few_names = up_to_few bands 1 (row_name p l h) (λ band. omega arith) in
    let few_bands = bands_few (all_columns run) (omega arith) in
    let few = up_to_few (columns_of run) (l.most * 2 + 4) (whole_cell p run l h) (whole_few p run l h) in
    let few_left = one_or_none (nat_lt most_columns (length run.order)) (left_text l h left) in
    omega (
      arith,
      length-append (names ++ end ++ stretches) (row_left run l h left),
      length-append (names ++ end) stretches,
      length-append names end,
      few_names,
      row_end_few p run l h (bands - 1),
      few_bands,
      few,
      few_left,
    )

-- the stretches of all rows: few of many requests, or many of few
stretches_in : (b : Bool) (rows columns : ℕ) → (b ≡ true → columns * rows ≤ 192) → columns * rows ≤ 512
    → rows * (columns * ((if b then 12 else 4) * 2 + 4)) ≤ 6144
stretches_in true rows columns few all = omega (arith, mul_assoc rows columns 28, mul_comm rows columns, few refl)
stretches_in false rows columns few all = omega (arith, mul_assoc rows columns 12, mul_comm rows columns, all)

stretches_few : (rows columns : ℕ) → rows ≤ 8 → columns ≤ 64 → rows * (columns * (most_symbols columns rows * 2 + 4)) ≤ 6144
stretches_few rows columns few_rows few_columns = search (rules, mul-le, stretches_in)

-- the variables at the end: two shapes for each client
ends_few : (p : ProgramShape) (locals : Option (ℕ → Locals)) (y : ℕ) → length (end_shapes p locals y) ≤ length p.clients * 2
ends_few p None y = omega arith
ends_few p (Some locals) y =
    up_to_few (length p.clients) 2 (client_end p locals y)
    (λ c. some_or_none (has_variables p c) (client_line p locals (y + 16 * lines_before p c) c) 2 (omega arith))

-- all shapes: the legend, the columns, what is left, the rows, and the variables at the end
pub few_shapes : AreFewShapes
few_shapes p run locals sound =
    let columns = columns_of run in
    let objects = length p.objects in
    let most = most_symbols columns objects in
    let l = layout_of p run in
    let clients = shapes_up_to (length p.clients) (client_shapes p) in
    let begun = (ground ∷ []) ++ (heading p run ∷ []) in
    let legend = legend_shapes p run in
    let all_names = shapes_up_to columns (column p run l) in
    let left = columns_left run l in
    let rows = row_shapes p run l in
    let few_clients = up_to_few (length p.clients) 2 (client_shapes p) (λ c. omega arith) in
    let few_columns = up_to_few columns 3 (column p run l) (λ i. omega arith) in
    let few_left = one_or_none (nat_lt most_columns (length run.order)) (columns_text run l) in
    let few_rows = up_to_few objects (13 + columns * (most * 2 + 4)) (row p run l) (row_few p run l) in
    let bottom = band_y l (bands_of (all_columns run)) in
    let ends = end_shapes p locals bottom in
    let few_stretches = stretches_few objects columns sound.objects (omega arith) in
    let within : columns ≤ 64 = omega arith in
    let counted : length (run_shapes p run locals l) ≤ 17 + length p.clients * 4 + columns * 3 + 1 + objects * (13 + columns * (most * 2 + 4)) =
    omega (
      arith,
      length-append (legend ++ all_names ++ left ++ rows) ends,
      length-append (legend ++ all_names ++ left) rows,
      length-append (legend ++ all_names) left,
      length-append legend all_names,
      length-append (begun ++ clients) sign_shapes,
      length-append begun clients,
      few_clients,
      few_columns,
      few_left,
      few_rows,
      ends_few p locals bottom,
    ) in
    omega (arith, counted, mul-add objects 13 (columns * (most * 2 + 4)), few_stretches, within, sound.clients, sound.objects)
