-- A diagnosis as lines of text.
use Rattle.std.specs.Prelude.{◌≡◌, ℕ, ◌+◌, ◌-◌, Bool, nat_eq, nat_lt, if◌then◌else◌, List, [], ◌++◌, length, take, drop, flat_map, codes, decimal}
use Rattle.std.specs.Prelude.{replicate}
use Rattle.qs_diagnosis.specs.declared.spot.Spot.{Spot}
use Rattle.qs_diagnosis.specs.declared.told.Span.{Span}
use Rattle.qs_diagnosis.specs.declared.told.Diagnosis.{Diagnosis}
use Rattle.qs_diagnosis.specs.declared.window.Window.{Window}
use Rattle.qs_diagnosis.specs.Excerpts.{below, shown, window_of}
use Rattle.qs_diagnosis.specs.Spots.{line_end_at, spot_at}

-- two dots where a line is cut
abbrev pub dots_if : Bool → List ℕ
dots_if is_cut = if is_cut then codes ".." else []

-- as many blanks as a text has bytes
abbrev pub blanks_of : List ℕ → List ℕ
blanks_of text = replicate (length text) 32

-- as many blanks as a line's number has digits
abbrev pub blank : ℕ → List ℕ
blank line = blanks_of (decimal line)

-- the line of the place, and one without a text
abbrev pub place_text : Spot → List ℕ
place_text spot =
    blank spot.line ++ codes "--> line " ++ decimal spot.line ++ codes ", column " ++ decimal spot.column ++ codes "\n"
    ++ blank spot.line ++ codes " |\n"

-- the source line, or the part of it that is shown
abbrev pub source_text : ℕ → Bool → List ℕ → Bool → Bool → List ℕ
source_text line is_text bytes is_cut_before is_cut_after =
    decimal line ++ codes " | " ++ dots_if is_cut_before ++ flat_map (shown is_text) bytes ++ dots_if is_cut_after
    ++ codes "\n"

abbrev pub one_at_least : List ℕ → List ℕ
one_at_least marks = if nat_eq (length marks) 0 then codes "^" else marks

-- the marks below a token: one at least
abbrev pub marks_text : Bool → List ℕ → List ℕ
marks_text is_text token = one_at_least (flat_map (below is_text 94) token)

-- what is said beside the marks, and the line's end
abbrev pub label_text : List ℕ → List ℕ
label_text label = if nat_eq (length label) 0 then codes "\n" else codes " " ++ label ++ codes "\n"

-- the line below the source line: marks below the token
abbrev pub under_text : List ℕ → Bool → List ℕ → List ℕ → Bool → List ℕ → List ℕ
under_text gutter is_text before token is_cut_before label =
    (gutter ++ codes " | " ++ blanks_of (dots_if is_cut_before) ++ flat_map (below is_text 32) before
    ++ marks_text is_text token)
    ++ label_text label

-- the bytes from one place up to another
abbrev pub between : List ℕ → ℕ → ℕ → List ℕ
between text from to = take (to - from) (drop from text)

-- the bytes of a token that stand in a window around its beginning
abbrev pub token_of : List ℕ → Window → Span → List ℕ
token_of text window span = take span.length (between text span.start window.to)

-- the part of a line that stands in a window, and the marks below the token
abbrev pub windowed_text : Bool → List ℕ → Span → List ℕ → Spot → ℕ → ℕ → Window → List ℕ
windowed_text is_text text span label spot start end w =
    place_text spot
    ++ source_text spot.line is_text (between text w.from w.to) (nat_lt start w.from) (nat_lt w.to end)
    ++ under_text (blank spot.line) is_text (between text w.from span.start) (token_of text w span)
    (nat_lt start w.from) label

abbrev pub excerpt_in : Bool → List ℕ → Span → List ℕ → Spot → ℕ → ℕ → List ℕ
excerpt_in is_text text span label spot start end =
    windowed_text is_text text span label spot start end (window_of start end span.start)

-- the place of a token, its line, and the line below it
abbrev pub excerpt_text : Bool → List ℕ → Span → List ℕ → List ℕ
excerpt_text is_text text span label =
    let spot = spot_at text span.start in
    excerpt_in is_text text span label spot (span.start - (spot.column - 1)) (span.start + line_end_at text span.start)

-- an excerpt was put at the end, of bytes that are text or are not
abbrev pub IsExcerpt : List ℕ → List ℕ → (Bool → List ℕ) → Type 0
IsExcerpt old new excerpt = (is_text : Bool) × (new ≡ old ++ excerpt is_text)

-- the line of the cause, after the head that says how grave it is
abbrev pub cause_text : List ℕ → List ℕ → List ℕ
cause_text head cause = head ++ cause ++ codes "\n"

-- the line of help, where there is some
abbrev pub help_text : ℕ → List ℕ → List ℕ
help_text line help = if nat_eq (length help) 0 then [] else blank line ++ codes " = help: " ++ help ++ codes "\n"

-- the lines of a diagnosis: its cause after a head, its place with the source line, and its help
abbrev pub diagnosis_text : List ℕ → Bool → List ℕ → Diagnosis → List ℕ
diagnosis_text head is_text text d =
    cause_text head d.cause.now ++ excerpt_text is_text text d.span d.label.now
    ++ help_text (spot_at text d.span.start).line d.help.now

-- they were put at the end, after a head
abbrev pub IsPut : List ℕ → List ℕ → Diagnosis → List ℕ → List ℕ → Type 0
IsPut head text d old new = IsExcerpt old new (λ is_text. diagnosis_text head is_text text d)

-- they were put at the end as those of an error
abbrev pub IsTold : List ℕ → Diagnosis → List ℕ → List ℕ → Type 0
IsTold = IsPut (codes "error: ")

-- they were put at the end as those of a warning
abbrev pub IsWarned : List ℕ → Diagnosis → List ℕ → List ℕ → Type 0
IsWarned = IsPut (codes "warning: ")
