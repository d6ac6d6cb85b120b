-- What a call answers: the text that is due, as much of it as there is room for, its length, and its status.
use Rattle.std.specs.Prelude.{◌≡◌, ◌==◌, ◌⊎◌, ◌∷◌, ◌++◌, ℕ, IsUtf8, List, [], Some, codes, drop, length, take}
use Rattle.std.specs.List.{slice_split}
use Rattle.qs_report.specs.declared.faults.Fault.TheVariants as fault
use Rattle.qs_line.specs.declared.line.Format.{Format}
use Rattle.qs_line.specs.declared.line.Format.TheVariants as format
use Rattle.qs_line.specs.declared.line.ReportStyle.{ReportStyle}
use Rattle.qs_line.specs.audit.Line.{Line, Request}
use Rattle.qs_line.specs.Line.{line_in}
use Rattle.qs_line.specs.audit.RunLines.{run_in, style_of}
use Rattle.qs_serve.specs.Due.{IsDueOfLine, IsFormatOfLine, IsRefusedBy, due_status, due_text}
use Rattle.qs_serve.specs.audit.Headline.{IsReported}
use Rattle.qs_serve.specs.declared.due.Due.{Due}

-- the words of a text, one on each of its lines; an empty text has none
abbrev pub words_of : List ℕ → List (List ℕ)
words_of [] = []
words_of (b ∷ bs) = slice_split (λ byte. byte == 10) (b ∷ bs)

-- the words of a line: the program's name, the word of a call, and those of a text
abbrev pub line_words : (word text : List ℕ) → List (List ℕ)
line_words word text = codes "qs" ∷ word ∷ words_of text

-- what is due by a line and a script, in which format: what the program has due, where there are no threads
abbrev pub IsDueOf : Line → (script : List ℕ) → Due → Format → Type 0
IsDueOf line script due how = IsDueOfLine line script due × IsFormatOfLine line due how

-- and by the word of a call, a text of further words and a script: words that are no UTF-8 are refused, and memory may
-- run out before the line is read; both are said as text
abbrev pub IsDueOfWords : (word words script : List ℕ) → Due → Format → Type 0
IsDueOfWords word words script due how =
    (IsUtf8 words × IsDueOf (line_in (line_words word words)) script due how)
    ⊎ ((how ≡ format.Text) × (IsRefusedBy fault.Memory due ⊎ ((¬ IsUtf8 words) × IsRefusedBy fault.CommandLine due)))

-- the front of a text that there is room for, and after it what stood there
abbrev pub cut_into : (text room : List ℕ) → List ℕ
cut_into text room = take (length room) text ++ drop (length text) room

-- what a call answers
abbrev pub IsAnswered : (word words script before after : List ℕ) → (status answer : ℕ) → Type 0
IsAnswered word words script before after status answer =
    (due : Due) × (how : Format) × (details : List ℕ) × IsDueOfWords word words script due how
    × (after ≡ cut_into (due_text how details due) before) × (answer ≡ length (due_text how details due))
    × (status ≡ due_status due)

-- Where the status is 0 and the words ask for a run, the text reports a run of the script's program that is as if its
-- blocks had been run one after another, each whole and alone; as much of it is written as there is room for.
abbrev pub IsHeadlineOfCall : (word words script before after : List ℕ) → (status answer : ℕ) → Type 0
IsHeadlineOfCall word words script before after status answer =
    status ≡ 0 → (request : Request) (style : ReportStyle) → run_in (line_words word words) ≡ Some request
    → style_of request ≡ Some style
    → (text : List ℕ) × (after ≡ cut_into text before) × (answer ≡ length text)
    × IsReported request style script (Some []) (Some text)
