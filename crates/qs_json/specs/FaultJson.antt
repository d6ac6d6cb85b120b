-- A refusal, as one object on one line.
use Rattle.std.specs.Prelude.{ℕ, List, [], ◌++◌, codes, decimal, Option, Some, None}
use Rattle.qs_report.specs.declared.faults.Fault.{Fault}
use Rattle.qs_report.specs.Faults.{fault_place, fault_words}
use Rattle.qs_json.specs.audit.Pieces.{field, first_field, quoted}

-- the line of the script, of a fault that has one
abbrev pub line_json : Option ℕ → List ℕ
line_json None = []
line_json (Some line) = field (codes "line") (decimal line)

-- the words and the line that stand in the fault's text, and further fields
abbrev pub words_json : Fault → (details : List ℕ) → List ℕ
words_json fault details =
    first_field (codes "fault") (quoted (fault_words fault)) ++ (line_json (fault_place fault) ++ details) ++ codes "}"

-- the same in the pieces in which it is written: the field of the line and its number may be empty
abbrev pub pieces : (words line number details : List ℕ) → List ℕ
pieces words line number details =
    codes "{\"refused\":{\"fault\":\""
    ++ (words ++ (codes "\"" ++ (line ++ (number ++ (details ++ codes "}}\n")))))

abbrev pub fault_json : Fault → (details : List ℕ) → List ℕ
fault_json fault details = first_field (codes "refused") (words_json fault details) ++ codes "}\n"
