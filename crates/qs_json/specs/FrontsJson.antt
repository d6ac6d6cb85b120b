-- Where a program can stand after so many blocks: an object on a line for each front, and one for how many there are.
use Rattle.std.specs.Prelude.{ℕ, ◌+◌, List, ◌++◌, codes, decimal, length, slice_index_or}
use Rattle.qs_program.specs.audit.Program.{ProgramShape}
use Rattle.qs_standings.specs.Standings.{StandingShape}
use Rattle.qs_report.specs.OutcomesText.{no_standing}
use Rattle.qs_text.specs.audit.Texts.{texts_up_to}
use Rattle.qs_json.specs.OutcomesJson.{next_client_json, standing_fields}
use Rattle.qs_json.specs.audit.Pieces.{array, field, first_field}

-- a front: its number, from 1, its order, the objects and the clients
abbrev pub front_json : ProgramShape → ℕ → StandingShape → List ℕ
front_json p n s =
    first_field (codes "front") (decimal n) ++ field (codes "order") (array next_client_json s.order)
    ++ standing_fields p s ++ codes "}\n"

-- the front at a place of a list
abbrev pub front_json_at : ProgramShape → List StandingShape → ℕ → List ℕ
front_json_at p found i = front_json p (i + 1) (slice_index_or found i no_standing)

-- each front, and how many there are
abbrev pub all_fronts_json : ProgramShape → List StandingShape → List ℕ
all_fronts_json p found =
    texts_up_to (length found) (front_json_at p found)
    ++ first_field (codes "fronts") (decimal (length found)) ++ codes "}\n"
