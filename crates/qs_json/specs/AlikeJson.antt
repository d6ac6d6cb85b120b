-- One of all outcomes that differ by alike clients in each other's places: an object on a line for each, and one for how
-- many there are.
use Rattle.std.specs.Prelude.{ℕ, ◌+◌, List, ◌++◌, codes, decimal, length, slice_index_or, sum}
use Rattle.qs_program.specs.audit.Program.{ProgramShape}
use Rattle.qs_standings.specs.Standings.{StandingShape}
use Rattle.qs_report.specs.OutcomesText.{no_standing}
use Rattle.qs_text.specs.audit.Texts.{texts_up_to}
use Rattle.qs_json.specs.OutcomesJson.{head_json, standing_fields}
use Rattle.qs_json.specs.audit.Pieces.{field, first_field}

-- an outcome: its number, an order that comes to it, for how many it stands, the objects and the clients
abbrev pub alike_json : ProgramShape → ℕ → StandingShape → (count : ℕ) → List ℕ
alike_json p n s count =
    head_json n s.order ++ field (codes "stands_for") (decimal count) ++ standing_fields p s ++ codes "}\n"

-- the outcome at a place of a list, with the count at this place
abbrev pub alike_json_at : ProgramShape → List StandingShape → List ℕ → ℕ → List ℕ
alike_json_at p found counts i = alike_json p (i + 1) (slice_index_or found i no_standing) (slice_index_or counts i 0)

-- how many outcomes are listed, how many there are in all, and how many configurations were noted
abbrev pub alike_counts : (listed all configurations : ℕ) → List ℕ
alike_counts listed all configurations =
    first_field (codes "outcomes") (decimal listed) ++ field (codes "of") (decimal all)
    ++ field (codes "configurations") (decimal configurations) ++ codes "}\n"

-- each outcome, and these numbers
abbrev pub all_alike_json : ProgramShape → List StandingShape → (counts : List ℕ) → (configurations : ℕ) → List ℕ
all_alike_json p found counts configurations =
    texts_up_to (length found) (alike_json_at p found counts) ++ alike_counts (length found) (sum counts) configurations
