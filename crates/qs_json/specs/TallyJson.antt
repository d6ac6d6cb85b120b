-- How often each end came in many runs: one object on a line for each end that came, and one for how many there were.
use Rattle.std.specs.Prelude.{ℕ, ◌+◌, Bool, List, [], ◌++◌, codes, decimal, if◌then◌else◌, length, nat_eq, slice_index_or}
use Rattle.qs_program.specs.audit.Program.{ProgramShape}
use Rattle.qs_tally.specs.Tallies.{CountedShape, TallyShape}
use Rattle.qs_report.specs.TallyText.{came_up_to, no_end}
use Rattle.qs_text.specs.audit.Texts.{texts_up_to}
use Rattle.qs_json.specs.audit.Pieces.{array, field, first_field}
use Rattle.qs_json.specs.OutcomesJson.{next_client_json, standing_fields}

-- a number, where the ends are all outcomes in their order
abbrev pub number_or_null : (listed : Bool) → ℕ → List ℕ
number_or_null listed n = if listed then decimal n else codes "null"

-- the number of an outcome, an order that comes to the end, and in how many runs it came
abbrev pub end_head_json : (listed : Bool) → ℕ → CountedShape → List ℕ
end_head_json listed n e =
    first_field (codes "outcome") (number_or_null listed n)
    ++ field (codes "order") (array next_client_json e.standing.order) ++ field (codes "came") (decimal e.times)

-- an end that came: these, the objects and the clients
abbrev pub came_json : ProgramShape → (listed : Bool) → ℕ → CountedShape → List ℕ
came_json p listed n e = end_head_json listed n e ++ standing_fields p e.standing ++ codes "}\n"

-- one that came in no run is left out
abbrev pub counted_json : ProgramShape → (listed : Bool) → ℕ → CountedShape → List ℕ
counted_json p listed n e = if nat_eq e.times 0 then [] else came_json p listed n e

-- the end at a place of a list
abbrev pub counted_json_at : ProgramShape → (listed : Bool) → List CountedShape → ℕ → List ℕ
counted_json_at p listed ends i = counted_json p listed (i + 1) (slice_index_or ends i no_end)

-- each end that came; and how many runs there were, how many ends came, and of how many outcomes
abbrev pub tally_json : ProgramShape → (runs : ℕ) → TallyShape → List ℕ
tally_json p runs t =
    texts_up_to (length t.ends) (counted_json_at p t.listed t.ends)
    ++ first_field (codes "runs") (decimal runs)
    ++ field (codes "came") (decimal (came_up_to (length t.ends) t.ends))
    ++ field (codes "outcomes") (number_or_null t.listed (length t.ends)) ++ codes "}\n"
