-- How often each end came in many runs, as bytes.
use Rattle.std.specs.Prelude.{ℕ, zero, suc, ◌+◌, Bool, List, [], ◌++◌, codes, decimal, if◌then◌else◌, length, nat_eq, slice_index_or}
use Rattle.qs_program.specs.audit.Program.{ProgramShape}
use Rattle.qs_tally.specs.Tallies.{CountedShape, TallyShape}
use Rattle.qs_text.specs.audit.Texts.{count_line, texts_up_to}
use Rattle.qs_report.specs.OutcomesText.{client_line, clients_text, no_standing, object_line}

-- the number of an outcome, where the ends are all outcomes in their order
abbrev pub end_name : (listed : Bool) → ℕ → List ℕ
end_name listed n = if listed then codes "outcome " ++ decimal n else codes "end"

-- this, an order that comes to the end, and in how many runs it came
abbrev pub end_line : (listed : Bool) → ℕ → CountedShape → List ℕ
end_line listed n e =
    end_name listed n ++ codes " " ++ clients_text e.standing.order ++ codes " came " ++ decimal e.times ++ codes "\n"

-- an end that came: its line, those of the objects, and those of the clients
abbrev pub came_text : ProgramShape → (listed : Bool) → ℕ → CountedShape → List ℕ
came_text p listed n e =
    end_line listed n e ++ texts_up_to (length p.objects) (object_line p e.standing)
    ++ texts_up_to (length p.clients) (client_line p e.standing)

-- one that came in no run is left out
abbrev pub counted_text : ProgramShape → (listed : Bool) → ℕ → CountedShape → List ℕ
counted_text p listed n e = if nat_eq e.times 0 then [] else came_text p listed n e

abbrev pub no_end : CountedShape
no_end = record { standing = no_standing; times = 0 }

-- the end at a place of a list
abbrev pub counted_text_at : ProgramShape → (listed : Bool) → List CountedShape → ℕ → List ℕ
counted_text_at p listed ends i = counted_text p listed (i + 1) (slice_index_or ends i no_end)

-- one where an end came
abbrev pub one_where_came : CountedShape → ℕ
one_where_came e = if nat_eq e.times 0 then 0 else 1

-- how many of the ends at the places from 0 up to n came
abbrev pub came_up_to : ℕ → List CountedShape → ℕ
came_up_to zero ends = 0
came_up_to (suc n) ends = came_up_to n ends + one_where_came (slice_index_or ends n no_end)

-- of how many outcomes, where the ends are all of them
abbrev pub of_all : (listed : Bool) → ℕ → List ℕ
of_all listed n = if listed then codes " of " ++ decimal n else []

-- how many ends came
abbrev pub came_line : (listed : Bool) → (came all : ℕ) → List ℕ
came_line listed came all = codes "came " ++ decimal came ++ of_all listed all ++ codes "\n"

-- how many runs there were, each end that came, and how many came
abbrev pub tally_text : ProgramShape → (runs : ℕ) → TallyShape → List ℕ
tally_text p runs t =
    count_line (codes "runs") runs ++ texts_up_to (length t.ends) (counted_text_at p t.listed t.ends)
    ++ came_line t.listed (came_up_to (length t.ends) t.ends) (length t.ends)
