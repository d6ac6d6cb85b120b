-- The ends that a program can come to, each once: one object on a line for each, in the order of these lines.
use Rattle.std.specs.Prelude.{◌≡◌, ◌≤◌, ℕ, List, ◌++◌, codes, length, map}
use Rattle.std.specs.List.{AllByRecursion}
use Rattle.qs_objects.specs.declared.held.Ticket.{Ticket}
use Rattle.qs_program.specs.audit.Program.{ProgramShape}
use Rattle.qs_program.specs.Sound.{IsSound}
use Rattle.qs_serial.specs.audit.NamedOrders.{order_of}
use Rattle.qs_outcomes.specs.Outcomes.{AreOutcomesAfter, IsListedAfter, OutcomesShape, outcome_at}
use Rattle.qs_standings.specs.Standings.{StandingShape}
use Rattle.qs_text.specs.SortedTexts.{IsInOrder}
use Rattle.qs_text.specs.TellApart.{IsEndOfWords}
use Rattle.qs_json.specs.audit.Pieces.{array_up_to, field, first_field}
use Rattle.qs_json.specs.OutcomesJson.{client_json, object_json}

-- an end: the objects and the clients
abbrev pub end_json : ProgramShape → StandingShape → List ℕ
end_json p s =
    first_field (codes "states") (array_up_to (length p.objects) (object_json p s))
    ++ field (codes "clients") (array_up_to (length p.clients) (client_json p s)) ++ codes "}\n"

abbrev pub ends_json : ProgramShape → List StandingShape → List (List ℕ)
ends_json p found = map (end_json p) found

-- There is a list of all outcomes of the program after the blocks that a list of clients names, found over no more
-- configurations than the limit, whose ends have this text; and each of them is of numbers of 64 bits, so no two of
-- them have one line (`EndsJsonTellApart`).
unfoldable pub IsEndsJson : ProgramShape → (limit : ℕ) → (front : List ℕ) → List ℕ → Type 0
IsEndsJson p limit front text =
    (all : OutcomesShape) × AreOutcomesAfter p (order_of front) all × (all.configurations ≤ limit)
    × AllByRecursion (IsEndOfWords p) all.found × IsInOrder (ends_json p all.found) text

-- a program has one such text
abbrev pub EndsJsonIsUnique : Type 0
EndsJsonIsUnique =
    (p : ProgramShape) (limit bound : ℕ) (front one other : List ℕ) → IsEndsJson p limit front one
    → IsEndsJson p bound front other → one ≡ other

-- Of one checked program, two ends of numbers of 64 bits that have one line are the same outcome, also where they were
-- found after different fronts.
abbrev pub EndsJsonTellApart : Type 0
EndsJsonTellApart =
    (p : ProgramShape) → IsSound p → (front other : List Ticket) (s t : StandingShape) → IsListedAfter p front s
    → IsListedAfter p other t → IsEndOfWords p s → IsEndOfWords p t → end_json p s ≡ end_json p t
    → outcome_at s ≡ outcome_at t
