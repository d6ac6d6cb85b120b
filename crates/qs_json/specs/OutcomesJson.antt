-- All outcomes of a program: one object on a line for each, and one for how many there are.
use Rattle.std.specs.Prelude.{◌≡◌, ◌≤◌, ◌+◌, ℕ, List, ◌++◌, codes, decimal, length, slice_index_or}
use Rattle.qs_objects.specs.declared.held.Ticket.{Ticket}
use Rattle.qs_program.specs.audit.Program.{ProgramShape, object_at}
use Rattle.qs_serial.specs.audit.NamedOrders.{order_of}
use Rattle.qs_outcomes.specs.Outcomes.{AreOutcomesAfter, OutcomesShape}
use Rattle.qs_standings.specs.Standings.{StandingShape, configuration_in}
use Rattle.qs_report.specs.OutcomesText.{next_client_text, no_standing}
use Rattle.qs_text.specs.audit.Words.{no_state}
use Rattle.qs_text.specs.audit.Texts.{texts_up_to}
use Rattle.qs_json.specs.audit.Pieces.{array, array_up_to, field, first_field, quoted}
use Rattle.qs_json.specs.audit.RunJson.{state_json}
use Rattle.qs_json.specs.audit.Variables.{client_with}

-- the client whose block comes next, as a part of a list for `--order`
abbrev pub next_client_json : Ticket → List ℕ
next_client_json t = quoted (next_client_text t)

-- a client with its variables
abbrev pub client_json : ProgramShape → StandingShape → ℕ → List ℕ
client_json p s c = client_with p (configuration_in s).locals c

-- an object at the end
abbrev pub object_json : ProgramShape → StandingShape → ℕ → List ℕ
object_json p s h = state_json (object_at p h).name (slice_index_or s.states h no_state)

-- where a program stands: the objects and the clients
abbrev pub standing_fields : ProgramShape → StandingShape → List ℕ
standing_fields p s =
    field (codes "states") (array_up_to (length p.objects) (object_json p s))
    ++ field (codes "clients") (array_up_to (length p.clients) (client_json p s))

-- the first fields of an outcome: its number, from 1, and an order that comes to it
abbrev pub head_json : ℕ → List Ticket → List ℕ
head_json n order = first_field (codes "outcome") (decimal n) ++ field (codes "order") (array next_client_json order)

-- an outcome: these, the objects and the clients
abbrev pub outcome_json : ProgramShape → ℕ → StandingShape → List ℕ
outcome_json p n s = head_json n s.order ++ standing_fields p s ++ codes "}\n"

-- the outcome at a place of a list
abbrev pub outcome_json_at : ProgramShape → List StandingShape → ℕ → List ℕ
outcome_json_at p found i = outcome_json p (i + 1) (slice_index_or found i no_standing)

-- each outcome, and how many outcomes and configurations there are
abbrev pub listed_json : ProgramShape → OutcomesShape → List ℕ
listed_json p all =
    texts_up_to (length all.found) (outcome_json_at p all.found)
    ++ first_field (codes "outcomes") (decimal (length all.found))
    ++ field (codes "configurations") (decimal all.configurations) ++ codes "}\n"

-- There is a list of all outcomes of the program after the blocks that a list of clients names, in this order and with
-- this count, which is within the limit, whose text this is.
unfoldable pub IsOutcomesJson : ProgramShape → (limit : ℕ) → (front : List ℕ) → List ℕ → Type 0
IsOutcomesJson p limit front text =
    (all : OutcomesShape) × AreOutcomesAfter p (order_of front) all × (all.configurations ≤ limit)
    × (text ≡ listed_json p all)

-- a program has one such text
abbrev pub OutcomesJsonIsUnique : Type 0
OutcomesJsonIsUnique =
    (p : ProgramShape) (limit bound : ℕ) (front one other : List ℕ) → IsOutcomesJson p limit front one
    → IsOutcomesJson p bound front other → one ≡ other
