-- All outcomes of a program, as bytes.
use Rattle.std.specs.Prelude.{◌≡◌, ◌≤◌, ◌+◌, ℕ, List, [], ◌∷◌, ◌++◌, codes, decimal, length, slice_index_or}
use Rattle.std.specs.List.{join_by}
use Rattle.qs_objects.specs.declared.held.Ticket.{Ticket}
use Rattle.qs_program.specs.audit.Program.{ProgramShape, client_at, object_at}
use Rattle.qs_serial.specs.audit.NamedOrders.{order_of}
use Rattle.qs_meaning.specs.audit.Serial.{zeros}
use Rattle.qs_outcomes.specs.Outcomes.{AreOutcomesAfter, OutcomesShape}
use Rattle.qs_standings.specs.Standings.{StandingShape}
use Rattle.qs_text.specs.audit.Words.{no_state}
use Rattle.qs_report.specs.audit.Report.{state_line}
use Rattle.qs_text.specs.audit.Texts.{count_line, texts_up_to}
use Rattle.qs_text.specs.Variables.{variables_text}

-- the client whose block comes next
abbrev pub next_client_text : Ticket → List ℕ
next_client_text t = codes "c" ++ decimal t.client

-- an order by its clients, joined by commas; a dash where it has no block
abbrev pub clients_text : List Ticket → List ℕ
clients_text [] = codes "-"
clients_text (t ∷ ts) = join_by next_client_text (codes ",") (t ∷ ts)

-- what is listed, its number, from 1, and an order that leads there
abbrev pub numbered : List ℕ → ℕ → List Ticket → List ℕ
numbered word n order = word ++ decimal n ++ codes " " ++ clients_text order

-- the number of an outcome, and an order that comes to it
abbrev pub outcome_line : ℕ → List Ticket → List ℕ
outcome_line n order = numbered (codes "outcome ") n order ++ codes "\n"

-- a client with its variables, in the order of their first appearance
abbrev pub client_line : ProgramShape → StandingShape → ℕ → List ℕ
client_line p s c =
    (client_at p c).name ++ variables_text (client_at p c).variables (slice_index_or s.locals c zeros) ++ codes "\n"

-- an object at the end
abbrev pub object_line : ProgramShape → StandingShape → ℕ → List ℕ
object_line p s h = state_line (object_at p h).name (slice_index_or s.states h no_state)

-- an outcome: its line, those of the objects, and those of the clients
abbrev pub outcome_text : ProgramShape → ℕ → StandingShape → List ℕ
outcome_text p n s =
    outcome_line n s.order ++ texts_up_to (length p.objects) (object_line p s)
    ++ texts_up_to (length p.clients) (client_line p s)

abbrev pub no_standing : StandingShape
no_standing = record { order = []; begun = []; locals = []; states = [] }

-- the outcome at a place of a list
abbrev pub outcome_text_at : ProgramShape → List StandingShape → ℕ → List ℕ
outcome_text_at p found i = outcome_text p (i + 1) (slice_index_or found i no_standing)

-- how many outcomes there are, each of them, and how many configurations
abbrev pub listed_text : ProgramShape → OutcomesShape → List ℕ
listed_text p all =
    count_line (codes "outcomes") (length all.found) ++ texts_up_to (length all.found) (outcome_text_at p all.found)
    ++ count_line (codes "configurations") all.configurations

-- There is a list of all outcomes of the program after the blocks that a list of clients names, in this order and with
-- this count, which is within the limit, whose text this is.
unfoldable pub IsOutcomesText : ProgramShape → (limit : ℕ) → (front : List ℕ) → List ℕ → Type 0
IsOutcomesText p limit front text =
    (all : OutcomesShape) × AreOutcomesAfter p (order_of front) all × (all.configurations ≤ limit)
    × (text ≡ listed_text p all)

-- a program has one such text
abbrev pub OutcomesTextsAreUnique : Type 0
OutcomesTextsAreUnique =
    (p : ProgramShape) (limit bound : ℕ) (front one other : List ℕ) → IsOutcomesText p limit front one
    → IsOutcomesText p bound front other → one ≡ other
