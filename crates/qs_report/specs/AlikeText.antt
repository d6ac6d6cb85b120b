-- One of all outcomes that differ by alike clients in each other's places, as bytes.
use Rattle.std.specs.Prelude.{ℕ, ◌+◌, List, ◌++◌, codes, decimal, length, slice_index_or, sum}
use Rattle.qs_objects.specs.declared.held.Ticket.{Ticket}
use Rattle.qs_program.specs.audit.Program.{ProgramShape}
use Rattle.qs_standings.specs.Standings.{StandingShape}
use Rattle.qs_text.specs.audit.Texts.{count_line, texts_up_to}
use Rattle.qs_report.specs.OutcomesText.{client_line, no_standing, numbered, object_line}

-- for how many outcomes one stands
abbrev pub stands_for : ℕ → List ℕ
stands_for count = codes " stands for " ++ decimal count ++ codes "\n"

-- the number of an outcome, an order that comes to it, and for how many outcomes it stands
abbrev pub alike_line : ℕ → List Ticket → (count : ℕ) → List ℕ
alike_line n order count = numbered (codes "outcome ") n order ++ stands_for count

-- an outcome: its line, those of the objects, and those of the clients
abbrev pub alike_outcome : ProgramShape → ℕ → StandingShape → (count : ℕ) → List ℕ
alike_outcome p n s count =
    alike_line n s.order count ++ texts_up_to (length p.objects) (object_line p s)
    ++ texts_up_to (length p.clients) (client_line p s)

-- the outcome at a place of a list, with the count at this place
abbrev pub alike_outcome_at : ProgramShape → List StandingShape → List ℕ → ℕ → List ℕ
alike_outcome_at p found counts i = alike_outcome p (i + 1) (slice_index_or found i no_standing) (slice_index_or counts i 0)

-- how many outcomes are listed, and how many there are in all
abbrev pub of_all_line : (listed all : ℕ) → List ℕ
of_all_line listed all = codes "outcomes " ++ decimal listed ++ codes " of " ++ decimal all ++ codes "\n"

-- this, each of them, and how many configurations were noted
abbrev pub alike_text : ProgramShape → List StandingShape → (counts : List ℕ) → (configurations : ℕ) → List ℕ
alike_text p found counts configurations =
    of_all_line (length found) (sum counts) ++ texts_up_to (length found) (alike_outcome_at p found counts)
    ++ count_line (codes "configurations") configurations
