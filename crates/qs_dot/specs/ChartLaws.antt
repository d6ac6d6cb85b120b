-- What holds of every chart, and a drawing that was worked out by hand.
use Rattle.std.specs.Prelude.{◌≡◌, ◌↔◌, ℕ, suc, false, Some, List, [], nat_eq, slice_get}
use Rattle.std.specs.List.{list_any}
use Rattle.qs_program.specs.audit.Program.{ProgramShape}
use Rattle.qs_dot.specs.declared.chart.Lead.{Lead}
use Rattle.qs_standings.specs.Standings.{NoneNext, StandingShape}
use Rattle.qs_dot.specs.Charts.{AreLeads, ArePlaces}
use Rattle.qs_dot.specs.ChartDot.{leads_on}
use Rattle.qs_dot.specs.EndText.{end_text, number_in}
use Rattle.qs_outcomes.specs.Outcomes.{AreOutcomesAfter, OutcomesShape}
use Rattle.qs_objects.specs.declared.held.Ticket.{Ticket}

-- No block leads on from a place exactly where no client has a block left, so that it is an outcome.
abbrev pub EndsAreOutcomes : Type 0
EndsAreOutcomes =
    (p : ProgramShape) (places : List StandingShape) (leads : List Lead) → AreLeads p places leads
    → (i : ℕ) (s : StandingShape) → slice_get places i ≡ Some s
    → (list_any (λ (l : Lead). nat_eq l.from i) leads ≡ false) ↔ NoneNext p s

-- the number of the first outcome of a list that holds what a text says is that of one of them, which holds it
abbrev pub HasNumber : ProgramShape → List StandingShape → List ℕ → Type 0
HasNumber p found text =
    (m : ℕ) × (t : StandingShape) × (number_in p text found ≡ suc m) × (slice_get found m ≡ Some t)
    × (end_text p t ≡ text)

-- An end of a chart after a front has a number in a list of all outcomes after it.
abbrev pub EndsHaveNumbers : Type 0
EndsHaveNumbers =
    (p : ProgramShape) (front : List Ticket) (places : List StandingShape) (leads : List Lead) (all : OutcomesShape)
    → ArePlaces p front places → AreLeads p places leads → AreOutcomesAfter p front all
    → (i : ℕ) (s : StandingShape) → slice_get places i ≡ Some s → leads_on leads i ≡ false
    → HasNumber p all.found (end_text p s)
