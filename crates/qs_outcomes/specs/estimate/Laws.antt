-- What the bounds say of a search.
use Rattle.std.specs.Prelude.{◌≤◌, ℕ, List}
use Rattle.qs_objects.specs.declared.held.Ticket.{Ticket}
use Rattle.qs_program.specs.audit.Program.{ProgramShape}
use Rattle.qs_meaning.specs.audit.Serial.{IsLegal}
use Rattle.qs_alike.specs.Changes.{AreAlone, Classes}
use Rattle.qs_alike.specs.Followed.{Orders, all_legal}
use Rattle.qs_outcomes.specs.Outcomes.{AreDifferent}
use Rattle.qs_outcomes.specs.Reached.{HasNoted, HasReached}
use Rattle.qs_outcomes.specs.estimate.Estimates.{least_orders, left, most_orders}
use Rattle.qs_standings.specs.Standings.{StandingShape}

-- There are no more configurations to which reduced orders lead.
abbrev pub MostSuffices : Type 0
MostSuffices =
    (p : ProgramShape) (front : List Ticket) (many : ℕ) (ss : List StandingShape) → AreDifferent p front ss many
    → many ≤ most_orders (left p front)

-- Nor does the search for an answer note more, whichever orders it follows and whoever changes places.
abbrev pub MostSufficesForAnswers : Type 0
MostSufficesForAnswers =
    (p : ProgramShape) (k : Classes) (o : Orders) (front : List Ticket) (many : ℕ) → HasNoted p k o front many
    → many ≤ most_orders (left p front)

-- After a legal front so many configurations are on the way, or more, where nobody changes places.
abbrev pub LeastIsThere : Type 0
LeastIsThere =
    (p : ProgramShape) (k : Classes) → AreAlone k → (front : List Ticket) → IsLegal p front → (count : ℕ)
    → HasReached p k all_legal front count → least_orders (left p front) ≤ count
