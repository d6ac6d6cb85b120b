-- How often each end of a program came in many runs on threads.
use Rattle.std.specs.Prelude.{◌≡◌, ◌<◌, ℕ, true, false, Some, List, length, map, slice_get}
use Rattle.std.specs.List.{AllByRecursion, AllZip}
use Rattle.qs_objects.specs.declared.held.Ticket.{Ticket}
use Rattle.qs_program.specs.audit.Program.{ProgramShape}
use Rattle.qs_meaning.specs.Configurations.{outcome_of}
use Rattle.qs_standings.specs.Lists.{EachTwo}
use Rattle.qs_standings.specs.Standings.{StandingShape}
use Rattle.qs_outcomes.specs.Outcomes.{outcome_at}
use Rattle.qs_syncset.specs.declared.mode.Mode.{Mode}
use Rattle.qs_played.specs.audit.Played.{Played}
use Rattle.qs_run_laws.specs.Outcomes.{IsOutcome}
use Rattle.qs_tally.specs.Tallies.{AreListed, AreUnlisted, IsCountOf, TallyShape, standings_in}

-- of the runs with these orders, the one with this number was the first to come to an end, by the order that is shown
pub record CameFirstBy (p : ProgramShape) (orders : List (List Ticket)) (s : StandingShape) (run : ℕ) : Type 0 where
  pub by_order : slice_get orders run ≡ Some s.order
  pub first : (i : ℕ) (order : List Ticket) → i < run → slice_get orders i ≡ Some order
      → outcome_of p order ≡ outcome_at s → ⊥

-- each end shows the order of the run that was the first to come to it, and the ends stand in the order of these runs
abbrev pub AreAsTheyCame : ProgramShape → List (List Ticket) → List StandingShape → Type 0
AreAsTheyCame p orders ends =
    (runs : List ℕ) × AllZip (CameFirstBy p orders) ends runs × EachTwo (λ i j. i < j) runs

-- There were so many runs, each with an outcome on threads in this mode and with chunks of this size, and their orders
-- were counted. Where the ends are listed they are all outcomes in their order; where they are not there are more
-- configurations than the limit, and each end has come, and stands where it first came.
pub record IsTallyBy (p : ProgramShape) (mode : Mode) (size many limit : ℕ) (t : TallyShape) : Type 0 where
  pub runs : List Played
  pub all_runs : length runs ≡ many
  pub each : AllByRecursion (IsOutcome p mode size) runs
  pub counted : IsCountOf p (map (λ (o : Played). o.order) runs) t.ends
  pub listed : t.listed ≡ true → AreListed p limit t.ends
  pub unlisted : t.listed ≡ false → AreUnlisted p limit t.ends
  pub as_they_came : t.listed ≡ false → AreAsTheyCame p (map (λ (o : Played). o.order) runs) (standings_in t.ends)
