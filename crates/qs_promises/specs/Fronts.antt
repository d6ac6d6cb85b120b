-- What a list of fronts says of the runs of a program.
use Rattle.std.specs.Prelude.{◌≡◌, ◌≤◌, ℕ, true, List, ◌++◌, length}
use Rattle.std.specs.List.{AllByRecursion}
use Rattle.qs_objects.specs.declared.held.Ticket.{Ticket}
use Rattle.qs_program.specs.audit.Program.{ProgramShape}
use Rattle.qs_program.specs.Sound.{IsSound}
use Rattle.qs_meaning.specs.audit.Configurations.{configuration_after}
use Rattle.qs_meaning.specs.Configurations.{outcome_of}
use Rattle.qs_meaning.specs.Reduced.{IsOutcomeAfter}
use Rattle.qs_standings.specs.Lists.{HasOne}
use Rattle.qs_standings.specs.Standings.{StandingShape, configuration_in}
use Rattle.qs_levels.specs.meaning.Fronts.{AreFrontsAfter}
use Rattle.qs_syncset.specs.declared.mode.Mode.{Mode}
use Rattle.qs_played.specs.audit.Played.{Played}
use Rattle.qs_played.specs.declared.schedule.actor.Actor.{Actor}
use Rattle.qs_promises.specs.Answers.{ComesTo}
use Rattle.qs_promises.specs.audit.Runs.{IsRun, Way, by_rules, on_machine}

-- Its order goes on from the front by so many blocks, and leads to its variables and its states; and some picks lead the
-- plain rules there, and the optimised machine in every mode and with every size of chunks.
pub record CanBePassed (p : ProgramShape) (front : List Ticket) (blocks : ℕ) (s : StandingShape) : Type 0 where
  pub rest : List Ticket
  pub whole : s.order ≡ front ++ rest
  pub long : length rest ≡ blocks
  pub there : configuration_in s ≡ configuration_after p s.order
  pub rules : (picks : List Actor) × ComesTo p (by_rules picks 0) s.order
  pub machine : (mode : Mode) (size : ℕ) → (picks : List Actor) × ComesTo p (on_machine mode size picks 0) s.order

-- Every finished run whose order goes on from the front by at least so many blocks, in whichever way it is run, comes to
-- what some order comes to that goes on from one of these; and each of these can be passed.
pub record AreFrontsOfRuns (p : ProgramShape) (front : List Ticket) (blocks : ℕ)
    (found : List StandingShape) : Type 0 where
  pub every : (way : Way) (r : Played) → IsRun p way r → r.finished ≡ true
      → (rest : List Ticket) → r.order ≡ front ++ rest → blocks ≤ length rest
      → HasOne (λ s. IsOutcomeAfter p s.order (outcome_of p r.order)) found
  pub each : AllByRecursion (CanBePassed p front blocks) found

-- for every checked program, every front, every number of blocks, and what `fronts_after` answers
abbrev pub FrontsAreOfRuns : Type 0
FrontsAreOfRuns =
    (p : ProgramShape) → IsSound p → (front : List Ticket) (blocks : ℕ) (found : List StandingShape)
    → AreFrontsAfter p front blocks found → AreFrontsOfRuns p front blocks found
