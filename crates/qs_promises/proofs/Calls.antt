-- What a call promises of what it shows is that this is a run, and each run is what a call promises: by the plain rules
-- and on the optimised machine with the schedule in place of its name, on threads by the law of running threads.
use Rattle.std.proofs.Common.{ℕ, List, Ok, refl, sym, subst}
use Rattle.qs_program.specs.audit.Program.{ProgramShape}
use Rattle.qs_program.specs.Sound.{IsSound}
use Rattle.qs_syncset.specs.declared.mode.Mode.{Mode}
use Rattle.qs_played.specs.Outcomes.{IsOver}
use Rattle.qs_played.specs.audit.Played.{Played}
use Rattle.qs_played.specs.declared.schedule.actor.Actor.{Actor}
use Rattle.qs_plain_laws.specs.PlainSchedule.{IsPlayed, scheduled}
use Rattle.qs_core_laws.specs.CoreSchedule.{IsPlayedIn, core_scheduled}
use Rattle.qs_run_laws.specs.Outcomes.{IsOutcome}
use Rattle.qs_run_laws.proofs.RunOutcomes.{runs_have_outcomes}
use Rattle.qs_promises.specs.audit.Runs.{IsRun, by_rules, on_machine, on_threads}
use Rattle.qs_promises.specs.Runs.{OutcomesAreRuns, PlayedAreRuns, PlayedInAreRuns}

pub run_of_played : (p : ProgramShape) (picks : List Actor) (rounds : ℕ) (r : Played) → IsPlayed p picks rounds (Ok r)
    → IsRun p (by_rules picks rounds) r
unfolding scheduled
run_of_played p picks rounds r played = played

pub played_of_run : (p : ProgramShape) (picks : List Actor) (rounds : ℕ) (r : Played)
    → IsRun p (by_rules picks rounds) r → IsPlayed p picks rounds (Ok r)
unfolding scheduled
played_of_run p picks rounds r run = run

pub run_of_played_in : (p : ProgramShape) (mode : Mode) (size : ℕ) (picks : List Actor) (rounds : ℕ) (r : Played)
    → IsPlayedIn p mode size picks rounds (Ok r) → IsRun p (on_machine mode size picks rounds) r
unfolding core_scheduled
run_of_played_in p mode size picks rounds r played = played

pub played_in_of_run : (p : ProgramShape) (mode : Mode) (size : ℕ) (picks : List Actor) (rounds : ℕ) (r : Played)
    → IsRun p (on_machine mode size picks rounds) r → IsPlayedIn p mode size picks rounds (Ok r)
unfolding core_scheduled
played_in_of_run p mode size picks rounds r run = run

pub run_of_outcome : (p : ProgramShape) (mode : Mode) (size : ℕ) (r : Played) → IsOutcome p mode size r
    → IsRun p (on_threads mode size) r
run_of_outcome p mode size r outcome = outcome.by_threads

pub outcome_of_run : (p : ProgramShape) → IsSound p → (mode : Mode) (size : ℕ) (r : Played)
    → IsRun p (on_threads mode size) r → IsOutcome p mode size r
outcome_of_run p sound mode size r (code, run, codes, is, shows) =
    subst (IsOutcome p mode size) (sym shows) (runs_have_outcomes p sound mode code codes size run is)

-- whatever the program, what threads show is over
pub over_on_threads : (p : ProgramShape) (mode : Mode) (size : ℕ) (r : Played) → IsRun p (on_threads mode size) r
    → IsOver r
over_on_threads p mode size r (code, run, codes, is, shows) =
    subst IsOver (sym shows) (record { ended = refl; finished = refl })

pub played_are_runs : PlayedAreRuns
played_are_runs p picks rounds r = (run_of_played p picks rounds r, played_of_run p picks rounds r)

pub played_in_are_runs : PlayedInAreRuns
played_in_are_runs p mode size picks rounds r =
    (run_of_played_in p mode size picks rounds r, played_in_of_run p mode size picks rounds r)

pub outcomes_are_runs : OutcomesAreRuns
outcomes_are_runs p sound mode size r = (run_of_outcome p mode size r, outcome_of_run p sound mode size r)
