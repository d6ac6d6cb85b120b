-- Beside what the headline reaches (`audit/Runs.antt`): what else contracts and proofs use.
use Rattle.std.specs.Prelude.{◌↔◌, ℕ, List, Ok}
use Rattle.qs_program.specs.audit.Program.{ProgramShape}
use Rattle.qs_program.specs.Sound.{IsSound}
use Rattle.qs_syncset.specs.declared.mode.Mode.{Mode}
use Rattle.qs_played.specs.audit.Played.{Played}
use Rattle.qs_played.specs.declared.schedule.actor.Actor.{Actor}
use Rattle.qs_plain_laws.specs.PlainSchedule.{IsPlayed}
use Rattle.qs_core_laws.specs.CoreSchedule.{IsPlayedIn}
use Rattle.qs_run_laws.specs.Outcomes.{IsOutcome}
use Rattle.qs_promises.specs.audit.Runs.{by_rules, on_machine, on_threads, IsRun}

-- What `play_plain` promises of what it shows is exactly this, for every program;
abbrev pub PlayedAreRuns : Type 0
PlayedAreRuns =
    (p : ProgramShape) (picks : List Actor) (rounds : ℕ) (r : Played)
    → IsPlayed p picks rounds (Ok r) ↔ IsRun p (by_rules picks rounds) r

-- what `play` promises, too;
abbrev pub PlayedInAreRuns : Type 0
PlayedInAreRuns =
    (p : ProgramShape) (mode : Mode) (size : ℕ) (picks : List Actor) (rounds : ℕ) (r : Played)
    → IsPlayedIn p mode size picks rounds (Ok r) ↔ IsRun p (on_machine mode size picks rounds) r

-- and what `execute` promises, for every checked program: all else that it says of an outcome follows.
abbrev pub OutcomesAreRuns : Type 0
OutcomesAreRuns =
    (p : ProgramShape) → IsSound p → (mode : Mode) (size : ℕ) (r : Played)
    → IsOutcome p mode size r ↔ IsRun p (on_threads mode size) r
