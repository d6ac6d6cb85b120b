-- A run is played again by the actors that stepped in it.
use Rattle.std.specs.Prelude.{◌≡◌, ℕ, List, Ok}
use Rattle.qs_program.specs.audit.Program.{ProgramShape}
use Rattle.qs_syncset.specs.audit.Codes.{ClientCode, AreCodes}
use Rattle.qs_syncset.specs.declared.mode.Mode.{Mode}
use Rattle.qs_played.specs.audit.Played.{Played}
use Rattle.qs_played.specs.declared.schedule.actor.Actor.{Actor}
use Rattle.qs_plain_laws.specs.PlainSchedule.{IsPlayed}
use Rattle.qs_core_laws.specs.audit.CoreSchedule.{core_played}
use Rattle.qs_core_laws.specs.CoreSchedule.{IsPlayedIn, core_scheduled}
use Rattle.qs_steps.specs.PlainSteps.{plain_steppers}
use Rattle.qs_steps.specs.CoreSteps.{core_steppers}

-- under the plain rules: those actors as picks, and no round, show the same
abbrev pub PlainStepsReplay : Type 0
PlainStepsReplay =
    (p : ProgramShape) (picks : List Actor) (rounds : ℕ) (played : Played)
    → IsPlayed p picks rounds (Ok played) → IsPlayed p (plain_steppers p picks rounds) 0 (Ok played)

-- and on the optimised machine, by the codes by which the run was played
abbrev pub CoreStepsReplay : Type 0
CoreStepsReplay =
    (p : ProgramShape) (mode : Mode) (code : ℕ → ClientCode) → AreCodes p mode code
    → (size : ℕ) (picks : List Actor) (rounds : ℕ) (played : Played)
    → played ≡ core_played p (core_scheduled p code size picks rounds)
    → IsPlayedIn p mode size picks rounds (Ok played)
    → IsPlayedIn p mode size (core_steppers p code size picks rounds) 0 (Ok played)

pub record StepsReplay : Type 0 where
  pub by_rules : PlainStepsReplay
  pub by_machine : CoreStepsReplay
