-- A run of a program: what a public call has shown of it, in whichever way the program was run.
use Rattle.std.specs.Prelude.{◌≡◌, ◌≤◌, ℕ, true, List}
use Rattle.qs_program.specs.audit.Program.{ProgramShape}
use Rattle.qs_syncset.specs.audit.Codes.{ClientCode, AreCodes}
use Rattle.qs_syncset.specs.declared.mode.Mode.{Mode}
use Rattle.qs_played.specs.audit.Played.{Played}
use Rattle.qs_played.specs.audit.Schedule.{all_named, most_rounds, schedule}
use Rattle.qs_played.specs.declared.schedule.actor.Actor.{Actor}
use Rattle.qs_plain_laws.specs.audit.Plain.{begin}
use Rattle.qs_plain_laws.specs.audit.PlainSchedule.{played_of, plays}
use Rattle.qs_core_laws.specs.audit.Core.{core_begin}
use Rattle.qs_core_laws.specs.audit.CoreSchedule.{core_played, core_plays}
use Rattle.qs_run_laws.specs.audit.Outcomes.{IsShownByThreads}

-- A program is run by the plain rules, by some picks and then so many rounds; on the optimised machine, by the same, in
-- a mode and with chunks of a size; or on threads, in a mode and with chunks of a size.
pub data Way : Type 0 where
  by_rules : (picks : List Actor) → (rounds : ℕ) → Way
  on_machine : (mode : Mode) → (size : ℕ) → (picks : List Actor) → (rounds : ℕ) → Way
  on_threads : (mode : Mode) → (size : ℕ) → Way

-- This is shown of the program, run in this way. By the plain rules it is the state to which the program comes from its
-- beginning, once each actor of the schedule was asked for a step: the picks, which name clients and handlers that the
-- program has, and then the rounds, no more than may be played. On the optimised machine it is the same, by that
-- machine's steps, with the program compiled in the mode. On threads it is what threads have shown that ran the program,
-- compiled in the mode, with chunks of the size, once each client and each handler had ended.
abbrev pub IsRun : ProgramShape → Way → Played → Type 0
IsRun p (by_rules picks rounds) r =
    (rounds ≤ most_rounds) × (all_named p picks ≡ true)
    × (r ≡ played_of p (plays p (schedule p picks rounds) (begin p)))
IsRun p (on_machine mode size picks rounds) r =
    (rounds ≤ most_rounds) × (all_named p picks ≡ true)
    × ((code : ℕ → ClientCode) × AreCodes p mode code
    × (r ≡ core_played p (core_plays code size (schedule p picks rounds) (core_begin p))))
IsRun p (on_threads mode size) r = IsShownByThreads p mode size r
