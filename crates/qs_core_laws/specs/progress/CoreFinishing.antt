-- That a run of the optimised machine with enough rounds is finished, and then stays so.
use Rattle.std.specs.Prelude.{◌≡◌, ◌≤◌, ℕ, true, None, List, Ok}
use Rattle.qs_program.specs.audit.Program.{ProgramShape}
use Rattle.qs_program.specs.Sound.{IsSound}
use Rattle.qs_syncset.specs.declared.mode.Mode.{Mode}
use Rattle.qs_syncset.specs.audit.Codes.{ClientCode, AreCodes}
use Rattle.qs_played.specs.audit.Played.{Played}
use Rattle.qs_played.specs.declared.schedule.actor.Actor.{Actor}
use Rattle.qs_core_laws.specs.audit.Core.{core_begin, core_step}
use Rattle.qs_core_laws.specs.audit.CoreSchedule.{core_plays, is_finished}
use Rattle.qs_core_laws.specs.CoreSchedule.{IsPlayedIn}
use Rattle.qs_core_laws.specs.progress.CoreSteps.{most_core_steps_of}

-- Where all is finished nobody has a step, for every checked program, mode, chunk size and list of actors.
abbrev pub CoreFinishedRunsStay : Type 0
CoreFinishedRunsStay =
    (p : ProgramShape) → IsSound p → (mode : Mode) (code : ℕ → ClientCode) → AreCodes p mode code
    → (size : ℕ) (actors : List Actor)
    → is_finished p (core_plays code size actors (core_begin p)) ≡ true
    → (a : Actor) → core_step code size (core_plays code size actors (core_begin p)) a ≡ None

-- Whatever a checked program has shown after any picks and at least so many rounds is finished.
abbrev pub CoreEnoughRoundsFinish : Type 0
CoreEnoughRoundsFinish =
    (p : ProgramShape) → IsSound p → (mode : Mode) (size : ℕ) (picks : List Actor) (rounds : ℕ)
    → most_core_steps_of p ≤ rounds
    → (shown : Played) → IsPlayedIn p mode size picks rounds (Ok shown) → shown.finished ≡ true
