-- The counts of synchronisations in the optimised machine, as a law of all its runs.
use Rattle.std.specs.Prelude.{ℕ, List}
use Rattle.qs_program.specs.audit.Program.{ProgramShape}
use Rattle.qs_program.specs.Sound.{IsSound}
use Rattle.qs_syncset.specs.declared.mode.Mode.{Mode}
use Rattle.qs_syncset.specs.audit.Codes.{ClientCode, AreCodes}
use Rattle.qs_played.specs.declared.schedule.actor.Actor.{Actor}
use Rattle.qs_played.specs.SyncSums.{AreSyncsCounted}
use Rattle.qs_core_laws.specs.audit.Core.{core_begin}
use Rattle.qs_core_laws.specs.audit.CoreSchedule.{core_played, core_plays}

-- for every program, mode, chunk size and list of actors
abbrev pub CoreSyncsAreCounted : Type 0
CoreSyncsAreCounted =
    (p : ProgramShape) → IsSound p → (mode : Mode) (code : ℕ → ClientCode) → AreCodes p mode code
    → (size : ℕ) (actors : List Actor)
    → AreSyncsCounted p mode (core_played p (core_plays code size actors (core_begin p)))
