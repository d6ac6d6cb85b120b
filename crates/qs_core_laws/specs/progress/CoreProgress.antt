-- Whether a run of the optimised machine can go on.
use Rattle.std.specs.Prelude.{◌≡◌, ◌⊎◌, ℕ, true, IsSome, List}
use Rattle.qs_program.specs.audit.Program.{ProgramShape}
use Rattle.qs_program.specs.Sound.{IsSound}
use Rattle.qs_syncset.specs.declared.mode.Mode.{Mode}
use Rattle.qs_syncset.specs.audit.Codes.{ClientCode, AreCodes}
use Rattle.qs_played.specs.audit.Schedule.{names_actor}
use Rattle.qs_played.specs.declared.schedule.actor.Actor.{Actor}
use Rattle.qs_core_laws.specs.audit.Core.{Core, core_begin, core_step}
use Rattle.qs_core_laws.specs.audit.CoreSchedule.{core_plays, is_finished}

-- some client or some handler of the program has a step
abbrev pub CanGoOn : ProgramShape → (ℕ → ClientCode) → ℕ → Core → Type 0
CanGoOn p code size s = (a : Actor) × (names_actor p a ≡ true) × IsSome (core_step code size s a)

-- For every checked program, mode, chunk size and list of actors: after it all is finished, or somebody has a step.
abbrev pub CoreNeverStuck : Type 0
CoreNeverStuck =
    (p : ProgramShape) → IsSound p → (mode : Mode) (code : ℕ → ClientCode) → AreCodes p mode code
    → (size : ℕ) (actors : List Actor)
    → (is_finished p (core_plays code size actors (core_begin p)) ≡ true)
    ⊎ CanGoOn p code size (core_plays code size actors (core_begin p))
