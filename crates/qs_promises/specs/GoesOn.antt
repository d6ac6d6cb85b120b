-- A run can't hang: as long as it has not finished, some client or some handler of the program has a step. Of threads
-- nothing of the kind is claimed.
use Rattle.std.specs.Prelude.{◌≡◌, ◌⊎◌, ℕ, Bool, true, IsSome, List, Option, None}
use Rattle.qs_program.specs.audit.Program.{ProgramShape}
use Rattle.qs_program.specs.Sound.{IsSound}
use Rattle.qs_syncset.specs.audit.Codes.{ClientCode, AreCodes}
use Rattle.qs_syncset.specs.declared.mode.Mode.{Mode}
use Rattle.qs_played.specs.audit.Played.{Played}
use Rattle.qs_played.specs.audit.Schedule.{names_actor, schedule}
use Rattle.qs_played.specs.declared.schedule.actor.Actor.{Actor}
use Rattle.qs_plain_laws.specs.audit.Plain.{begin, step}
use Rattle.qs_plain_laws.specs.audit.PlainSchedule.{is_finished, plays}
use Rattle.qs_core_laws.specs.audit.Core.{core_begin, core_step}
use Rattle.qs_core_laws.specs.audit.CoreSchedule.{core_played, core_plays}
use Rattle.qs_core_laws.specs.audit.CoreSchedule as machine
use Rattle.qs_promises.specs.audit.Runs.{IsRun, Way, by_rules, on_machine, on_threads}

-- some client or some handler of the program has a step, by what each actor's step is
abbrev pub SomebodyHasStep : {S : Type 0} → ProgramShape → (Actor → Option S) → Type 0
SomebodyHasStep p step_of = (a : Actor) × (names_actor p a ≡ true) × IsSome (step_of a)

-- and none of them has one
abbrev pub NobodyHasStep : {S : Type 0} → ProgramShape → (Actor → Option S) → Type 0
NobodyHasStep p step_of = (a : Actor) → names_actor p a ≡ true → step_of a ≡ None

-- A state, finished or not, with the step of each actor. It is finished, or somebody has a step; so where nobody of the
-- program has one it is finished; and where it is finished nobody at all has one.
pub record GoesOnOrEnds {S : Type 0} (p : ProgramShape) (finished : Bool) (step_of : Actor → Option S) : Type 0 where
  pub never_stuck : (finished ≡ true) ⊎ SomebodyHasStep p step_of
  pub ends : NobodyHasStep p step_of → finished ≡ true
  pub stays : finished ≡ true → (a : Actor) → step_of a ≡ None

-- After a run by the plain rules or on the optimised machine, in the state that is shown. On threads only finished runs
-- are shown; that one is shown is not claimed.
abbrev pub RunGoesOn : ProgramShape → Way → Played → Type 0
RunGoesOn p (by_rules picks rounds) r = GoesOnOrEnds p r.finished (step p (plays p (schedule p picks rounds) (begin p)))
RunGoesOn p (on_machine mode size picks rounds) r =
    (code : ℕ → ClientCode) × AreCodes p mode code
    × (r ≡ core_played p (core_plays code size (schedule p picks rounds) (core_begin p)))
    × GoesOnOrEnds p r.finished (core_step code size (core_plays code size (schedule p picks rounds) (core_begin p)))
RunGoesOn p (on_threads mode size) r = r.finished ≡ true

-- for every checked program, in whichever way it is run
abbrev pub RunsGoOn : Type 0
RunsGoOn = (p : ProgramShape) → IsSound p → (way : Way) (r : Played) → IsRun p way r → RunGoesOn p way r

-- That runs go on, for whoever asks for one step after another and sees for each whether it was made: for every
-- checked program and every list of actors, by the plain rules.
abbrev pub RulesGoOn : Type 0
RulesGoOn =
    (p : ProgramShape) → IsSound p → (actors : List Actor)
    → GoesOnOrEnds p (is_finished p (plays p actors (begin p))) (step p (plays p actors (begin p)))

-- And on the optimised machine, in every mode and with every chunk size: a program has codes in each mode, and by any
-- of them it goes on.
pub record MachineGoesOn (p : ProgramShape) (mode : Mode) : Type 0 where
  pub codes : (code : ℕ → ClientCode) × AreCodes p mode code
  pub each : (code : ℕ → ClientCode) → AreCodes p mode code → (size : ℕ) (actors : List Actor)
      → GoesOnOrEnds p (machine.is_finished p (core_plays code size actors (core_begin p)))
      (core_step code size (core_plays code size actors (core_begin p)))

abbrev pub MachinesGoOn : Type 0
MachinesGoOn = (p : ProgramShape) → IsSound p → (mode : Mode) → MachineGoesOn p mode
