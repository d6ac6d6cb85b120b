-- Whether a run by the plain rules can go on.
use Rattle.std.specs.Prelude.{◌≡◌, ◌⊎◌, true, IsSome, List}
use Rattle.qs_program.specs.audit.Program.{ProgramShape}
use Rattle.qs_program.specs.Sound.{IsSound}
use Rattle.qs_played.specs.audit.Schedule.{names_actor}
use Rattle.qs_played.specs.declared.schedule.actor.Actor.{Actor}
use Rattle.qs_plain_laws.specs.audit.Plain.{Plain, begin, step}
use Rattle.qs_plain_laws.specs.audit.PlainSchedule.{is_finished, plays}

-- some client or some handler of the program has a step
abbrev pub CanGoOn : ProgramShape → Plain → Type 0
CanGoOn p s = (a : Actor) × (names_actor p a ≡ true) × IsSome (step p s a)

-- For every checked program and every list of actors: after it all is finished, or somebody has a step.
abbrev pub NeverStuck : Type 0
NeverStuck =
    (p : ProgramShape) → IsSound p → (actors : List Actor)
    → (is_finished p (plays p actors (begin p)) ≡ true) ⊎ CanGoOn p (plays p actors (begin p))
