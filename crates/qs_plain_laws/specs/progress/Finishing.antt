-- That a run by the plain rules in which everyone has his turn often enough is finished, and then stays so.
use Rattle.std.specs.Prelude.{◌≡◌, ◌≤◌, ◌⊎◌, ℕ, true, None, List, [], ◌∷◌, Ok, flat_map, length}
use Rattle.std.specs.List.{AllByRecursion}
use Rattle.qs_program.specs.audit.Program.{ProgramShape}
use Rattle.qs_program.specs.Sound.{IsSound}
use Rattle.qs_played.specs.audit.Played.{Played}
use Rattle.qs_played.specs.audit.Schedule.{names_actor}
use Rattle.qs_played.specs.declared.schedule.actor.Actor.{Actor}
use Rattle.qs_plain_laws.specs.audit.Plain.{Plain, begin, step}
use Rattle.qs_plain_laws.specs.audit.PlainSchedule.{is_finished, plays}
use Rattle.qs_plain_laws.specs.PlainSchedule.{IsPlayed}
use Rattle.qs_plain_laws.specs.progress.Steps.{most_steps_of}

-- Where all is finished nobody has a step.
abbrev pub FinishedRunsStay : Type 0
FinishedRunsStay = (p : ProgramShape) (s : Plain) → is_finished p s ≡ true → (a : Actor) → step p s a ≡ None

-- an actor of a list
abbrev pub IsOneOf : Actor → List Actor → Type 0
IsOneOf a [] = ⊥
IsOneOf a (b ∷ rest) = (a ≡ b) ⊎ IsOneOf a rest

-- each client and each handler of the program has a turn, whoever else has one, and however often
abbrev pub HasEveryone : ProgramShape → List Actor → Type 0
HasEveryone p actors = (a : Actor) → names_actor p a ≡ true → IsOneOf a actors

-- After so many lists of actors, one behind the other, in each of which everyone has a turn, all is finished.
abbrev pub FairRunsFinish : Type 0
FairRunsFinish =
    (p : ProgramShape) → IsSound p → (turns : List (List Actor)) → AllByRecursion (HasEveryone p) turns
    → most_steps_of p ≤ length turns → is_finished p (plays p (flat_map (λ turn. turn) turns) (begin p)) ≡ true

-- Whatever a checked program has shown after any picks and at least so many rounds is finished.
abbrev pub EnoughRoundsFinish : Type 0
EnoughRoundsFinish =
    (p : ProgramShape) → IsSound p → (picks : List Actor) (rounds : ℕ) → most_steps_of p ≤ rounds
    → (shown : Played) → IsPlayed p picks rounds (Ok shown) → shown.finished ≡ true
