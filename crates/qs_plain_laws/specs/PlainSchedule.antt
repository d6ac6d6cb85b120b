-- Beside what the headline reaches (`audit/PlainSchedule.antt`): what else contracts and proofs use.
use Rattle.std.specs.Prelude.{◌≡◌, ℕ, List, Result}
use Rattle.qs_program.specs.audit.Program.{ProgramShape}
use Rattle.qs_played.specs.declared.schedule.actor.Actor.{Actor}
use Rattle.qs_played.specs.declared.fault.PlayFault.{PlayFault}
use Rattle.qs_played.specs.audit.Played.{Played}
use Rattle.qs_played.specs.audit.Schedule.{schedule}
use Rattle.qs_played.specs.Schedule.{IsPlayedAs}
use Rattle.qs_plain_laws.specs.audit.Plain.{Plain, begin}
use Rattle.qs_plain_laws.specs.audit.PlainSchedule.{plays, played_of}

-- the state after them
unfoldable pub scheduled : ProgramShape → List Actor → ℕ → Plain
scheduled p picks rounds = plays p (schedule p picks rounds) (begin p)

-- the result of playing
abbrev pub IsPlayed : ProgramShape → List Actor → ℕ → Result Played PlayFault → Type 0
IsPlayed p picks rounds result =
    IsPlayedAs (λ played. played ≡ played_of p (scheduled p picks rounds)) p picks rounds result
