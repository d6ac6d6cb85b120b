-- Beside what the headline reaches (`audit/Schedule.antt`): what else contracts and proofs use.
use Rattle.std.specs.Prelude.{◌≡◌, ◌<◌, ◌≤◌, ℕ, true, false, List, Result, Ok, Err}
use Rattle.qs_program.specs.audit.Program.{ProgramShape}
use Rattle.qs_played.specs.audit.Played.{Played}
use Rattle.qs_played.specs.declared.fault.PlayFault.{PlayFault}
use Rattle.qs_played.specs.declared.fault.PlayFault.TheVariants as fault
use Rattle.qs_played.specs.declared.schedule.actor.Actor.{Actor}
use Rattle.qs_played.specs.audit.Schedule.{all_named, most_rounds}

-- The result of playing, of which the first says what is shown: the rounds are looked at first, then the picks, and
-- memory last.
abbrev pub IsPlayedAs : (Played → Type 0) → ProgramShape → List Actor → ℕ → Result Played PlayFault → Type 0
IsPlayedAs IsShown p picks rounds (Ok played) = (rounds ≤ most_rounds) × (all_named p picks ≡ true) × IsShown played
IsPlayedAs IsShown p picks rounds (Err fault.Rounds) = most_rounds < rounds
IsPlayedAs IsShown p picks rounds (Err fault.Actor) = (rounds ≤ most_rounds) × (all_named p picks ≡ false)
IsPlayedAs IsShown p picks rounds (Err fault.Memory) = (rounds ≤ most_rounds) × (all_named p picks ≡ true)
