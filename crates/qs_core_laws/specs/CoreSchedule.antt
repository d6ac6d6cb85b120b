-- Beside what the headline reaches (`audit/CoreSchedule.antt`): what else contracts and proofs use.
use Rattle.std.specs.Prelude.{◌≡◌, ℕ, suc, ◌==◌, if◌then◌else◌, List, [], ◌++◌, filter, Option, Some, None, Result}
use Rattle.qs_objects.specs.declared.held.Ticket.{Ticket}
use Rattle.qs_objects.specs.declared.Request.{Request}
use Rattle.qs_program.specs.audit.Program.{ProgramShape}
use Rattle.qs_program.specs.Sound.{IsSound}
use Rattle.qs_syncset.specs.declared.mode.Mode.{Mode}
use Rattle.qs_syncset.specs.audit.Codes.{ClientCode, AreCodes}
use Rattle.qs_chunk.specs.LaneParts.{commands_in, lane_of}
use Rattle.qs_handler.specs.Handler.{serving}
use Rattle.qs_client.specs.audit.rules.Client.{Client}
use Rattle.qs_played.specs.Isolation.{IsIsolated}
use Rattle.qs_played.specs.audit.Schedule.{schedule}
use Rattle.qs_played.specs.Schedule.{IsPlayedAs}
use Rattle.qs_played.specs.declared.schedule.actor.Actor.{Actor}
use Rattle.qs_played.specs.declared.fault.PlayFault.{PlayFault}
use Rattle.qs_played.specs.audit.Played.{Played}
use Rattle.qs_core_laws.specs.audit.Core.{Core, core_begin}
use Rattle.qs_core_laws.specs.audit.CoreSchedule.{core_plays, core_played}

-- the state after the picks, and then so many rounds
unfoldable pub core_scheduled : ProgramShape → (ℕ → ClientCode) → ℕ → List Actor → ℕ → Core
core_scheduled p code size picks rounds = core_plays code size (schedule p picks rounds) (core_begin p)

-- the tickets that a handler has before it: the one that it serves, and those in its queue
abbrev pub before_it : Core → ℕ → List Ticket
before_it s h = serving (s.handler h) ++ s.tickets h

abbrev pub or_none : Option (List Request) → List Request
or_none None = []
or_none (Some rs) = rs

-- the requests of a ticket in its open chunk for object h
abbrev pub in_chunk : Client → ℕ → ℕ → List Request
in_chunk m k h = if m.begun == suc k then or_none (m.chunk h) else []

-- the commands of a ticket that are on their way to object h: in the lane, and then in the open chunk
abbrev pub on_way : Core → ℕ → Ticket → List Request
on_way s h t =
    commands_in (lane_of t (filter (λ (u : Ticket). u.client == t.client) (before_it s h)) (s.down t.client h))
    ++ in_chunk (s.client t.client) t.index h

-- what is shown after a schedule, by the codes of the program's clients
abbrev pub IsShown : ProgramShape → Mode → ℕ → List Actor → ℕ → Played → Type 0
IsShown p mode size picks rounds played =
    (code : ℕ → ClientCode) × AreCodes p mode code × (played ≡ core_played p (core_scheduled p code size picks rounds))

-- the result of playing
abbrev pub IsPlayedIn : ProgramShape → Mode → ℕ → List Actor → ℕ → Result Played PlayFault → Type 0
IsPlayedIn p mode size picks rounds result = IsPlayedAs (IsShown p mode size picks rounds) p picks rounds result

-- for every program, mode, chunk size and list of actors
abbrev pub CoreRunsAreIsolated : Type 0
CoreRunsAreIsolated =
    (p : ProgramShape) → IsSound p → (mode : Mode) (code : ℕ → ClientCode) → AreCodes p mode code
    → (size : ℕ) (actors : List Actor)
    → IsIsolated p (core_played p (core_plays code size actors (core_begin p)))
    (on_way (core_plays code size actors (core_begin p)))
