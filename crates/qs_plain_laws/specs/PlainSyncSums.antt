-- Synchronisations under the plain rules: one for each query that was answered, and one for each that is waited for.
use Rattle.std.specs.Prelude.{◌≡◌, ◌<◌, ℕ, suc, ◌+◌, ◌==◌, if◌then◌else◌, List, length}
use Rattle.qs_objects.specs.declared.held.Ticket.{Ticket}
use Rattle.qs_program.specs.audit.Program.{ProgramShape}
use Rattle.qs_program.specs.Sound.{IsSound}
use Rattle.qs_syncset.specs.SyncCounts.{queries}
use Rattle.qs_sync_counts.specs.audit.SyncRows.{syncs_of}
use Rattle.qs_played.specs.audit.Isolation.{ended_of, ticket_at, trace_of}
use Rattle.qs_played.specs.audit.Schedule.{queries_in}
use Rattle.qs_played.specs.declared.schedule.actor.Actor.{Actor}
use Rattle.qs_played.specs.audit.Played.{Played}
use Rattle.qs_played.specs.SyncSums.{AreAll, AreListed, AreSent, counts_at, syncs_at}
use Rattle.qs_plain_laws.specs.audit.Plain.{begin, begun_blocks, client_at}
use Rattle.qs_plain_laws.specs.audit.PlainSchedule.{played_of, plays, waits}
use Rattle.qs_plain_laws.specs.audit.Plain as rules

-- under the plain rules: 1 where a ticket's client waits in its block for an answer
abbrev pub waiting : rules.Plain → Ticket → ℕ
waiting s t = if suc t.index == begun_blocks (client_at s t.client) then waits (client_at s t.client).stage else 0

-- The i-th reservation under the plain rules: it has asked for each query of its trace so far once, and for one more
-- exactly while its client waits in it.
pub record IsAsked (p : ProgramShape) (s : rules.Plain) (r : Played) (i : ℕ) : Type 0 where
  pub listed : AreListed p r i
  pub each : AreSent (ended_of r i) (syncs_at r i) (λ h. queries h (trace_of r i))
  pub more : syncs_of (counts_at r i) ≡ waiting s (ticket_at r i) + queries_in (trace_of r i)

pub record PlainSums (p : ProgramShape) (s : rules.Plain) (r : Played) : Type 0 where
  pub all : AreAll r
  pub each : (i : ℕ) → i < length r.order → IsAsked p s r i

unfoldable pub AreQueriesCounted : ProgramShape → rules.Plain → Played → Type 0
AreQueriesCounted p s r = PlainSums p s r

-- for every program and list of actors
abbrev pub PlainSyncsAreCounted : Type 0
PlainSyncsAreCounted =
    (p : ProgramShape) → IsSound p → (actors : List Actor)
    → AreQueriesCounted p (plays p actors (begin p)) (played_of p (plays p actors (begin p)))
