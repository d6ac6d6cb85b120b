-- Isolation under the plain rules: the commands on their way lie in the private queues.
use Rattle.std.specs.Prelude.{ℕ, if◌then◌else◌, List, [], ◌∷◌, flat_map}
use Rattle.qs_objects.specs.audit.Parts.{same}
use Rattle.qs_objects.specs.declared.held.Ticket.{Ticket}
use Rattle.qs_objects.specs.declared.Request.{Request}
use Rattle.qs_program.specs.audit.Program.{ProgramShape}
use Rattle.qs_program.specs.Sound.{IsSound}
use Rattle.qs_played.specs.declared.schedule.actor.Actor.{Actor}
use Rattle.qs_played.specs.Isolation.{IsIsolated}
use Rattle.qs_plain_laws.specs.audit.Plain.{Plain, Private, begin, handler_at}
use Rattle.qs_plain_laws.specs.audit.PlainSchedule.{played_of, plays}
use Rattle.qs_plain_laws.specs.declared.item.QueueItem.{QueueItem}
use Rattle.qs_plain_laws.specs.declared.item.QueueItem.TheVariants as item

-- the commands among items
abbrev pub commands_in : List QueueItem → List Request
commands_in [] = []
commands_in (item.Command r ∷ items) = r ∷ commands_in items
commands_in (item.Query r ∷ items) = commands_in items
commands_in (item.EndMark ∷ items) = commands_in items

abbrev pub commands_of : Ticket → Private → List Request
commands_of t q = if same t q.ticket then commands_in q.items else []

-- the commands of a ticket that lie in its private queue at handler h
abbrev pub commands_in_queue : Plain → ℕ → Ticket → List Request
commands_in_queue s h t = flat_map (commands_of t) (handler_at s.handlers h).queues

-- for every program and every list of actors
abbrev pub PlainRunsAreIsolated : Type 0
PlainRunsAreIsolated =
    (p : ProgramShape) → IsSound p → (actors : List Actor)
    → IsIsolated p (played_of p (plays p actors (begin p))) (commands_in_queue (plays p actors (begin p)))
