-- The handlers' queues of tickets, at the desk and at the handlers.
use Rattle.std.specs.Prelude.{◌≡◌, ℕ, true, ◌<◌, nat_lt, Bool, if◌then◌else◌, List, [], ◌∷◌, ◌++◌, length, slice_get, slice_index_or, Option, Some, None}
use Rattle.atomic_table.specs.Seated.{TableId}
use Rattle.qs_objects.specs.declared.held.Ticket as held
use Rattle.qs_objects.specs.declared.held.Next.{Next}
use Rattle.qs_objects.specs.declared.held.Next.TheVariants.{Ticket, Closed}
use Rattle.qs_meaning.specs.audit.Following.{reserves}
use Rattle.qs_program.specs.audit.Program.{ProgramShape}
use Rattle.qs_queue.specs.Views.{SenderView, TakerView}
use Rattle.qs_desk.specs.declared.queue.QueueOwner.{QueueOwner}
use Rattle.qs_desk.specs.Limits.{queue_room}
use Rattle.qs_desk.specs.audit.Tickets.{pushed_to}
use Rattle.qs_desk.specs.Tickets.{AreFor}
use Rattle.qs_desk.specs.Views.{TicketsView}

abbrev pub owner : ProgramShape → ℕ → QueueOwner
owner p h = record { program = p; handler = h }

abbrev pub no_owner : QueueOwner
no_owner = owner (record { objects = []; clients = [] }) 0

abbrev pub QueueView : Type 0
QueueView = SenderView Next QueueOwner

abbrev pub QueueEndView : Type 0
QueueEndView = TakerView Next QueueOwner

-- the two ends of a new queue of this name
abbrev pub new_queue : ProgramShape → TableId → ℕ → QueueView
new_queue p name h = record { name = name; room = queue_room; key = owner p h; sent = [] }

abbrev pub new_end : ProgramShape → TableId → ℕ → QueueEndView
new_end p name h = record { name = name; key = owner p h; received = [] }

abbrev pub queue_name : QueueView → TableId
queue_name l = l.name

-- no such queue
abbrev pub no_queue : QueueView
no_queue = record {
  name = record { words = 0; slots = 0; views_name = 0; atom = 0; block = 0; offset = 0; slot_names = [] };
  room = 0;
  key = no_owner;
  sent = [];
}

abbrev pub queue_at : List QueueView → ℕ → QueueView
queue_at senders h = slice_index_or senders h no_queue

-- the handler's end of the queue that the desk has for it
abbrev pub IsEndOf : ProgramShape → List TableId → ℕ → QueueEndView → Type 0
IsEndOf p names h end = (slice_get names h ≡ Some end.name) × (end.key ≡ owner p h)

-- the desk's end of a handler's queue holds what was pushed to the handler
abbrev pub IsQueueOf : ProgramShape → List TableId → List held.Ticket → Bool → ℕ → QueueView → Type 0
IsQueueOf p names history closed h l =
    (slice_get names h ≡ Some l.name) × (l.room ≡ queue_room) × (l.key ≡ owner p h)
    × (l.sent ≡ pushed_to p h history closed)

-- with a ticket more, if its block reserves the handler
abbrev pub with_ticket : ProgramShape → held.Ticket → ℕ → QueueView → QueueView
with_ticket p t h l = if reserves p t h then record l { sent = l.sent ++ Ticket t ∷ [] } else l

-- with the closing mark
abbrev pub closed_queue : QueueView → QueueView
closed_queue l = record l { sent = l.sent ++ Closed ∷ [] }

abbrev pub IsNewQueue : ProgramShape → ℕ → QueueView → Type 0
IsNewQueue p h l = l ≡ new_queue p l.name h

-- there is room for a ticket, and it may stand there, if its block reserves the handler
abbrev pub MayGrow : ProgramShape → held.Ticket → ℕ → QueueView → Type 0
MayGrow p t h l =
    (length l.sent < l.room) × (l.key ≡ owner p h) × (reserves p t h ≡ true → AreFor p h (l.sent ++ Ticket t ∷ []))

-- there is room for the closing mark, and it may stand there
abbrev pub MayClose : QueueView → Type 0
MayClose l = (length l.sent < l.room) × AreFor l.key.program l.key.handler (l.sent ++ Closed ∷ [])

-- an end with nothing taken, for each queue that there is
abbrev pub end_of : ProgramShape → ℕ → Option TableId → Option QueueEndView
end_of p h None = None
end_of p h (Some name) = Some (new_end p name h)

abbrev pub end_at : ProgramShape → List TableId → ℕ → Option QueueEndView
end_at p names h = end_of p h (slice_get names h)

-- the tickets of each handler of the program, with none taken
abbrev pub tickets_at : ProgramShape → ℕ → Option TicketsView
tickets_at p h = if nat_lt h (length p.objects) then Some (record { handler = h; taken = [] }) else None
