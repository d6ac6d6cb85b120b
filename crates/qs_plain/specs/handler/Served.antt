-- A handler of the code, and what its step does.
use Rattle.std.specs.Prelude.{◌≡◌, ◌<◌, ℕ, true, List, [], ◌∷◌, map, length, slice_index_or}
use Rattle.qs_objects.specs.audit.Journals.{HeldState, run_one}
use Rattle.qs_objects.specs.declared.held.Ticket.{Ticket}
use Rattle.qs_objects.specs.audit.Parts.{same}
use Rattle.qs_plain_laws.specs.declared.item.QueueItem.{QueueItem}
use Rattle.qs_plain_laws.specs.audit.Plain.{Handler}
use Rattle.qs_plain_laws.specs.declared.item.QueueItem.TheVariants as item
use Rattle.qs_plain.specs.client.Queues.{AreApart, QueueState, queue_state}
use Rattle.qs_plain.specs.declared.handler.handler.Served.{Served}
use Rattle.qs_plain.specs.declared.handler.handler.Served.TheVariants.{Nothing, Done, Replied}

-- its private queues, how many more may come, and its object with the journal
pub record HandlerState : Type 0 where
  pub queues : List QueueState
  pub room : ℕ
  pub held : HeldState

abbrev pub handler_of_state : HandlerState → Handler
handler_of_state h = record { queues = map (λ q. q.queue) h.queues; held = h.held }

abbrev pub with_queues : HandlerState → List QueueState → HeldState → HandlerState
with_queues h qs held = record { queues = qs; room = h.room; held = held }

-- the first private queue without its first item
abbrev pub shorter : QueueState → List QueueItem → QueueState
shorter q items = queue_state q.queue.ticket items q.room

-- the step by the first item of the first private queue
abbrev pub ServesItem : HandlerState → QueueState → List QueueState → List QueueItem → Served → HandlerState → Type 0
ServesItem h q qs [] served new = (served ≡ Nothing) × (new ≡ h)
ServesItem h q qs (item.Command r ∷ items) served new =
    (served ≡ Done) × (new ≡ with_queues h (shorter q items ∷ qs) (run_one h.held q.queue.ticket r).0)
ServesItem h q qs (item.Query r ∷ items) served new =
    (served ≡ Replied q.queue.ticket r (run_one h.held q.queue.ticket r).1)
    × (new ≡ with_queues h (shorter q items ∷ qs) (run_one h.held q.queue.ticket r).0)
ServesItem h q qs (item.EndMark ∷ items) served new = (served ≡ Done) × (new ≡ with_queues h qs h.held)

abbrev pub ServesFirst : HandlerState → List QueueState → Served → HandlerState → Type 0
ServesFirst h [] served new = (served ≡ Nothing) × (new ≡ h)
ServesFirst h (q ∷ qs) served new = ServesItem h q qs q.queue.items served new

-- no room is needed for other tickets, and one place for this
abbrev pub HasRoom : Ticket → List QueueState → Type 0
HasRoom t qs =
    (i : ℕ) (d : QueueState) → i < length qs → same t (slice_index_or qs i d).queue.ticket ≡ true
    → 0 < (slice_index_or qs i d).room

abbrev pub IsLoggable : Ticket → List QueueState → Type 0
IsLoggable t qs = HasRoom t qs × AreApart qs
