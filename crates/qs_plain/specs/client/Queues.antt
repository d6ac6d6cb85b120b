-- A private queue of the code: its ticket and items, and how many more can be logged. And the private queues of one
-- handler.
use Rattle.std.specs.Prelude.{◌≡◌, ◌≢◌, ◌<◌, ◌≤◌, ℕ, ◌-◌, true, false, if◌then◌else◌, List, [], ◌∷◌, length, slice_index_or}
use Rattle.std.specs.List.{AllByRecursion}
use Rattle.qs_objects.specs.declared.held.Ticket.{Ticket}
use Rattle.qs_objects.specs.audit.Parts.{same}
use Rattle.qs_plain_laws.specs.declared.item.QueueItem.{QueueItem}
use Rattle.qs_plain_laws.specs.audit.Plain.{Private, put_item}

pub record QueueState : Type 0 where
  pub queue : Private
  pub room : ℕ

abbrev pub queue_state : Ticket → List QueueItem → ℕ → QueueState
queue_state t items room = record { queue = record { ticket = t; items = items }; room = room }

-- a private queue after an item was logged for the ticket
abbrev pub after_put : Ticket → QueueItem → QueueState → QueueState
after_put t i q = record { queue = put_item t i q.queue; room = q.room - (if same t q.queue.ticket then 1 else 0) }

-- each private queue is of another ticket
abbrev pub AreApart : List QueueState → Type 0
AreApart [] = Unit {0}
AreApart (q ∷ qs) = AllByRecursion (λ (x : QueueState). q.queue.ticket ≢ x.queue.ticket) qs × AreApart qs

-- where the ticket's private queue is, and past all of them where none is the ticket's
pub record IsPlace (t : Ticket) (qs : List QueueState) (n : ℕ) : Type 0 where
  pub here : n < length qs → (d : QueueState) → same t (slice_index_or qs n d).queue.ticket ≡ true
  pub nowhere : length qs ≤ n → AllByRecursion (λ (q : QueueState). same t q.queue.ticket ≡ false) qs
