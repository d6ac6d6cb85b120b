-- The handlers of the code, side by side.
use Rattle.std.specs.Prelude.{◌<◌, ℕ, ◌-◌, ◌==◌, List, [], ◌∷◌, ◌++◌, map, length, slice_index_or, slice_set}
use Rattle.std.specs.List.{AllByRecursion, IsDistinct}
use Rattle.qs_objects.specs.declared.held.Ticket.{Ticket}
use Rattle.qs_plain_laws.specs.declared.item.QueueItem.{QueueItem}
use Rattle.qs_plain_laws.specs.audit.Plain.{no_handler}
use Rattle.qs_plain.specs.client.Queues.{QueueState, after_put}
use Rattle.qs_plain.specs.handler.Served.{HandlerState, IsLoggable}

abbrev pub nobody : HandlerState
nobody = record { queues = []; room = 0; held = no_handler.held }

abbrev pub handler_state_at : List HandlerState → ℕ → HandlerState
handler_state_at hs h = slice_index_or hs h nobody

-- one handler with an item logged for the ticket
abbrev pub with_logged_item : Ticket → QueueItem → HandlerState → HandlerState
with_logged_item t i h = record { queues = map (after_put t i) h.queues; room = h.room; held = h.held }

abbrev pub logged_at : Ticket → QueueItem → List HandlerState → ℕ → List HandlerState
logged_at t i hs h = slice_set hs h (with_logged_item t i (handler_state_at hs h))

-- each handler of a list with an item logged
abbrev pub logged_all : Ticket → QueueItem → List HandlerState → List ℕ → List HandlerState
logged_all t i hs [] = hs
logged_all t i hs (h ∷ rest) = logged_all t i (logged_at t i hs h) rest

-- one handler with a private queue more
abbrev pub with_queue : QueueState → HandlerState → HandlerState
with_queue q h = record { queues = h.queues ++ q ∷ []; room = h.room - 1; held = h.held }

abbrev pub entered_at : List HandlerState → ℕ × QueueState → List HandlerState
entered_at hs q = slice_set hs q.0 (with_queue q.1 (handler_state_at hs q.0))

-- each handler of a list with its private queue more
abbrev pub entered_all : List HandlerState → List (ℕ × QueueState) → List HandlerState
entered_all hs [] = hs
entered_all hs (q ∷ rest) = entered_all (entered_at hs q) rest

-- the item can be logged at the handler
abbrev pub CanLog : Ticket → List HandlerState → ℕ → Type 0
CanLog t hs h = (h < length hs) × IsLoggable t (handler_state_at hs h).queues

abbrev pub CanLogAll : Ticket → List HandlerState → List ℕ → Type 0
CanLogAll t hs objects = AllByRecursion (CanLog t hs) objects × IsDistinct ◌==◌ objects

-- a private queue can come to the handler
abbrev pub CanEnter : List HandlerState → ℕ → Type 0
CanEnter hs h = (h < length hs) × (0 < (handler_state_at hs h).room)

abbrev pub CanEnterAll : List HandlerState → List ℕ → Type 0
CanEnterAll hs objects = AllByRecursion (CanEnter hs) objects × IsDistinct ◌==◌ objects
