-- The plain rules: for each handler a queue of queues, in which each reservation has a private queue of single
-- requests.
use Rattle.std.specs.Prelude.{ℕ, ◌-◌, nat_lt, if◌then◌else◌, List, [], ◌∷◌, ◌++◌, map, length, slice_index_or, slice_set, Option, Some, None, ℤ}
use Rattle.std.specs.List.{range_with_len}
use Rattle.qs_objects.specs.audit.Journals.{HeldState, run_one}
use Rattle.qs_objects.specs.audit.Parts.{same}
use Rattle.qs_objects.specs.declared.held.Event.{Event}
use Rattle.qs_objects.specs.declared.held.Ticket.{Ticket}
use Rattle.qs_objects.specs.declared.Request.{Request}
use Rattle.qs_program.specs.audit.Program.{ProgramShape, blocks_of, text_of}
use Rattle.qs_meaning.specs.audit.Serial.{declared_states, zeros, no_state}
use Rattle.qs_meaning.specs.audit.Solo.{value_of, event}
use Rattle.qs_program.specs.audit.Values.{Locals}
use Rattle.qs_meaning.specs.audit.Interaction.{Interaction, Done, Call, Query, tree_of}
use Rattle.qs_sync_counts.specs.audit.SyncRows.{no_syncs, with_sync}
use Rattle.qs_sync_counts.specs.declared.sync_counts.SyncCount.{SyncCount}
use Rattle.qs_played.specs.declared.schedule.actor.Actor.{Actor}
use Rattle.qs_played.specs.audit.Played.{ticket}
use Rattle.qs_played.specs.audit.JournalRooms.{room_of}
use Rattle.qs_played.specs.declared.schedule.actor.Actor.TheVariants as actor
use Rattle.qs_plain_laws.specs.declared.item.QueueItem.{QueueItem}
use Rattle.qs_plain_laws.specs.declared.item.QueueItem.TheVariants as item

pub record Private : Type 0 where
  pub ticket : Ticket
  pub items : List QueueItem

-- a client stands between blocks with its variables, in a block with the rest of it, or waits for the reply of a query
pub data StageOfClient : Type 0 where
  out : (locals : Locals) → StageOfClient
  within : (rest : Interaction) → StageOfClient
  waiting : (next : ℤ → Interaction) → StageOfClient

-- its blocks that were begun: the variables at entry, the traces, and the queries that were asked, for each object of
-- the block's list
pub record Client : Type 0 where
  pub stage : StageOfClient
  pub entries : List Locals
  pub traces : List (List Event)
  pub counts : List (List SyncCount)

pub record Handler : Type 0 where
  pub queues : List Private
  pub held : HeldState

pub record Plain : Type 0 where
  pub order : List Ticket
  pub clients : List Client
  pub handlers : List Handler

abbrev pub no_client : Client
no_client = record { stage = out []; entries = []; traces = []; counts = [] }

abbrev pub no_handler : Handler
no_handler = record { queues = []; held = record { object = no_state; journal = []; room = 0 } }

abbrev pub client_at : Plain → ℕ → Client
client_at s c = slice_index_or s.clients c no_client

abbrev pub handler_at : List Handler → ℕ → Handler
handler_at hs h = slice_index_or hs h no_handler

abbrev pub begun_blocks : Client → ℕ
begun_blocks c = length c.entries

-- the ticket of the block that a client is in
abbrev pub current : ℕ → Client → Ticket
current c it = ticket c (begun_blocks it - 1)

-- an item at the end of the ticket's private queue
abbrev pub put_item : Ticket → QueueItem → Private → Private
put_item t i q = record { ticket = q.ticket; items = (if same t q.ticket then q.items ++ i ∷ [] else q.items) }

abbrev pub log_in : Ticket → QueueItem → Handler → Handler
log_in t i h = record { queues = map (put_item t i) h.queues; held = h.held }

-- an empty private queue at the end of the queue of queues
abbrev pub enter : Ticket → Handler → Handler
enter t h = record { queues = h.queues ++ record { ticket = t; items = [] } ∷ []; held = h.held }

-- one handler changed
abbrev pub at_handler : (Handler → Handler) → List Handler → ℕ → List Handler
at_handler f hs h = slice_set hs h (f (handler_at hs h))

-- each handler of a list changed
abbrev pub at_each : (Handler → Handler) → List Handler → List ℕ → List Handler
at_each f hs [] = hs
at_each f hs (h ∷ rest) = at_each f (at_handler f hs h) rest

abbrev pub stands : Client → StageOfClient → Client
stands it stage = record { stage = stage; entries = it.entries; traces = it.traces; counts = it.counts }

-- an event at the end of the k-th trace
abbrev pub with_trace_event : Client → ℕ → Event → Client
with_trace_event it k e = record it { traces = slice_set it.traces k (slice_index_or it.traces k [] ++ e ∷ []) }

-- one query more for object h in the k-th block
abbrev pub with_query_counted : Client → ℕ → ℕ → Client
with_query_counted it k h = record it { counts = slice_set it.counts k (with_sync h (slice_index_or it.counts k [])) }

abbrev pub begins : Client → Locals → Interaction → List ℕ → Client
begins it l rest reserved = record {
  stage = within rest;
  entries = it.entries ++ l ∷ [];
  traces = it.traces ++ [] ∷ [];
  counts = it.counts ++ no_syncs reserved ∷ [];
}

-- the client's own block: reserve, log a command, log a query, log the end marks
module _ (p : ProgramShape) where
  abbrev pub separate : Plain → ℕ → Client → Locals → Plain
  separate s c it l =
      let t = ticket c (begun_blocks it) in
      record {
        order = s.order ++ t ∷ [];
        clients = slice_set s.clients c (begins it l (tree_of (text_of p t).body l) (text_of p t).reserved);
        handlers = at_each (enter t) s.handlers (text_of p t).reserved;
      }

  abbrev pub calls : Plain → ℕ → Client → Request → Interaction → Plain
  calls s c it r next = record {
    order = s.order;
    clients = slice_set s.clients c (stands (with_trace_event it (begun_blocks it - 1) (event r None)) (within next));
    handlers = at_handler (log_in (current c it) (item.Command r)) s.handlers r.object;
  }

  abbrev pub asks : Plain → ℕ → Client → Request → (ℤ → Interaction) → Plain
  asks s c it r next = record {
    order = s.order;
    clients = slice_set s.clients c (stands (with_query_counted it (begun_blocks it - 1) r.object) (waiting next));
    handlers = at_handler (log_in (current c it) (item.Query r)) s.handlers r.object;
  }

  abbrev pub ends : Plain → ℕ → Client → Locals → Plain
  ends s c it l = record {
    order = s.order;
    clients = slice_set s.clients c (stands it (out l));
    handlers = at_each (log_in (current c it) item.EndMark) s.handlers (text_of p (current c it)).reserved;
  }

  abbrev pub moves_on : Plain → ℕ → Client → Interaction → Plain
  moves_on s c it (Done l) = ends s c it l
  moves_on s c it (Call r next) = calls s c it r next
  moves_on s c it (Query r next) = asks s c it r next

  abbrev pub client_step : Plain → ℕ → Client → StageOfClient → Option Plain
  client_step s c it (out l) = if nat_lt (begun_blocks it) (blocks_of p c) then Some (separate s c it l) else None
  client_step s c it (within rest) = Some (moves_on s c it rest)
  client_step s c it (waiting next) = None

-- the first item of the first private queue: a request is run, an end mark takes the private queue away
abbrev pub serves : Handler → Private → List Private → List QueueItem → HeldState → Handler
serves h q qs items held = record { queues = record { ticket = q.ticket; items = items } ∷ qs; held = held }

abbrev pub runs_command : Plain → ℕ → Handler → Private → List Private → List QueueItem → Request → Plain
runs_command s h it q qs items r = record s {
  handlers = slice_set s.handlers h (serves it q qs items (run_one it.held q.ticket r).0);
}

-- the reply goes to the client that waits for it, which no longer waits; one that does not wait gets nothing
abbrev pub reply_to : Client → Request → Option ℤ → StageOfClient → Client
reply_to it r v (out l) = it
reply_to it r v (within rest) = it
reply_to it r v (waiting next) =
    stands (with_trace_event it (begun_blocks it - 1) (event r v)) (within (next (value_of v)))

abbrev pub after_reply : Client → Request → Option ℤ → Client
after_reply it r v = reply_to it r v it.stage

abbrev pub runs_query : Plain → ℕ → Handler → Private → List Private → List QueueItem → Request → Plain
runs_query s h it q qs items r =
    let o = run_one it.held q.ticket r in
    record {
      order = s.order;
      clients = slice_set s.clients q.ticket.client (after_reply (client_at s q.ticket.client) r o.1);
      handlers = slice_set s.handlers h (serves it q qs items o.0);
    }

abbrev pub leaves_queue : Plain → ℕ → Handler → List Private → Plain
leaves_queue s h it qs = record s { handlers = slice_set s.handlers h (record { queues = qs; held = it.held }) }

abbrev pub item_step : Plain → ℕ → Handler → Private → List Private → List QueueItem → Option Plain
item_step s h it q qs [] = None
item_step s h it q qs (item.Command r ∷ items) = Some (runs_command s h it q qs items r)
item_step s h it q qs (item.Query r ∷ items) = Some (runs_query s h it q qs items r)
item_step s h it q qs (item.EndMark ∷ items) = Some (leaves_queue s h it qs)

abbrev pub queue_step : Plain → ℕ → Handler → List Private → Option Plain
queue_step s h it [] = None
queue_step s h it (q ∷ qs) = item_step s h it q qs q.items

abbrev pub handler_step : Plain → ℕ → Handler → Option Plain
handler_step s h it = queue_step s h it it.queues

-- an actor's one step, where there is such an actor and it has one
abbrev pub step : ProgramShape → Plain → Actor → Option Plain
step p s (actor.Client c) =
    if nat_lt c (length s.clients) then client_step p s c (client_at s c) (client_at s c).stage else None
step p s (actor.Handler h) = handler_step s h (handler_at s.handlers h)

-- before its first block, with all variables 0
abbrev pub fresh_client : ℕ → Client
fresh_client c = record { stage = out zeros; entries = []; traces = []; counts = [] }

-- it serves nobody, and its object is as declared
abbrev pub fresh_handler : ProgramShape → ℕ → Handler
fresh_handler p h =
    record { queues = []; held = record { object = declared_states p h; journal = []; room = room_of p h } }

-- nothing has run
abbrev pub begin : ProgramShape → Plain
begin p = record {
  order = [];
  clients = map fresh_client (range_with_len 0 (length p.clients));
  handlers = map (fresh_handler p) (range_with_len 0 (length p.objects));
}
