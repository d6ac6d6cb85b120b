-- Beside what the headline reaches (`audit/Played.antt`): what else contracts and proofs use.
use Rattle.std.specs.Prelude.{◌<◌, ℕ, Bool, List, [], map, length, slice_index_or}
use Rattle.qs_objects.specs.audit.Act.{State}
use Rattle.qs_objects.specs.declared.held.Entry.{Entry}
use Rattle.qs_objects.specs.declared.held.Event.{Event}
use Rattle.qs_objects.specs.declared.held.Ticket.{Ticket}
use Rattle.qs_program.specs.audit.Values.{Locals}
use Rattle.qs_sync_counts.specs.declared.sync_counts.SyncCount.{SyncCount}
use Rattle.qs_played.specs.audit.Played.{Played}

abbrev pub no_events : List Event
no_events = []

-- a client's blocks: their traces, the variables as each began, and their counts of Syncs
pub record ClientRows : Type 0 where
  pub traces : List (List Event)
  pub entries : List Locals
  pub counts : List (List SyncCount)

abbrev pub no_rows : ClientRows
no_rows = record { traces = []; entries = []; counts = [] }

abbrev pub rows_at : List ClientRows → ℕ → ClientRows
rows_at clients c = slice_index_or clients c no_rows

-- what a client has of a ticket
abbrev pub entry_in : List ClientRows → Ticket → Locals
entry_in clients t = slice_index_or (rows_at clients t.client).entries t.index []

abbrev pub trace_in : List ClientRows → Ticket → List Event
trace_in clients t = slice_index_or (rows_at clients t.client).traces t.index []

abbrev pub counts_of_ticket : List ClientRows → Ticket → List SyncCount
counts_of_ticket clients t = slice_index_or (rows_at clients t.client).counts t.index []

-- a ticket's block is among those of these clients, and so is each of an order
pub record HasRows (clients : List ClientRows) (t : Ticket) : Type 0 where
  pub client : t.client < length clients
  pub entry : t.index < length (rows_at clients t.client).entries
  pub trace : t.index < length (rows_at clients t.client).traces
  pub counts : t.index < length (rows_at clients t.client).counts

abbrev pub HaveRows : List ClientRows → List Ticket → Type 0
HaveRows clients order = (i : ℕ) (d : Ticket) → i < length order → HasRows clients (slice_index_or order i d)

-- what is shown, by the clients' rows
abbrev pub shown_with : List Ticket → List Bool → List ClientRows → List (List Entry) → List State → ℕ → Bool → Played
shown_with order ended clients journals states syncs finished = record {
  order = order;
  ended = ended;
  entries = map (entry_in clients) order;
  traces = map (trace_in clients) order;
  sync_counts = map (counts_of_ticket clients) order;
  journals = journals;
  states = states;
  syncs = syncs;
  finished = finished;
}
