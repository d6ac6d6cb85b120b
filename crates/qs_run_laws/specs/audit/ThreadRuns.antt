-- A run of threads, by lists alone: what the calls of the desk and of the lanes give back once every client and every
-- handler has ended, and what is shown of it. No thread, queue or time is in it.
use Rattle.std.specs.Prelude.{◌≡◌, ◌<◌, ℕ, true, List, [], length, map, slice_index_or, sum_by}
use Rattle.std.specs.List.{range_with_len}
use Rattle.qs_objects.specs.audit.Journals.{HeldState}
use Rattle.qs_objects.specs.declared.held.Event.{Event}
use Rattle.qs_objects.specs.declared.held.Ticket.{Ticket}
use Rattle.qs_program.specs.audit.Program.{ProgramShape, blocks_of}
use Rattle.qs_program.specs.audit.Values.{Locals}
use Rattle.qs_meaning.specs.audit.Following.{reserves}
use Rattle.qs_meaning.specs.audit.Serial.{IsLegal}
use Rattle.qs_syncset.specs.audit.Codes.{ClientCode}
use Rattle.qs_sync_counts.specs.audit.SyncRows.{syncs_of}
use Rattle.qs_sync_counts.specs.declared.sync_counts.SyncCount.{SyncCount}
use Rattle.qs_chunk.specs.audit.LaneRun.{IsLaneRun}
use Rattle.qs_handler.specs.audit.Handler.{free, closed}
use Rattle.qs_handler.specs.audit.HandlerRuns.{Task, TasksLead, given_to, received_from, taken_by}
use Rattle.qs_client.specs.audit.ClientRuns.{Deed, RunsTo, got_from, reservations, sent_to}
use Rattle.qs_client.specs.audit.ClientModel.{ClientModel, fresh_mind}
use Rattle.qs_played.specs.audit.Played.{Played, ticket}
use Rattle.qs_played.specs.audit.JournalRooms.{fresh_held}
use Rattle.qs_desk.specs.audit.Tickets.{of_client, pushed_to}

-- the order of reservations; of each client its deeds, and the mind that it ended with; of each handler its tasks, and
-- the object that it ended with
pub record ThreadRun : Type 0 where
  pub order : List Ticket
  pub deeds : ℕ → List Deed
  pub mind : ℕ → ClientModel
  pub tasks : ℕ → List Task
  pub held : ℕ → HeldState

-- What is known of it. The order is legal, as the desk keeps it, and has as many tickets of each client as the client
-- reserved. Each handler took all that was pushed to it: the tickets of the order whose blocks reserve it, and then the
-- closing mark. Where some block of a client reserves a handler, the lane between them was a lane. Each client did what
-- its mind asked for, on the objects that it got, up to its end. Each handler did what it was asked to do on its
-- declared object, whose journal has room for the loads of all blocks, up to its end.
pub record IsThreadRun (p : ProgramShape) (code : ℕ → ClientCode) (size : ℕ) (r : ThreadRun) : Type 0 where
  pub legal : IsLegal p r.order
  pub booked : (c : ℕ) → c < length p.clients → length (of_client c r.order) ≡ reservations (r.deeds c)
  pub taken : (h : ℕ) → h < length p.objects → pushed_to p h r.order true ≡ taken_by (r.tasks h)
  pub lanes : (c k h : ℕ) → k < blocks_of p c → reserves p (ticket c k) h ≡ true
      → IsLaneRun size (sent_to h (r.deeds c)) (received_from c (r.tasks h)) (given_to c (r.tasks h))
      (got_from h (r.deeds c))
  pub clients : (c : ℕ) → c < length p.clients → RunsTo c (fresh_mind (code c) size) (r.deeds c) (r.mind c)
  pub handlers : (h : ℕ) → h < length p.objects → TasksLead (free (fresh_held p h)) (r.tasks h) (closed (r.held h))

-- what the client of a ticket has written of the block: the variables at entry, the trace, and the synchronisations for
-- the block's objects
abbrev pub entry_by : ThreadRun → Ticket → Locals
entry_by r t = slice_index_or (r.mind t.client).entries t.index []

abbrev pub trace_by : ThreadRun → Ticket → List Event
trace_by r t = slice_index_or (r.mind t.client).traces t.index []

abbrev pub counts_by : ThreadRun → Ticket → List SyncCount
counts_by r t = slice_index_or (r.mind t.client).counts t.index []

-- what is shown of the run: each block has ended
abbrev pub shown_by : ProgramShape → ThreadRun → Played
shown_by p r = record {
  order = r.order;
  ended = map (λ t. true) r.order;
  entries = map (entry_by r) r.order;
  traces = map (trace_by r) r.order;
  sync_counts = map (counts_by r) r.order;
  journals = map (λ h. (r.held h).journal) (range_with_len 0 (length p.objects));
  states = map (λ h. (r.held h).object) (range_with_len 0 (length p.objects));
  syncs = sum_by syncs_of (map (counts_by r) r.order);
  finished = true;
}
