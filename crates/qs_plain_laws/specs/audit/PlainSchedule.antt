-- Schedules under the plain rules, and what a run shows after them.
use Rattle.std.specs.Prelude.{ℕ, suc, ◌+◌, Bool, true, false, ◌&&◌, ◌||◌, nat_lt, nat_eq, List, [], ◌∷◌, map, length, slice_index_or, sum_by}
use Rattle.qs_objects.specs.declared.held.Event.{Event}
use Rattle.qs_objects.specs.declared.held.Ticket.{Ticket}
use Rattle.qs_program.specs.audit.Program.{ProgramShape, blocks_of}
use Rattle.qs_program.specs.audit.Values.{Locals}
use Rattle.qs_sync_counts.specs.declared.sync_counts.SyncCount.{SyncCount}
use Rattle.qs_played.specs.declared.schedule.actor.Actor.{Actor}
use Rattle.qs_played.specs.audit.Played.{Played}
use Rattle.qs_played.specs.audit.Schedule.{plays_by, queries_in}
use Rattle.qs_plain_laws.specs.audit.Plain.{Plain, Client, Handler, StageOfClient, out, within, waiting, step, begun_blocks, client_at}

-- one step of each actor of a list, in this order
abbrev pub plays : ProgramShape → List Actor → Plain → Plain
plays p actors s = plays_by (step p) actors s

abbrev pub is_out : StageOfClient → Bool
is_out (out l) = true
is_out (within rest) = false
is_out (waiting next) = false

-- between two blocks, with none to come
abbrev pub is_done : ProgramShape → ℕ → Client → Bool
is_done p c it = is_out it.stage && nat_eq (begun_blocks it) (blocks_of p c)

abbrev pub all_done : ProgramShape → ℕ → List Client → Bool
all_done p c [] = true
all_done p c (it ∷ rest) = is_done p c it && all_done p (suc c) rest

-- it serves nobody
abbrev pub all_idle : List Handler → Bool
all_idle [] = true
all_idle (h ∷ rest) = nat_eq (length h.queues) 0 && all_idle rest

abbrev pub is_finished : ProgramShape → Plain → Bool
is_finished p s = all_done p 0 s.clients && all_idle s.handlers

abbrev pub waits : StageOfClient → ℕ
waits (out l) = 0
waits (within rest) = 0
waits (waiting next) = 1

-- the queries that a client has asked: each had its own sync
abbrev pub syncs_of : Client → ℕ
syncs_of it = waits it.stage + sum_by queries_in it.traces

-- whether a client's block has ended
abbrev pub has_ended : Client → ℕ → Bool
has_ended it k = nat_lt (suc k) (begun_blocks it) || (nat_eq (suc k) (begun_blocks it) && is_out it.stage)

abbrev pub ended_at : Plain → Ticket → Bool
ended_at s t = has_ended (client_at s t.client) t.index

abbrev pub entry_at : Plain → Ticket → Locals
entry_at s t = slice_index_or (client_at s t.client).entries t.index []

abbrev pub trace_at : Plain → Ticket → List Event
trace_at s t = slice_index_or (client_at s t.client).traces t.index []

abbrev pub counts_of : Plain → Ticket → List SyncCount
counts_of s t = slice_index_or (client_at s t.client).counts t.index []

-- what a run has shown
abbrev pub played_of : ProgramShape → Plain → Played
played_of p s = record {
  order = s.order;
  ended = map (ended_at s) s.order;
  entries = map (entry_at s) s.order;
  traces = map (trace_at s) s.order;
  sync_counts = map (counts_of s) s.order;
  journals = map (λ (h : Handler). h.held.journal) s.handlers;
  states = map (λ (h : Handler). h.held.object) s.handlers;
  syncs = sum_by syncs_of s.clients;
  finished = is_finished p s;
}
