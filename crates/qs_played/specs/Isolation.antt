-- Beside what the headline reaches (`audit/Isolation.antt`): what else contracts and proofs use.
use Rattle.std.specs.Prelude.{◌≡◌, ◌<◌, ℕ, true, List, [], ◌++◌, map, filter, flat_map, length, slice_index_or}
use Rattle.qs_objects.specs.audit.Journals.{replay, without_tickets, IsHonest}
use Rattle.qs_objects.specs.audit.Operations.{is_query}
use Rattle.qs_objects.specs.audit.Parts.{IsFront, entries_of, command_event, part, same}
use Rattle.qs_objects.specs.Parts.{HasEntry, before}
use Rattle.qs_objects.specs.declared.held.Event.{Event}
use Rattle.qs_objects.specs.declared.held.Ticket.{Ticket}
use Rattle.qs_objects.specs.declared.Request.{Request}
use Rattle.qs_program.specs.audit.Program.{ProgramShape, blocks_of}
use Rattle.qs_meaning.specs.audit.Serial.{IsLegal, declared_states, no_state}
use Rattle.qs_meaning.specs.Serial.{SerialBlock, serial}
use Rattle.qs_program.specs.audit.Values.{Locals}
use Rattle.qs_played.specs.audit.Played.{ticket, Played}
use Rattle.qs_played.specs.audit.Isolation.{ticket_at, trace_of, ended_of, journal_of, state_of}

abbrev pub no_block : SerialBlock
no_block = record { ticket = ticket 0 0; entry = []; starts = λ h. no_state; trace = [] }

abbrev pub entry_of : Played → ℕ → Locals
entry_of r i = slice_index_or r.entries i []

-- the i-th place of the serial run along the order of reservations
abbrev pub serial_block : ProgramShape → Played → ℕ → SerialBlock
serial_block p r i = slice_index_or (serial p r.order).places i no_block

-- The i-th reservation. The client's variables at entry are those that the serial run has there; the trace is a front
-- of the serial run's, and all of it where the block has ended; and what stands in an object's journal before the
-- reservation's first entry leaves the state that the serial run finds there.
pub record IsIsolatedBlock (p : ProgramShape) (r : Played) (i : ℕ) : Type 0 where
  pub entry : entry_of r i ≡ (serial_block p r i).entry
  pub front : IsFront (trace_of r i) (serial_block p r i).trace
  pub whole : ended_of r i ≡ true → trace_of r i ≡ (serial_block p r i).trace
  pub starts : (h : ℕ) → HasEntry (ticket_at r i) (journal_of r h)
      → replay (declared_states p h) (without_tickets (before (ticket_at r i) (journal_of r h)))
      ≡ (serial_block p r i).starts h

abbrev pub queries_of : List Event → List Event
queries_of es = filter (λ (e : Event). is_query e.request.op) es

-- Object h, where `waits h t` are the commands of ticket t that are on their way to it. Its journal is honest from the
-- declared state, and its replay is the object's state. The entries come ticket by ticket, in the order of
-- reservations, and a ticket has one only where all requests of each earlier reservation on the object are there. A
-- ticket's entries, and then its commands on the way, are its trace's part on the object; and each answered query is
-- among the entries.
pub record IsIsolatedObject (p : ProgramShape) (r : Played) (waits : ℕ → Ticket → List Request) (h : ℕ) : Type 0 where
  pub honest : IsHonest (declared_states p h) (without_tickets (journal_of r h))
  pub replayed : replay (declared_states p h) (without_tickets (journal_of r h)) ≡ state_of r h
  pub order : journal_of r h ≡ flat_map (λ t. entries_of t (journal_of r h)) r.order
  pub turns : (i k : ℕ) → i < k → k < length r.order → HasEntry (ticket_at r k) (journal_of r h)
      → without_tickets (entries_of (ticket_at r i) (journal_of r h)) ≡ part h (serial_block p r i).trace
  pub parts : (i : ℕ) → i < length r.order
      → part h (trace_of r i) ≡ without_tickets (entries_of (ticket_at r i) (journal_of r h))
      ++ map command_event (waits h (ticket_at r i))
  pub queries : (i : ℕ) → i < length r.order
      → queries_of (part h (trace_of r i)) ≡ queries_of (without_tickets (entries_of (ticket_at r i) (journal_of r h)))

-- Where all has run: each block of the program is in the order once, and the objects' states are the serial run's.
pub record IsWhole (p : ProgramShape) (r : Played) : Type 0 where
  pub once : (t : Ticket) → t.index < blocks_of p t.client → length (filter (same t) r.order) ≡ 1
  pub states : (h : ℕ) → h < length p.objects → state_of r h ≡ (serial p r.order).states h

-- What is shown fits the program: an end mark, variables, a trace and counts for each ticket, a journal and a state for
-- each object.
pub record IsFitting (p : ProgramShape) (r : Played) : Type 0 where
  pub ended : length r.ended ≡ length r.order
  pub entries : length r.entries ≡ length r.order
  pub traces : length r.traces ≡ length r.order
  pub sync_counts : length r.sync_counts ≡ length r.order
  pub journals : length r.journals ≡ length p.objects
  pub states : length r.states ≡ length p.objects

pub record Isolation (p : ProgramShape) (r : Played) (waits : ℕ → Ticket → List Request) : Type 0 where
  pub fits : IsFitting p r
  pub legal : IsLegal p r.order
  pub places : (i : ℕ) → i < length r.order → IsIsolatedBlock p r i
  pub objects : (h : ℕ) → h < length p.objects → IsIsolatedObject p r waits h
  pub finished : r.finished ≡ true → IsWhole p r

-- It does not unfold by itself: a proof that wants one of its parts says so, and the others are spared them.
unfoldable pub IsIsolated : ProgramShape → Played → (ℕ → Ticket → List Request) → Type 0
IsIsolated p r waits = Isolation p r waits
