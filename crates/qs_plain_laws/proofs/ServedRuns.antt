-- This file defines a served run: the reservations in their order, a block record for each, how far each object was
-- served, the moves of such a run, and when it is sound (`IsServedRun`). The proof of isolation under the plain rules
-- keeps one beside the machine's state. A journal is said by tickets: first the parts of those that are over, and then
-- what was run of the first in the queue.
use Rattle.std.proofs.Common.{◌≡◌, ℕ, suc, ◌≤◌, ℤ, if◌then◌else◌, List, [], ◌∷◌, ◌++◌, map, filter, flat_map}
use Rattle.qs_played.proofs.Names.{AllByRecursion, State, command_event, stamp, Entry, Event, Ticket, Request, reserves, block_tree, Interaction, ProgramShape, IsLegal, declared_states, put, event, value_of, Locals, Apart, NoQuery, parts_of, done_of, advance, BlockRecord, IsBlockRecord, Begins}
use Rattle.qs_objects.specs.audit.Journals.{after, answer, replay, without_tickets, IsHonest}
use Rattle.qs_plain_laws.proofs.Names.{counts_after, put_at}

-- An object's service: the tickets whose requests were all run; those that are still to be served, in order; what was
-- run of the first of them; for each the commands that wait; the journal, and the state.
pub record Service : Type 0 where
  pub past : List Ticket
  pub queue : List Ticket
  pub now : List Event
  pub wait : Ticket → List Request
  pub journal : List Entry
  pub state : State

pub record ServedRun : Type 0 where
  pub order : List Ticket
  pub booked : ℕ → ℕ
  pub block_record : Ticket → BlockRecord
  pub service : ℕ → Service

-- a command is logged
abbrev pub service_log : Service → Ticket → Request → Service
service_log l t r = record { past = l.past; queue = l.queue; now = l.now; wait = put_at l.wait t (l.wait t ++ r ∷ []); journal = l.journal; state = l.state }

abbrev pub log : ServedRun → Ticket → Request → Interaction → ServedRun
log w t r next = record {
  order = w.order;
  booked = w.booked;
  block_record = put_at w.block_record t (advance (w.block_record t) (command_event r) next);
  service = put w.service r.object (service_log (w.service r.object) t r);
}

-- a query of the first ticket is answered
abbrev pub service_answer : Service → Ticket → Request → Service
service_answer l t r = record {
  past = l.past;
  queue = l.queue;
  wait = l.wait;
  now = l.now ++ event r (answer l.state r) ∷ [];
  journal = l.journal ++ stamp t (event r (answer l.state r)) ∷ [];
  state = after l.state r;
}

abbrev pub reply : ServedRun → Ticket → Request → (ℤ → Interaction) → ServedRun
reply w t r next =
    let v = answer (w.service r.object).state r in
    record {
      order = w.order;
      booked = w.booked;
      block_record = put_at w.block_record t (advance (w.block_record t) (event r v) (next (value_of v)));
      service = put w.service r.object (service_answer (w.service r.object) t r);
    }

-- the first command that waits is run
abbrev pub service_run : Service → Ticket → Request → List Request → Service
service_run l t r rs = record {
  past = l.past;
  queue = l.queue;
  wait = put_at l.wait t rs;
  now = l.now ++ command_event r ∷ [];
  journal = l.journal ++ stamp t (event r (answer l.state r)) ∷ [];
  state = after l.state r;
}

abbrev pub run_first : ServedRun → ℕ → Ticket → Request → List Request → ServedRun
run_first w h t r rs = record { order = w.order; booked = w.booked; block_record = w.block_record; service = put w.service h (service_run (w.service h) t r rs) }

-- the first ticket is over
abbrev pub service_leave : Service → Ticket → List Ticket → Service
service_leave l t ts = record { past = l.past ++ t ∷ []; queue = ts; now = []; wait = l.wait; journal = l.journal; state = l.state }

abbrev pub end_block : ServedRun → ℕ → Ticket → List Ticket → ServedRun
end_block w h t ts = record { order = w.order; booked = w.booked; block_record = w.block_record; service = put w.service h (service_leave (w.service h) t ts) }

-- a ticket comes
abbrev pub service_reserve : Service → Ticket → Service
service_reserve l t = record { past = l.past; queue = l.queue ++ t ∷ []; now = l.now; wait = put_at l.wait t []; journal = l.journal; state = l.state }

abbrev pub reserve : ProgramShape → ServedRun → Ticket → Locals → ServedRun
reserve p w t l = record {
  order = w.order ++ t ∷ [];
  booked = put w.booked t.client (suc t.index);
  block_record = put_at w.block_record t (record { entry = l; trace = []; rest = block_tree p t l });
  service = λ h. if reserves p t h then service_reserve (w.service h) t else w.service h;
}

-- of each ticket what was run and what waits is its part of the trace, and only of the first something was run
abbrev pub Front : (Ticket → List Event) → List Event → (Ticket → List Request) → List Ticket → Type 0
Front parts now wait [] = now ≡ []
Front parts now wait (t ∷ ts) = (parts t ≡ now ++ map command_event (wait t)) × AllByRecursion (λ u. parts u ≡ map command_event (wait u)) ts

abbrev pub entries_shown : List Ticket → List Event → List Entry
entries_shown [] now = []
entries_shown (t ∷ ts) now = map (stamp t) now

pub record IsService (p : ProgramShape) (start : State) (order : List Ticket) (h : ℕ) (parts : Ticket → List Event) (done : Ticket → Type 0) (l : Service) : Type 0 where
  pub mine : filter (λ t. reserves p t h) order ≡ l.past ++ l.queue
  pub apart : Apart l.queue
  pub over : AllByRecursion done l.past
  pub front : Front parts l.now l.wait l.queue
  pub entries : l.journal ≡ flat_map (λ t. map (stamp t) (parts t)) l.past ++ entries_shown l.queue l.now
  pub commands : (t : Ticket) → AllByRecursion NoQuery (l.wait t)
  pub honest : IsHonest start (without_tickets l.journal)
  pub state : replay start (without_tickets l.journal) ≡ l.state

pub record IsServedRun (p : ProgramShape) (w : ServedRun) : Type 0 where
  pub legal : IsLegal p w.order
  pub counts : (c : ℕ) → counts_after (λ _. 0) w.order c ≡ w.booked c
  pub below : AllByRecursion (λ t. suc t.index ≤ w.booked t.client) w.order
  pub block_records : AllByRecursion (λ t. IsBlockRecord p t (w.block_record t)) w.order
  pub begins : AllByRecursion (λ t. Begins w.block_record t.client t.index (w.block_record t).entry) w.order
  pub services : (h : ℕ) → IsService p (declared_states p h) w.order h (parts_of w.block_record h) (done_of w.block_record) (w.service h)
