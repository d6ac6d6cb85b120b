-- A run by the plain rules as functions: each client and each handler by its number, each reservation by its ticket.
use Rattle.std.proofs.Common.{ℕ, suc, ◌-◌, ℤ, List, [], ◌∷◌, ◌++◌, if◌then◌else◌}
use Rattle.qs_objects.specs.audit.Journals.{HeldState, after, answer}
use Rattle.qs_played.proofs.Names.{command_event, stamp, Event, Ticket, Request, reserves, block_tree, Interaction, ProgramShape, put, event, value_of, Locals, ticket}
use Rattle.qs_plain_laws.proofs.Names.{put_at, Private, Handler, StageOfClient, out, within, waiting, enter, log_in, serves, QueueItem}
use Rattle.qs_plain_laws.specs.declared.item.QueueItem.TheVariants as item

-- as a stage of the plain rules, with the query that a client waits for
pub data PlainStage : Type 0 where
  Stands : (locals : Locals) → PlainStage
  Runs : (rest : Interaction) → PlainStage
  Awaits : (request : Request) → (next : ℤ → Interaction) → PlainStage

abbrev pub stage_of : PlainStage → StageOfClient
stage_of (Stands l) = out l
stage_of (Runs rest) = within rest
stage_of (Awaits r next) = waiting next

pub record ClientView : Type 0 where
  pub begun : ℕ
  pub stage : PlainStage

pub record RunView : Type 0 where
  pub order : List Ticket
  pub client : ℕ → ClientView
  pub handler : ℕ → Handler
  pub entry : Ticket → Locals
  pub trace : Ticket → List Event

-- the block that a client is in
abbrev pub current : RunView → ℕ → Ticket
current s c = ticket c ((s.client c).begun - 1)

abbrev pub stand : RunView → ℕ → PlainStage → ℕ → ClientView
stand s c stage = put s.client c (record { begun = (s.client c).begun; stage = stage })

-- an object with one more request run
abbrev pub noted_held : HeldState → Ticket → Request → HeldState
noted_held x t r = record { object = after x.object r; journal = x.journal ++ stamp t (event r (answer x.object r)) ∷ []; room = x.room }

abbrev pub after_answer : ℤ → PlainStage → PlainStage
after_answer v (Stands l) = Stands l
after_answer v (Runs t) = Runs t
after_answer v (Awaits r next) = Runs (next v)

abbrev pub reserved_by : ProgramShape → Ticket → (Handler → Handler) → (ℕ → Handler) → ℕ → Handler
reserved_by p t f hs h = if reserves p t h then f (hs h) else hs h

abbrev pub separate : ProgramShape → RunView → ℕ → Locals → RunView
separate p s c l =
    let t = ticket c (s.client c).begun in
    record {
      order = s.order ++ t ∷ [];
      client = put s.client c (record { begun = suc (s.client c).begun; stage = Runs (block_tree p t l) });
      handler = reserved_by p t (enter t) s.handler;
      entry = put_at s.entry t l;
      trace = put_at s.trace t [];
    }

abbrev pub call : RunView → ℕ → Request → Interaction → RunView
call s c r next =
    let t = current s c in
    record {
      order = s.order;
      client = stand s c (Runs next);
      handler = put s.handler r.object (log_in t (item.Command r) (s.handler r.object));
      entry = s.entry;
      trace = put_at s.trace t (s.trace t ++ command_event r ∷ []);
    }

abbrev pub query : RunView → ℕ → Request → (ℤ → Interaction) → RunView
query s c r next = record {
  order = s.order;
  client = stand s c (Awaits r next);
  handler = put s.handler r.object (log_in (current s c) (item.Query r) (s.handler r.object));
  entry = s.entry;
  trace = s.trace;
}

abbrev pub end : ProgramShape → RunView → ℕ → Locals → RunView
end p s c l = record {
  order = s.order;
  client = stand s c (Stands l);
  handler = reserved_by p (current s c) (log_in (current s c) item.EndMark) s.handler;
  entry = s.entry;
  trace = s.trace;
}

abbrev pub do_step : RunView → ℕ → Private → List Private → Request → List QueueItem → RunView
do_step s h q qs r items = record {
  order = s.order;
  client = s.client;
  handler = put s.handler h (serves (s.handler h) q qs items (noted_held (s.handler h).held q.ticket r));
  entry = s.entry;
  trace = s.trace;
}

abbrev pub ask_step : RunView → ℕ → Private → List Private → Request → List QueueItem → RunView
ask_step s h q qs r items =
    let v = answer (s.handler h).held.object r in let t = q.ticket in
    record {
      order = s.order;
      client = stand s t.client (after_answer (value_of v) (s.client t.client).stage);
      handler = put s.handler h (serves (s.handler h) q qs items (noted_held (s.handler h).held q.ticket r));
      entry = s.entry;
      trace = put_at s.trace t (s.trace t ++ event r v ∷ []);
    }

abbrev pub end_step : RunView → ℕ → List Private → RunView
end_step s h qs = record {
  order = s.order;
  client = s.client;
  handler = put s.handler h (record { queues = qs; held = (s.handler h).held });
  entry = s.entry;
  trace = s.trace;
}
