-- What a handler of the code serves is the step of the plain rules, and what the code keeps still holds after it; a
-- client between blocks with none left has no step. The contracts of `step_handler` and `step_client` promise this. The
-- proof goes by cases on what lies first in the handler's first private queue: nothing, a command, a query or the end
-- mark.
use Rattle.std.proofs.Common.{◌≡◌, ◌<◌, ◌≤◌, ℕ, ◌-◌, ◌⊎◌, ⊎_elim, List, [], ◌∷◌, ◌++◌, map, length, get_or, refl, ap, sym, subst, ◌∙◌, arith, Option, Some, None, ℤ, rules}
use Rattle.qs_played.proofs.Names.{AllByRecursion, length-map, map-set, set_past, Event, Ticket, Request, event, value_of}
use Rattle.std.proofs.Math.ListN.{set, get_or-map}
use Rattle.qs_played.specs.declared.schedule.actor.Actor.TheVariants as actor
use Rattle.qs_plain_laws.proofs.Names.{Plain, step, handler_step, queue_step, item_step, after_reply, reply_to}
use Rattle.qs_plain_laws.specs.declared.item.QueueItem.{QueueItem}
use Rattle.qs_plain_laws.specs.audit.Plain as plain
use Rattle.qs_plain.proofs.Names.{Replies, RepliesAt, ClientState, IsClient, client_of_state, stage_of, client_state_at, next_of, noted_in, last_of, no_trace, AreApart, QueueState, TraceState, trace_state, Stage, handler_state_at, RulesState, IsRules, IsOpen, plain_of, to_come, HandlerState, handler_of_state, ServesFirst, ServesItem}
use Rattle.qs_plain.specs.client.ReplyDelivery.{Hears}
use Rattle.qs_plain.specs.declared.client.stage.Stage.TheVariants as stage
use Rattle.qs_plain.specs.declared.handler.handler.Served.{Served}
use Rattle.qs_plain.specs.declared.handler.handler.Served.TheVariants.{Done, Replied}
use Rattle.qs_plain.proofs.RulesPreserved.{Continues, client_kept, served_kept, same_to_come}
use Rattle.qs_plain.proofs.RulesSteps.{plain_client, plain_handler}

abbrev queues_of : List QueueState → List plain.Private
queues_of qs = map (λ (q : QueueState). q.queue) qs

abbrev plain_after_serving : Plain → ℕ → HandlerState → Plain
plain_after_serving s h new = record { order = s.order; clients = s.clients; handlers = set s.handlers h (handler_of_state new) }

abbrev handled_and_replied : Plain → ℕ → HandlerState → Ticket → Request → Option ℤ → Plain
handled_and_replied s h new t q v = record {
  order = s.order;
  clients = set s.clients t.client (after_reply (plain.client_at s t.client) q v);
  handlers = set s.handlers h (handler_of_state new);
}

module _ (s : Plain) (h : ℕ) (x : HandlerState) (q : QueueState) (qs : List QueueState) where
  item_done : (items : List QueueItem) (new : HandlerState) → ServesItem x q qs items Done new → item_step s h (handler_of_state x) q.queue (queues_of qs) items ≡ Some (plain_after_serving s h new)
  item_done v new sv = search (rules, sv)

  item_replied : (items : List QueueItem) (new : HandlerState) (t : Ticket) (r : Request) (v : Option ℤ) → ServesItem x q qs items (Replied t r v) new
      → item_step s h (handler_of_state x) q.queue (queues_of qs) items ≡ Some (handled_and_replied s h new t r v)
  item_replied w new t r v sv = search (rules, sv)

first_done : (s : Plain) (h : ℕ) (x new : HandlerState) (qs : List QueueState) → ServesFirst x qs Done new → queue_step s h (handler_of_state x) (queues_of qs) ≡ Some (plain_after_serving s h new)
first_done s h x new v sv = search (rules, sv, item_done)

first_replied : (s : Plain) (h : ℕ) (x new : HandlerState) (qs : List QueueState) (t : Ticket) (r : Request) (v : Option ℤ) → ServesFirst x qs (Replied t r v) new
    → queue_step s h (handler_of_state x) (queues_of qs) ≡ Some (handled_and_replied s h new t r v)
first_replied s h x new w t r v sv = search (rules, sv, item_replied)

-- what is left of the queues is as open as it was, each of another ticket, and the room stays
module _ (cs : List ClientState) (h : ℕ) (x : HandlerState) where
  abbrev Left : HandlerState → Type 0
  Left new = (x.room ≤ new.room) × (AllByRecursion (IsOpen cs h) new.queues × AreApart new.queues)

  item_open : (q : QueueState) (qs : List QueueState) (items : List QueueItem) (served : Served) (new : HandlerState) → x.queues ≡ q ∷ qs → IsOpen cs h q → AllByRecursion (IsOpen cs h) qs → AreApart (q ∷ qs)
      → ServesItem x q qs items served new → Left new
  item_open q qs v served new is first others apart sv = grind (arith, sv)

  pub serves_open : (qs : List QueueState) (served : Served) (new : HandlerState) → x.queues ≡ qs → AllByRecursion (IsOpen cs h) qs → AreApart qs → ServesFirst x qs served new → Left new
  serves_open v served new is each apart sv = grind (arith, sv, item_open)

module _ (r : RulesState) (h : ℕ) where
  abbrev old : HandlerState
  old = handler_state_at r.handlers h

  handler_now : (o : Option Plain) → queue_step (plain_of r) h (handler_of_state old) (queues_of old.queues) ≡ o → step r.program (plain_of r) (actor.Handler h) ≡ o
  handler_now o e = subst (λ it. handler_step (plain_of r) h it ≡ o) (sym (plain_handler r.handlers h)) e

  pub done_steps : (new : HandlerState) → ServesFirst old old.queues Done new
      → step r.program (plain_of r) (actor.Handler h) ≡ Some (plain_of (record { program = r.program; order = r.order; clients = r.clients; handlers = set r.handlers h new }))
  done_steps new sv = search (rules, handler_now, first_done, old, map, map-set)

  -- nobody is there to take the reply
  pub unheard_steps : (new : HandlerState) (t : Ticket) (q : Request) (v : Option ℤ) → length r.clients ≤ t.client → ServesFirst old old.queues (Replied t q v) new
      → step r.program (plain_of r) (actor.Handler h) ≡ Some (plain_of (record { program = r.program; order = r.order; clients = r.clients; handlers = set r.handlers h new }))
  unheard_steps new t q v past sv =
      let far : length (map client_of_state r.clients) ≤ t.client = rw length-map past in
      handler_now (Some (handled_and_replied (plain_of r) h new t q v)) (first_replied (plain_of r) h old new old.queues t q v sv)
      ∙ (λ k. Some (record { order = r.order; clients = set_past (map client_of_state r.clients) t.client (after_reply (plain.client_at (plain_of r) t.client) q v) far k; handlers = sym (map-set handler_of_state r.handlers h new) k }))

  pub replied_steps : (new : HandlerState) (t : Ticket) (q : Request) (v : Option ℤ) (client : ClientState) → after_reply (client_of_state (client_state_at r.clients t.client)) q v ≡ client_of_state client → ServesFirst old old.queues (Replied t q v) new
      → step r.program (plain_of r) (actor.Handler h) ≡ Some (plain_of (record { program = r.program; order = r.order; clients = set r.clients t.client client; handlers = set r.handlers h new }))
  replied_steps new t q v client is sv =
      handler_now (Some (handled_and_replied (plain_of r) h new t q v)) (first_replied (plain_of r) h old new old.queues t q v sv)
      ∙ (λ k. Some (record {
        order = r.order;
        clients = (ap (λ it. set (map client_of_state r.clients) t.client (after_reply it q v)) (plain_client r.clients t.client) ∙ ap (set (map client_of_state r.clients) t.client) is ∙ sym (map-set client_of_state r.clients t.client client)) k;
        handlers = sym (map-set handler_of_state r.handlers h new) k;
      }))

-- the traces after an event
events-noted : (d : ClientState) → IsClient d → (e : Event) → map (λ (t : TraceState). t.events) (noted_in d.traces e)
    ≡ set (map (λ (t : TraceState). t.events) d.traces) (length d.entries - 1) (get_or (map (λ (t : TraceState). t.events) d.traces) (length d.entries - 1) [] ++ e ∷ [])
events-noted d isc e =
    let place = length d.entries - 1 in
    let last : last_of d.traces ≡ get_or d.traces place no_trace = ap (λ n. get_or d.traces (n - 1) no_trace) isc.traces in
    map-set (λ (t : TraceState). t.events) d.traces (length d.traces - 1) (trace_state ((last_of d.traces).events ++ e ∷ []) ((last_of d.traces).room - 1))
    ∙ ap (λ n. set (map (λ (t : TraceState). t.events) d.traces) (n - 1) ((last_of d.traces).events ++ e ∷ [])) isc.traces
    ∙ ap (λ es. set (map (λ (t : TraceState). t.events) d.traces) place (es ++ e ∷ [])) (ap (λ (t : TraceState). t.events) last ∙ sym (get_or-map (λ (t : TraceState). t.events) d.traces place no_trace))

module _ (d new : ClientState) (q : Request) (v : Option ℤ) (isc : IsClient d) where
  replied_at : (st : Stage) → RepliesAt st d q v new → reply_to (client_of_state d) q v (stage_of st d.frames d.locals) ≡ client_of_state new
  replied_at (stage.Waiting x) sv =
      (λ k. record { stage = plain.within (next_of d.frames (set d.locals x (value_of v))); entries = d.entries; traces = sym (events-noted d isc (event q v)) k; counts = d.counts }) ∙ ap client_of_state (sym sv)
  replied_at _ sv = ap client_of_state (sym sv)

  pub replied_is : Replies d q v new → after_reply (client_of_state d) q v ≡ client_of_state new
  replied_is sv = replied_at d.stage sv

  same_continues : new ≡ d → Continues d new
  same_continues is = grind arith

  continues_at : (st : Stage) → d.stage ≡ st → RepliesAt st d q v new → Continues d new
  continues_at v at sv = grind (arith, same_continues)

  pub replied_continues : Replies d q v new → Continues d new
  replied_continues sv = continues_at d.stage refl sv

-- a client between blocks with none to come has no step
pub none_out : (r : RulesState) (c : ℕ) → IsRules r → c < length r.clients → IsClient (client_state_at r.clients c) → (client_state_at r.clients c).stage ≡ stage.Out → length (client_state_at r.clients c).prepared ≡ 0
    → step r.program (plain_of r) (actor.Client c) ≡ None
none_out r c kept inside isc out none = grind (arith, kept, isc, map, plain_client)

below_or_not : (m n : ℕ) → (m < n) ⊎ (n ≤ m)
below_or_not m n = grind arith

module _ (r : RulesState) (kept : IsRules r) (h : ℕ) (inside : h < length r.handlers) (new : HandlerState) where
  pub served_rules : (served : Served) → ServesFirst (handler_state_at r.handlers h) (handler_state_at r.handlers h).queues served new → IsRules (record { program = r.program; order = r.order; clients = r.clients; handlers = set r.handlers h new })
  served_rules served sv = search (rules, serves_open, kept, served_kept)

  module _ (t : Ticket) (q : Request) (v : Option ℤ) (later : List ClientState) (heard : t.client < length r.clients → Hears r.clients t.client q v later) (unheard : length r.clients ≤ t.client → later ≡ r.clients)
      (sv : ServesFirst (handler_state_at r.handlers h) (handler_state_at r.handlers h).queues (Replied t q v) new) where
    abbrev next : List ClientState → RulesState
    next cs = record { program = r.program; order = r.order; clients = cs; handlers = set r.handlers h new }

    pub replied_rules : IsRules (next later)
    replied_rules = ⊎_elim
        (λ (less : t.client < length r.clients).
        let it = heard less in
        subst (λ cs. IsRules (next cs)) (sym it.changed) (client_kept (next r.clients) (served_rules (Replied t q v) sv) t.client it.client less (replied_continues (client_state_at r.clients t.client) it.client q v it.was it.replies)))
        (λ (past : length r.clients ≤ t.client). subst (λ cs. IsRules (next cs)) (sym (unheard past)) (served_rules (Replied t q v) sv))
        (below_or_not t.client (length r.clients))

    pub replied_to_come : to_come later ≡ to_come r.clients
    replied_to_come = search (rules, same_to_come, replied_continues, below_or_not)

    pub reply_steps : step r.program (plain_of r) (actor.Handler h) ≡ Some (plain_of (next later))
    reply_steps = search (rules, replied_steps, replied_is, next, unheard_steps, below_or_not)
