use Rattle.std.proofs.Common.{◌≡◌, ◌∙◌, ◌&&◌, ap, sym, subst, map, get_or, sum_by, [], Bool, true, false}
use Rattle.qs_played.proofs.Names.{Ticket, HaveRows, counts_of_ticket, entry_in, trace_in}
use Rattle.qs_plain_laws.specs.audit.PlainSchedule.{all_done, all_idle, has_ended, syncs_of}
use Rattle.qs_plain.proofs.Names.{ClientState, client_of_state, client_state_at, AreBegun, AreOwn, AreRows, RulesState, IsRules, HandlerState, handler_of_state}
use Rattle.qs_plain.proofs.ReadRows.{counts_are, entries_are, have_rows, traces_are}
use Rattle.qs_plain.proofs.ReadingOff.{at_client, all_syncs, all_journals, all_states}
use Rattle.qs_plain.proofs.machine.Machine.into_played.Goals.{then-are_done, else-are_done}
use Rattle.qs_plain.proofs.machine.Machine.into_played.Goals as goal

both_are : (a b : Bool) → a ≡ true → (a && b) ≡ b
both_are a b e = ap (λ z. z && b) e

one_is_not : (a b : Bool) → a ≡ false → (a && b) ≡ false
one_is_not a b e = ap (λ z. z && b) e

pub new-requires : goal.new-requires
new-requires c =
    let order : c.from_vec.result ≡ c.self.inside.order.items = c.from_vec.ensures.value in
    let begun : AreBegun c.self.inside.clients.items c.self.inside.order.items = subst (λ (r : RulesState). AreBegun r.clients r.order) (sym c.self.view_is) c.requires in
    record { rows = subst (HaveRows c.in_ok-clients.clients.items) (sym order) (have_rows c.in_ok-clients.clients.items c.self.inside.clients.items c.self.inside.order.items c.in_ok-clients.ensures.value begun) }

pub returns : goal.returns
returns c =
    let p = c.args.self.program in
    let own_clients = c.self.inside.clients.items in
    let own_order = c.self.inside.order.items in
    let clients = ap (λ (r : RulesState). r.clients) c.self.view_is in
    let handlers = ap (λ (r : RulesState). r.handlers) c.self.view_is in
    let order = ap (λ (r : RulesState). r.order) c.self.view_is in
    let kept = subst IsRules c.self.view_is c.self.invariant.0 in
    let rows = c.in_ok-clients.clients.items in
    let are : AreRows rows own_clients = c.in_ok-clients.ensures.value in
    let begun : AreBegun own_clients own_order = subst (λ (r : RulesState). AreBegun r.clients r.order) (sym c.self.view_is) c.requires in
    let ended =
    c.in_ok-ended.ensures.value
    ∙ (λ k. map (λ (t : Ticket). has_ended (client_of_state (client_state_at ((c.deref.ensures.value ∙ clients) k) t.client)) t.index) ((c.deref-2.ensures.value ∙ order) k))
    ∙ (λ k. map (λ (t : Ticket). has_ended (at_client c.args.self.clients t.client k) t.index) c.args.self.order) in
    let tickets : c.from_vec.result ≡ own_order = c.from_vec.ensures.value in
    let entries =
    ap (map (entry_in rows)) tickets ∙ entries_are rows own_clients own_order are begun
    ∙ (λ k. map (λ (t : Ticket). get_or (client_of_state (client_state_at (clients k) t.client)).entries t.index []) (order k))
    ∙ (λ k. map (λ (t : Ticket). get_or (at_client c.args.self.clients t.client k).entries t.index []) c.args.self.order) in
    let traces =
    ap (map (trace_in rows)) tickets ∙ traces_are rows own_clients own_order are begun
    ∙ (λ k. map (λ (t : Ticket). get_or (client_of_state (client_state_at (clients k) t.client)).traces t.index []) (order k))
    ∙ (λ k. map (λ (t : Ticket). get_or (at_client c.args.self.clients t.client k).traces t.index []) c.args.self.order) in
    let counts =
    ap (map (counts_of_ticket rows)) tickets ∙ counts_are rows own_clients own_order are begun
    ∙ (λ k. map (λ (t : Ticket). get_or (client_of_state (client_state_at (clients k) t.client)).counts t.index []) (order k))
    ∙ (λ k. map (λ (t : Ticket). get_or (at_client c.args.self.clients t.client k).counts t.index []) c.args.self.order) in
    let syncs =
    c.syncs-syncs.ensures.value
    ∙ ap (sum_by (λ (d : ClientState). syncs_of (client_of_state d))) (c.deref-3.ensures.value ∙ clients)
    ∙ all_syncs c.args.self.clients in
    let journals = c.in_ok-journals.ensures.journals ∙ ap (map (λ (h : HandlerState). h.held.journal)) handlers ∙ all_journals c.args.self.handlers in
    let states = c.in_ok-journals.ensures.states ∙ ap (map (λ (h : HandlerState). h.held.object)) handlers ∙ all_states c.args.self.handlers in
    let now = c.deref-4.ensures.value ∙ clients in
    let done = c.are_done.ensures.value p (subst (AreOwn p) (sym now) kept.own) ∙ ap (λ cs. all_done p 0 (map client_of_state cs)) now in
    let idle = all_idle (map handler_of_state c.args.self.handlers) in
    let every = all_done p 0 (map client_of_state c.args.self.clients) in
    let finished : c.if-are_done.finished ≡ (every && idle) = elim c.if-are_done.branch [
      | then-are_done w ↦ w.finished-is ∙ w.are_idle-finished.ensures.value ∙ ap (λ hs. all_idle (map handler_of_state hs)) (w.deref-then-are_done.ensures.value ∙ handlers)
          ∙ sym (both_are every idle (sym done ∙ w.if-are_done.true))
      | else-are_done w ↦ w.finished-is ∙ w.if-are_done.false ∙ sym (one_is_not every idle (sym done ∙ w.if-are_done.false))
    ] in
    record {
      shown = c.new.ensures.value ∙ (λ k. record {
        order = (tickets ∙ order) k;
        ended = ended k;
        entries = entries k;
        traces = traces k;
        sync_counts = counts k;
        journals = journals k;
        states = states k;
        syncs = syncs k;
        finished = finished k;
      });
    }
