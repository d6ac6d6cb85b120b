use Rattle.std.proofs.Common.{◌≡◌, List, ap, sym, subst, ◌∙◌, IfOk}
use Rattle.qs_played.proofs.Names.{Ticket, IsSound, Played}
use Rattle.qs_core.proofs.Names.{CoreClientState, CoreHandlerState, CoreState, IsCoreState}
use Rattle.qs_core.specs.shown.CoreShown.{AreShowable, shown_by}
use Rattle.qs_core.proofs.shown.CoreReadings.{shown_is, showable}
use Rattle.qs_core.proofs.core_machine.CoreMachine.into_played.Goals as goal

pub shown-requires : goal.shown-requires
shown-requires c =
    let s : CoreState = c.args.self in
    let order = ap (λ (r : CoreState). r.order) c.self.view_is in
    let clients = ap (λ (r : CoreState). r.clients) c.self.view_is in
    let handlers = ap (λ (r : CoreState). r.handlers) c.self.view_is in
    let sound = subst IsSound (ap (λ (r : CoreState). r.program) c.self.view_is) c.keeps_sound.ensures.sound in
    let whole = showable s (subst IsCoreState c.self.view_is c.self.invariant.0) c.requires.keeps sound in
    let of_order = subst (λ (ts : List Ticket). AreShowable ts s.clients s.handlers) (sym order) whole in
    let of_clients = subst (λ (cs : List CoreClientState). AreShowable c.self.inside.order.items cs s.handlers) (sym clients) of_order in
    record { showable = subst (λ (hs : List CoreHandlerState). AreShowable c.self.inside.order.items c.self.inside.clients.items hs) (sym handlers) of_clients }

pub returns : goal.returns
returns c =
    let s : CoreState = c.args.self in
    let order = ap (λ (r : CoreState). r.order) c.self.view_is in
    let clients = ap (λ (r : CoreState). r.clients) c.self.view_is in
    let handlers = ap (λ (r : CoreState). r.handlers) c.self.view_is in
    let kept = subst IsCoreState c.self.view_is c.self.invariant.0 in
    record {
      shown = subst (λ (x : Played). IfOk c.shown.result (λ played. played ≡ x)) ((λ k. shown_by (order k) (clients k) (handlers k)) ∙ sym (shown_is s kept)) c.shown.ensures.shown;
    }
