use Rattle.std.proofs.Common.{◌<◌, length, get_or, ap, sym, subst, ◌∙◌}
use Rattle.qs_handler.specs.audit.Handler.{act_of}
use Rattle.qs_played.proofs.Lists.{get_or-any}
use Rattle.qs_core.specs.parts.CoreHandlers.{no_core_handler, turns_to}
use Rattle.qs_core.specs.state.CoreState.{CoreState, core_of}
use Rattle.qs_core.proofs.CorePlaces.{mind_is}
use Rattle.qs_core.proofs.core_machine.CoreMachine.client_of.Goals as goal

pub returns : goal.returns
returns c =
    let r : CoreState = record { program = c.self.inside.program.now; size = c.self.inside.size; order = c.self.inside.order.items; clients = c.self.inside.clients.items; handlers = c.self.inside.handlers.items } in
    let n = c.args.number in
    let d = c.index-handler.result.now in
    let inside : n < length r.handlers = subst (λ (x : CoreState). n < length x.handlers) (sym c.self.view_is) c.requires in
    let formed = c.index-handler.ensures ∙ ap (λ m. get_or r.handlers m d) c.from.ensures ∙ get_or-any r.handlers n d no_core_handler inside in
    record {
      value = c.client.ensures.value
          ∙ ap turns_to (c.has_next_act.ensures.formed.act ∙ ap act_of (mind_is r c.self.invariant.0 n inside d formed))
          ∙ ap (λ (x : CoreState). turns_to (act_of ((core_of x).handler n))) c.self.view_is;
    }
