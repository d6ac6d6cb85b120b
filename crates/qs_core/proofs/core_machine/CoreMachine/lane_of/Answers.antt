use Rattle.std.proofs.Common.{◌<◌, length, ap, sym, subst, ◌∙◌}
use Rattle.qs_core.specs.parts.CoreClients.{turns_to}
use Rattle.qs_core.specs.state.CoreState.{CoreState, ClientPart, codes_of, core_of}
use Rattle.qs_core.specs.CoreEffects.{act_at}
use Rattle.qs_core.proofs.CoreFieldLemmas.{client_here}
use Rattle.qs_core.proofs.CorePlaces.{wanted_is}
use Rattle.qs_core.proofs.core_machine.CoreMachine.lane_of.Goals as goal

pub returns : goal.returns
returns c =
    let r : CoreState = record { program = c.self.inside.program.now; size = c.self.inside.size; order = c.self.inside.order.items; clients = c.self.inside.clients.items; handlers = c.self.inside.handlers.items } in
    let n = c.args.number in
    let d = c.index-client.result.now in
    let inside : n < length r.clients = subst (λ (x : CoreState). n < length x.clients) (sym c.self.view_is) c.requires in
    let here = client_here r.clients n c.from.result d c.from.ensures inside c.index-client.ensures in
    record {
      value = c.handler.ensures.value
          ∙ ap turns_to (wanted_is r c.self.invariant.0 n inside d c.has_next_act.ensures.formed (sym (ap (λ (x : ClientPart). x.mind) here)))
          ∙ ap (λ (x : CoreState). turns_to (act_at (codes_of x) x.size (core_of x) n)) c.self.view_is;
    }
