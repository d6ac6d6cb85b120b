use Rattle.std.proofs.Common.{◌<◌, length, sym, ap, subst, ◌∙◌, arith}
use Rattle.qs_core.proofs.Names.{turns_to, TurnsTo}
use Rattle.qs_core.proofs.shown.CoreShowing.{turned_inside}
use Rattle.qs_core.proofs.core_effects.handler_effect.Goals as goal

pub client_at-client-requires : goal.client_at-client-requires
client_at-client-requires c =
    let inside = turned_inside c.args.clients.now c.args.number c.handler_at-handler.result.now c.handler_at-handler.ensures.kept (subst (TurnsTo c.args.clients.now) (sym c.handler_at-handler.ensures.formed) c.requires.turns) _
    (sym (ap turns_to (sym c.act.ensures.value ∙ c.in-TakeParcel.is))) in
    record { number = subst (λ n. n < length c.args.clients.now) (sym c.from.ensures) inside }

pub lane-requires : goal.lane-requires
lane-requires c =
    let inside = turned_inside c.args.clients.now c.args.number c.handler_at-handler.result.now c.handler_at-handler.ensures.kept (subst (TurnsTo c.args.clients.now) (sym c.handler_at-handler.ensures.formed) c.requires.turns) _
    (sym (ap turns_to (sym c.act.ensures.value ∙ c.in-TakeParcel.is))) in
    let there = c.requires.lanes c.from.result (subst (λ n. n < length c.args.clients.now) (sym c.from.ensures) inside) in
    omega (arith, there, ap length c.client_at-client.ensures.lanes, c.from-in-Some.ensures)
