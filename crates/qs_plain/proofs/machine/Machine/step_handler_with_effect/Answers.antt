use Rattle.std.proofs.Common.{ap, sym, ◌∙◌, Some, length, map}
use Rattle.qs_plain.proofs.Names.{effect_of_queues, unanswered, handler_state_at, RulesState, HandlerState}
use Rattle.qs_plain.proofs.RulesEffects.{effect_served}
use Rattle.qs_plain.proofs.RulesFieldLemmas.{handlers_within, handler_here}
use Rattle.qs_plain.proofs.machine.Machine.step_handler_with_effect.Goals as goal

pub returns-clause-effect : goal.returns-clause-effect
returns-clause-effect c =
    let number = c.args.number in
    let old = c.args.self.now in
    let r : RulesState = record { program = c.self.inside.program.now; order = c.self.inside.order.items; clients = c.self.inside.clients.items; handlers = c.self.inside.handlers.items } in
    let less = handlers_within _ _ number c.self.view_is c.requires in
    let here = handler_here r.handlers number _ c.index-handler.result.now c.from.ensures less c.index-handler.ensures ∙ ap (λ (x : RulesState). handler_state_at x.handlers number) c.self.view_is in
    effect_served old c.step_handler.new.self number c.in_ok-effect.effect c.reply_after-reply.result c.served-before.result c.requires c.if-not-step_handler.ensures.steps
    (c.in_ok-effect.ensures.value ∙ ap (λ (x : HandlerState). unanswered (effect_of_queues x.held (map (λ q. q.queue) x.queues))) here)
    (c.served-before.ensures.value ∙ ap (λ (x : HandlerState). length x.held.journal) here)
    c.reply_after-reply.ensures.value
    ∙ ap Some (sym c.answered.ensures.value)
