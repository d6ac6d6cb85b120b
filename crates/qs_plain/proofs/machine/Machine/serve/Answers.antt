use Rattle.std.proofs.Common.{ap, subst, arith}
use Rattle.qs_played.specs.declared.schedule.actor.Actor.TheVariants as actor
use Rattle.qs_plain.proofs.Names.{RulesState, ServesFirst}
use Rattle.qs_plain.proofs.RulesServe.{done_steps, served_rules, replied_rules, replied_to_come, reply_steps}
use Rattle.qs_plain.proofs.RulesFieldLemmas.{handlers_within, handler_here, served_at, served_steps}
use Rattle.qs_plain.specs.declared.handler.handler.Served.TheVariants as served
use Rattle.qs_plain.proofs.machine.Machine.serve.Goals as goal

pub invariant_of-self-in-Done : goal.invariant_of-self-in-Done
invariant_of-self-in-Done c =
    let number = c.args.number in
    let kept = c.self.invariant.0 in
    let less = handlers_within _ _ number c.self.view_is c.requires in
    let here = handler_here _ number _ _ c.from.ensures less c.index_mut-handler.ensures.value in
    let r : RulesState = record { program = c.self.inside.program.now; order = c.self.inside.order.items; clients = c.self.inside.clients.items; handlers = c.self.inside.handlers.items } in
    let serves = subst (λ x. ServesFirst x x.queues served.Done c.serve.new.self) here c.in-Done.ensures.serves in
    (served_at r c.self.inside.clients.items number c.from.result c.serve.new.self c.from.ensures (served_rules r kept number less c.serve.new.self served.Done serves), c.self.invariant.1)

pub invariant_of-self-in-Replied : goal.invariant_of-self-in-Replied
invariant_of-self-in-Replied c =
    let number = c.args.number in
    let kept = c.self.invariant.0 in
    let less = handlers_within _ _ number c.self.view_is c.requires in
    let here = handler_here _ number _ _ c.from.ensures less c.index_mut-handler.ensures.value in
    let r : RulesState = record { program = c.self.inside.program.now; order = c.self.inside.order.items; clients = c.self.inside.clients.items; handlers = c.self.inside.handlers.items } in
    let serves = subst (λ x. ServesFirst x x.queues (served.Replied c.in-Replied.ticket c.in-Replied.request c.in-Replied.reply) c.serve.new.self) here c.in-Replied.ensures.serves in (
      served_at r c.answer.new.clients.items number c.from.result c.serve.new.self c.from.ensures
          (replied_rules r kept number less c.serve.new.self c.in-Replied.ticket c.in-Replied.request c.in-Replied.reply c.answer.new.clients.items c.answer.ensures.heard c.answer.ensures.unheard serves),
      omega (arith, c.self.invariant.1, replied_to_come r kept number less c.serve.new.self c.in-Replied.ticket c.in-Replied.request c.in-Replied.reply c.answer.new.clients.items c.answer.ensures.heard c.answer.ensures.unheard serves),
    )

pub returns-in-Done-clause-steps : goal.returns-in-Done-clause-steps
returns-in-Done-clause-steps c =
    let number = c.args.number in
    let kept = c.self.invariant.0 in
    let less = handlers_within _ _ number c.self.view_is c.requires in
    let here = handler_here _ number _ _ c.from.ensures less c.index_mut-handler.ensures.value in
    let r : RulesState = record { program = c.self.inside.program.now; order = c.self.inside.order.items; clients = c.self.inside.clients.items; handlers = c.self.inside.handlers.items } in
    let serves = subst (λ x. ServesFirst x x.queues served.Done c.serve.new.self) here c.in-Done.ensures.serves in (
      served_steps r _ (actor.Handler number) c.self.inside.clients.items number c.from.result c.serve.new.self c.self.view_is c.from.ensures (done_steps r number c.serve.new.self serves),
      ap (λ (x : RulesState). x.program) c.self.view_is,
    )

pub returns-in-Replied-clause-steps : goal.returns-in-Replied-clause-steps
returns-in-Replied-clause-steps c =
    let number = c.args.number in
    let kept = c.self.invariant.0 in
    let less = handlers_within _ _ number c.self.view_is c.requires in
    let here = handler_here _ number _ _ c.from.ensures less c.index_mut-handler.ensures.value in
    let r : RulesState = record { program = c.self.inside.program.now; order = c.self.inside.order.items; clients = c.self.inside.clients.items; handlers = c.self.inside.handlers.items } in
    let serves = subst (λ x. ServesFirst x x.queues (served.Replied c.in-Replied.ticket c.in-Replied.request c.in-Replied.reply) c.serve.new.self) here c.in-Replied.ensures.serves in (
      served_steps r _ (actor.Handler number) c.answer.new.clients.items number c.from.result c.serve.new.self c.self.view_is c.from.ensures
          (reply_steps r kept number less c.serve.new.self c.in-Replied.ticket c.in-Replied.request c.in-Replied.reply c.answer.new.clients.items c.answer.ensures.heard c.answer.ensures.unheard serves),
      ap (λ (x : RulesState). x.program) c.self.view_is,
    )
