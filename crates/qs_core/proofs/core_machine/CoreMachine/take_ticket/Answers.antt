use Rattle.std.proofs.Common.{ap, sym, ◌∙◌}
use Rattle.qs_core.proofs.Names.{CoreHandlerState, turns_to, CoreState}
use Rattle.qs_core.proofs.ServiceFieldLemmas.{formed_is, take_kept, take_none, take_steps, wants_ticket}
use Rattle.qs_core.proofs.core_machine.CoreMachine.take_ticket.Goals as goal

pub take_ticket-requires : goal.take_ticket-requires
take_ticket-requires c =
    let r : CoreState = record { program = c.self.inside.program.now; size = c.self.inside.size; order = c.self.inside.order.items; clients = c.self.inside.clients.items; handlers = c.self.inside.handlers.items } in
    let d = c.index_mut-handler.result.now in
    let asked = wants_ticket r c.args.self.now c.self.view_is c.self.invariant.0 c.requires.keeps c.args.number c.from.result c.from.ensures c.requires.number d c.index_mut-handler.ensures.value c.has_next_act.ensures.formed (ap (λ (x : CoreHandlerState). turns_to x.act) (sym (formed_is r c.args.self.now c.self.view_is c.self.invariant.0 c.requires.keeps c.args.number c.from.result c.from.ensures c.requires.number d c.index_mut-handler.ensures.value c.has_next_act.ensures.formed)) ∙ c.requires.asked d) in
    record { asked = asked }

pub invariant_of-self : goal.invariant_of-self
invariant_of-self c =
    let r : CoreState = record { program = c.self.inside.program.now; size = c.self.inside.size; order = c.self.inside.order.items; clients = c.self.inside.clients.items; handlers = c.self.inside.handlers.items } in
    let d = c.index_mut-handler.result.now in
    let asked = wants_ticket r c.args.self.now c.self.view_is c.self.invariant.0 c.requires.keeps c.args.number c.from.result c.from.ensures c.requires.number d c.index_mut-handler.ensures.value c.has_next_act.ensures.formed (ap (λ (x : CoreHandlerState). turns_to x.act) (sym (formed_is r c.args.self.now c.self.view_is c.self.invariant.0 c.requires.keeps c.args.number c.from.result c.from.ensures c.requires.number d c.index_mut-handler.ensures.value c.has_next_act.ensures.formed)) ∙ c.requires.asked d) in
    (take_kept r c.args.self.now c.self.view_is c.self.invariant.0 c.requires.keeps c.args.number c.from.result c.from.ensures c.requires.number d c.index_mut-handler.ensures.value c.has_next_act.ensures.formed asked c.take_ticket.new.self c.take_ticket.result c.take_ticket.ensures.takes c.take_ticket.ensures.none c.take_ticket.ensures.unchanged, c.self.invariant.1)

pub returns-clause-steps : goal.returns-clause-steps
returns-clause-steps c =
    let r : CoreState = record { program = c.self.inside.program.now; size = c.self.inside.size; order = c.self.inside.order.items; clients = c.self.inside.clients.items; handlers = c.self.inside.handlers.items } in
    let d = c.index_mut-handler.result.now in
    let asked = wants_ticket r c.args.self.now c.self.view_is c.self.invariant.0 c.requires.keeps c.args.number c.from.result c.from.ensures c.requires.number d c.index_mut-handler.ensures.value c.has_next_act.ensures.formed (ap (λ (x : CoreHandlerState). turns_to x.act) (sym (formed_is r c.args.self.now c.self.view_is c.self.invariant.0 c.requires.keeps c.args.number c.from.result c.from.ensures c.requires.number d c.index_mut-handler.ensures.value c.has_next_act.ensures.formed)) ∙ c.requires.asked d) in
    take_steps r c.args.self.now c.self.view_is c.self.invariant.0 c.requires.keeps c.args.number c.from.result c.from.ensures c.requires.number d c.index_mut-handler.ensures.value c.has_next_act.ensures.formed asked c.take_ticket.new.self c.take_ticket.result c.take_ticket.ensures.takes c.take_ticket.ensures.none c.take_ticket.ensures.unchanged

pub returns-clause-none : goal.returns-clause-none
returns-clause-none c =
    let r : CoreState = record { program = c.self.inside.program.now; size = c.self.inside.size; order = c.self.inside.order.items; clients = c.self.inside.clients.items; handlers = c.self.inside.handlers.items } in
    let d = c.index_mut-handler.result.now in
    let asked = wants_ticket r c.args.self.now c.self.view_is c.self.invariant.0 c.requires.keeps c.args.number c.from.result c.from.ensures c.requires.number d c.index_mut-handler.ensures.value c.has_next_act.ensures.formed (ap (λ (x : CoreHandlerState). turns_to x.act) (sym (formed_is r c.args.self.now c.self.view_is c.self.invariant.0 c.requires.keeps c.args.number c.from.result c.from.ensures c.requires.number d c.index_mut-handler.ensures.value c.has_next_act.ensures.formed)) ∙ c.requires.asked d) in
    take_none r c.args.self.now c.self.view_is c.self.invariant.0 c.requires.keeps c.args.number c.from.result c.from.ensures c.requires.number d c.index_mut-handler.ensures.value c.has_next_act.ensures.formed asked c.take_ticket.new.self c.take_ticket.result c.take_ticket.ensures.takes c.take_ticket.ensures.none c.take_ticket.ensures.unchanged
