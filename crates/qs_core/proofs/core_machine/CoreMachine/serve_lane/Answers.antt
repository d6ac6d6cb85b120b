use Rattle.std.proofs.Common.{ap, sym, ◌∙◌, arith}
use Rattle.qs_core.proofs.Names.{CoreHandlerState, turns_to, CoreState}
use Rattle.qs_core.proofs.ServiceFieldLemmas.{lane_there, may_come, meet_kept, meet_none, meet_steps, formed_is, there}
use Rattle.qs_core.proofs.core_machine.CoreMachine.serve_lane.Goals as goal

pub index_mut-client-requires : goal.index_mut-client-requires
index_mut-client-requires c =
    let r : CoreState = record { program = c.self.inside.program.now; size = c.self.inside.size; order = c.self.inside.order.items; clients = c.self.inside.clients.items; handlers = c.self.inside.handlers.items } in
    let d = c.index_mut-handler.result.now in
    let turned = ap (λ (x : CoreHandlerState). turns_to x.act) (sym (formed_is r c.args.self.now c.self.view_is c.self.invariant.0 c.requires.keeps c.args.number c.from.result c.from.ensures c.requires.number d c.index_mut-handler.ensures.value c.has_next_act.ensures.formed)) ∙ c.requires.asked d in
    let less = there r c.args.self.now c.self.view_is c.self.invariant.0 c.requires.keeps c.args.number c.from.result c.from.ensures c.requires.number d c.index_mut-handler.ensures.value c.has_next_act.ensures.formed c.args.client turned in
    omega (arith, less, c.from-2.ensures, c.self.inside.clients.ok)

pub serve_lane-requires-clause-lane : goal.serve_lane-requires-clause-lane
serve_lane-requires-clause-lane c =
    let r : CoreState = record { program = c.self.inside.program.now; size = c.self.inside.size; order = c.self.inside.order.items; clients = c.self.inside.clients.items; handlers = c.self.inside.handlers.items } in
    let d = c.index_mut-handler.result.now in
    let turned = ap (λ (x : CoreHandlerState). turns_to x.act) (sym (formed_is r c.args.self.now c.self.view_is c.self.invariant.0 c.requires.keeps c.args.number c.from.result c.from.ensures c.requires.number d c.index_mut-handler.ensures.value c.has_next_act.ensures.formed)) ∙ c.requires.asked d in
    lane_there r c.args.self.now c.self.view_is c.self.invariant.0 c.requires.keeps c.args.number c.from.result c.from.ensures c.requires.number d c.index_mut-handler.ensures.value c.has_next_act.ensures.formed c.args.client turned c.from-2.result c.from-2.ensures c.index_mut-client.result.now c.index_mut-client.ensures.value

pub serve_lane-requires-clause-comes : goal.serve_lane-requires-clause-comes
serve_lane-requires-clause-comes c =
    let r : CoreState = record { program = c.self.inside.program.now; size = c.self.inside.size; order = c.self.inside.order.items; clients = c.self.inside.clients.items; handlers = c.self.inside.handlers.items } in
    let d = c.index_mut-handler.result.now in
    let turned = ap (λ (x : CoreHandlerState). turns_to x.act) (sym (formed_is r c.args.self.now c.self.view_is c.self.invariant.0 c.requires.keeps c.args.number c.from.result c.from.ensures c.requires.number d c.index_mut-handler.ensures.value c.has_next_act.ensures.formed)) ∙ c.requires.asked d in
    may_come r c.args.self.now c.self.view_is c.self.invariant.0 c.requires.keeps c.args.number c.from.result c.from.ensures c.requires.number d c.index_mut-handler.ensures.value c.has_next_act.ensures.formed c.args.client turned c.from-2.result c.from-2.ensures c.index_mut-client.result.now c.index_mut-client.ensures.value

pub invariant_of-self : goal.invariant_of-self
invariant_of-self c =
    let r : CoreState = record { program = c.self.inside.program.now; size = c.self.inside.size; order = c.self.inside.order.items; clients = c.self.inside.clients.items; handlers = c.self.inside.handlers.items } in
    let d = c.index_mut-handler.result.now in
    let turned = ap (λ (x : CoreHandlerState). turns_to x.act) (sym (formed_is r c.args.self.now c.self.view_is c.self.invariant.0 c.requires.keeps c.args.number c.from.result c.from.ensures c.requires.number d c.index_mut-handler.ensures.value c.has_next_act.ensures.formed)) ∙ c.requires.asked d in
    (meet_kept r c.args.self.now c.self.view_is c.self.invariant.0 c.requires.keeps c.args.number c.from.result c.from.ensures c.requires.number d c.index_mut-handler.ensures.value c.has_next_act.ensures.formed c.args.client turned c.from-2.result c.from-2.ensures c.index_mut-client.result.now c.index_mut-client.ensures.value c.serve_lane.new.handler c.serve_lane.new.self c.serve_lane.result c.serve_lane.ensures.steps c.serve_lane.ensures.none c.serve_lane.ensures.unchanged c.serve_lane.ensures.handler, c.self.invariant.1)

pub returns-clause-steps : goal.returns-clause-steps
returns-clause-steps c =
    let r : CoreState = record { program = c.self.inside.program.now; size = c.self.inside.size; order = c.self.inside.order.items; clients = c.self.inside.clients.items; handlers = c.self.inside.handlers.items } in
    let d = c.index_mut-handler.result.now in
    let turned = ap (λ (x : CoreHandlerState). turns_to x.act) (sym (formed_is r c.args.self.now c.self.view_is c.self.invariant.0 c.requires.keeps c.args.number c.from.result c.from.ensures c.requires.number d c.index_mut-handler.ensures.value c.has_next_act.ensures.formed)) ∙ c.requires.asked d in
    meet_steps r c.args.self.now c.self.view_is c.self.invariant.0 c.requires.keeps c.args.number c.from.result c.from.ensures c.requires.number d c.index_mut-handler.ensures.value c.has_next_act.ensures.formed c.args.client turned c.from-2.result c.from-2.ensures c.index_mut-client.result.now c.index_mut-client.ensures.value c.serve_lane.new.handler c.serve_lane.new.self c.serve_lane.result c.serve_lane.ensures.steps c.serve_lane.ensures.none c.serve_lane.ensures.unchanged c.serve_lane.ensures.handler

pub returns-clause-none : goal.returns-clause-none
returns-clause-none c =
    let r : CoreState = record { program = c.self.inside.program.now; size = c.self.inside.size; order = c.self.inside.order.items; clients = c.self.inside.clients.items; handlers = c.self.inside.handlers.items } in
    let d = c.index_mut-handler.result.now in
    let turned = ap (λ (x : CoreHandlerState). turns_to x.act) (sym (formed_is r c.args.self.now c.self.view_is c.self.invariant.0 c.requires.keeps c.args.number c.from.result c.from.ensures c.requires.number d c.index_mut-handler.ensures.value c.has_next_act.ensures.formed)) ∙ c.requires.asked d in
    meet_none r c.args.self.now c.self.view_is c.self.invariant.0 c.requires.keeps c.args.number c.from.result c.from.ensures c.requires.number d c.index_mut-handler.ensures.value c.has_next_act.ensures.formed c.args.client turned c.from-2.result c.from-2.ensures c.index_mut-client.result.now c.index_mut-client.ensures.value c.serve_lane.new.handler c.serve_lane.new.self c.serve_lane.result c.serve_lane.ensures.steps c.serve_lane.ensures.none c.serve_lane.ensures.unchanged c.serve_lane.ensures.handler
