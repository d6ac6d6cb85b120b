use Rattle.std.proofs.Common.{ap, ◌∙◌}
use Rattle.qs_core.proofs.Names.{CoreClientState, CoreState}
use Rattle.qs_core.proofs.CoreFieldLemmas.{go_kept, go_none, go_steps, has_lane, formed_is}
use Rattle.qs_core.proofs.core_machine.CoreMachine.go_on.Goals as goal

pub go_on-requires-clause-lane : goal.go_on-requires-clause-lane
go_on-requires-clause-lane c =
    let r : CoreState = record { program = c.self.inside.program.now; size = c.self.inside.size; order = c.self.inside.order.items; clients = c.self.inside.clients.items; handlers = c.self.inside.handlers.items } in
    has_lane r c.args.self.now c.self.view_is c.self.invariant.0 c.requires.keeps c.args.number c.from.result c.from.ensures c.requires.number c.index_mut-client.result.now c.index_mut-client.ensures.value
    c.has_next_act.ensures.formed c.has_next_act.ensures.mind

pub invariant_of-self : goal.invariant_of-self
invariant_of-self c =
    let r : CoreState = record { program = c.self.inside.program.now; size = c.self.inside.size; order = c.self.inside.order.items; clients = c.self.inside.clients.items; handlers = c.self.inside.handlers.items } in (
      go_kept r c.args.self.now c.self.view_is c.self.invariant.0 c.requires.keeps c.args.number c.from.result c.from.ensures c.requires.number c.index_mut-client.result.now c.index_mut-client.ensures.value
          c.has_next_act.ensures.formed c.has_next_act.ensures.mind c.go_on.new.self c.go_on.result c.go_on.ensures.steps c.go_on.ensures.stays c.go_on.ensures.unchanged,
      c.self.invariant.1,
    )

pub returns-clause-steps : goal.returns-clause-steps
returns-clause-steps c =
    let r : CoreState = record { program = c.self.inside.program.now; size = c.self.inside.size; order = c.self.inside.order.items; clients = c.self.inside.clients.items; handlers = c.self.inside.handlers.items } in
    go_steps r c.args.self.now c.self.view_is c.self.invariant.0 c.requires.keeps c.args.number c.from.result c.from.ensures c.requires.number c.index_mut-client.result.now c.index_mut-client.ensures.value
    c.has_next_act.ensures.formed c.has_next_act.ensures.mind c.go_on.new.self c.go_on.result c.go_on.ensures.steps c.go_on.ensures.stays c.go_on.ensures.unchanged

pub returns-clause-none : goal.returns-clause-none
returns-clause-none c =
    let r : CoreState = record { program = c.self.inside.program.now; size = c.self.inside.size; order = c.self.inside.order.items; clients = c.self.inside.clients.items; handlers = c.self.inside.handlers.items } in
    let same = formed_is r c.args.self.now c.self.view_is c.self.invariant.0 c.requires.keeps c.args.number c.from.result c.from.ensures c.requires.number c.index_mut-client.result.now c.index_mut-client.ensures.value
    c.has_next_act.ensures.formed c.has_next_act.ensures.mind in
    go_none r c.args.self.now c.self.view_is c.self.invariant.0 c.requires.keeps c.args.number c.from.result c.from.ensures c.requires.number c.index_mut-client.result.now c.index_mut-client.ensures.value
    c.has_next_act.ensures.formed c.has_next_act.ensures.mind c.go_on.new.self c.go_on.result c.go_on.ensures.steps c.go_on.ensures.stays c.go_on.ensures.unchanged
    (λ e. c.requires.other c.index_mut-client.result.now (ap (λ (x : CoreClientState). x.act) same ∙ e))
