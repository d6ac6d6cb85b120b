use Rattle.std.proofs.Common.{refl, sym}
use Rattle.qs_core.specs.parts.CoreClients.{CoreClientState}
use Rattle.qs_core.proofs.parts.ClientModels.{code_got}
use Rattle.qs_core.proofs.parts.core_client.CoreClient.take_object.Goals as goal

pub invariant_of-self-2 : goal.invariant_of-self-2
invariant_of-self-2 c =
    let s : CoreClientState = record { mind = c.self.inside.mind; act = c.self.inside.act; lanes = c.self.inside.lanes.items } in
    let t : CoreClientState = record { mind = c.next_into.new.self; act = c.next_into.new.act; lanes = _ } in
    (code_got s c.args.self.now c.self.invariant c.self.view_is c.args.handler c.from.result c.from.ensures c.requires.lane c.index_mut-lane.result.now c.index_mut-lane.ensures.value
    c.in-Some.held c.got.new.self c.requires.asked (sym c.in-Some.ensures.value) c.got.ensures.object t
    c.next_into.ensures.act c.next_into.ensures.rest c.take_object.new.self c.take_object.ensures.rest refl).0

pub returns-clause-steps : goal.returns-clause-steps
returns-clause-steps c =
    let s : CoreClientState = record { mind = c.self.inside.mind; act = c.self.inside.act; lanes = c.self.inside.lanes.items } in
    let t : CoreClientState = record { mind = c.next_into.new.self; act = c.next_into.new.act; lanes = _ } in
    (code_got s c.args.self.now c.self.invariant c.self.view_is c.args.handler c.from.result c.from.ensures c.requires.lane c.index_mut-lane.result.now c.index_mut-lane.ensures.value
    c.in-Some.held c.got.new.self c.requires.asked (sym c.in-Some.ensures.value) c.got.ensures.object t
    c.next_into.ensures.act c.next_into.ensures.rest c.take_object.new.self c.take_object.ensures.rest refl).1
