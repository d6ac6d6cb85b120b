use Rattle.std.proofs.Common.{refl}
use Rattle.qs_core.specs.parts.CoreClients.{CoreClientState}
use Rattle.qs_core.proofs.parts.ClientModels.{asked_chunk, code_chunk}
use Rattle.qs_core.proofs.parts.core_client.CoreClient.take_chunk.Goals as goal

pub invariant_of-self-2 : goal.invariant_of-self-2
invariant_of-self-2 c =
    let s : CoreClientState = record { mind = c.self.inside.mind; act = c.self.inside.act; lanes = c.self.inside.lanes.items } in
    let t : CoreClientState = record { mind = c.next_into.new.self; act = c.next_into.new.act; lanes = _ } in
    (code_chunk s c.args.self.now c.self.invariant c.self.view_is c.args.handler c.from.result c.from.ensures c.requires.lane c.index_mut-lane.result.now c.index_mut-lane.ensures.value
    c.in-Some.chunk c.chunk.new.self c.requires.asked (c.chunk.ensures.chunk c.args.handler (asked_chunk s c.args.self.now c.self.invariant c.self.view_is c.args.handler c.requires.asked)) t
    c.next_into.ensures.act c.next_into.ensures.rest c.take_chunk.new.self c.in-Some.ensures.cases refl).0

pub returns-clause-steps : goal.returns-clause-steps
returns-clause-steps c =
    let s : CoreClientState = record { mind = c.self.inside.mind; act = c.self.inside.act; lanes = c.self.inside.lanes.items } in
    let t : CoreClientState = record { mind = c.next_into.new.self; act = c.next_into.new.act; lanes = _ } in
    (code_chunk s c.args.self.now c.self.invariant c.self.view_is c.args.handler c.from.result c.from.ensures c.requires.lane c.index_mut-lane.result.now c.index_mut-lane.ensures.value
    c.in-Some.chunk c.chunk.new.self c.requires.asked (c.chunk.ensures.chunk c.args.handler (asked_chunk s c.args.self.now c.self.invariant c.self.view_is c.args.handler c.requires.asked)) t
    c.next_into.ensures.act c.next_into.ensures.rest c.take_chunk.new.self c.in-Some.ensures.cases refl).1
