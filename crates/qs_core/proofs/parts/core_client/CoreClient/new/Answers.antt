use Rattle.qs_core.specs.parts.CoreClients.{CoreClientState}
use Rattle.qs_core.proofs.parts.ClientModels.{fresh_formed}
use Rattle.qs_core.proofs.parts.core_client.CoreClient.new.Goals as goal

pub invariant_of-result : goal.invariant_of-result
invariant_of-result c =
    let s : CoreClientState = record { mind = c.next-act.new.self; act = c.next-act.result; lanes = c.loop-handler.lanes.items } in
    (fresh_formed c.args.code c.args.size c.in_ok-mind.mind s c.in_ok-mind.ensures.fresh c.next-act.ensures.act c.next-act.ensures.rest).formed

pub returns-clause-fresh : goal.returns-clause-fresh
returns-clause-fresh c =
    let s : CoreClientState = record { mind = c.next-act.new.self; act = c.next-act.result; lanes = c.loop-handler.lanes.items } in
    (fresh_formed c.args.code c.args.size c.in_ok-mind.mind s c.in_ok-mind.ensures.fresh c.next-act.ensures.act c.next-act.ensures.rest).whole_is
