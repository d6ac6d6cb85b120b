-- In the end the client has all of its lanes, as no block reserves a handler that the program does not have.
use Rattle.std.proofs.Common.{arith}
use Rattle.qs_run.proofs.LaneEnds.{all_handlers}
use Rattle.qs_run.proofs.prepare.lanes.add_client_lanes.Goals as goal

pub returns-clause-lanes : goal.returns-clause-lanes
returns-clause-lanes g c =
    let l = c.loop-handler in
    all_handlers c.args.program.now c.args.size l.ends.outs.items l.ends.ins.items c.keeps_sound.ensures.sound c.args.client l.handler
    (omega (arith, c.loop-handler-test.false, c.objects-handler-end.ensures.value)) l.invariant.done l.invariant.rest
