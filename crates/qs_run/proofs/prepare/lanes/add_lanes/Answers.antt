-- Each turn of the loop adds the lanes of one client and leaves those of the others, so in the end all lanes are there.
use Rattle.std.proofs.Common.{◌∙◌, arith}
use Rattle.qs_run.proofs.LaneEnds.{all_clients, one_client_more, rest_free}
use Rattle.qs_run.proofs.prepare.lanes.add_lanes.Goals as goal

pub loop-client-preserved : goal.loop-client-preserved
loop-client-preserved g c =
    let l = c.loop-client in
    let outs = c.add_client_lanes.new.ends.outs.items in
    let ins = c.add_client_lanes.new.ends.ins.items in
    let made = c.in_ok-add_client_lanes.ensures in
    record {
      outs_len = made.outs ∙ l.invariant.outs_len;
      ins_len = made.ins ∙ l.invariant.ins_len;
      done = one_client_more c.args.program.now c.args.size outs l.ends.outs.items ins l.ends.ins.items l.client l.invariant.done made.lanes made.others;
      rest = rest_free c.args.program.now c.args.size outs l.ends.outs.items ins l.ends.ins.items l.client l.invariant.rest made.others;
    }

pub returns-clause-lanes : goal.returns-clause-lanes
returns-clause-lanes g c =
    let l = c.loop-client in
    all_clients c.args.program.now c.args.size l.ends.outs.items l.ends.ins.items l.client
    (omega (arith, c.loop-client-test.false, c.clients-client-end.ensures.value)) l.invariant.done l.invariant.rest
