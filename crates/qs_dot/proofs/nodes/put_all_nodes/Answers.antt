use Rattle.qs_dot.proofs.Common.{node_at, one_place_more, node_text}
use Rattle.qs_dot.proofs.Parts.{then}
use Rattle.qs_dot.proofs.nodes.put_all_nodes.Goals as goal

pub loop-n-preserved : goal.loop-n-preserved
loop-n-preserved c =
    let b = c.args.block.now in
    one_place_more (node_at (node_text b.program.now b.ticket.client b.ticket.index c.args.lines.now) b.reserved.now b.graph.now.nodes b.sets.now)
    c.loop-n.n _ _ _ c.loop-n.invariant (then _ _ _ _ _ c.in_ok-put_line.ensures.ok c.in_ok-put_edges.ensures.ok)
