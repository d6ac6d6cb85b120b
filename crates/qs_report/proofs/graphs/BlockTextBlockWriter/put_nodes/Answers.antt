use Rattle.qs_text.proofs.Joined.{one_place_more}
use Rattle.qs_text.specs.Blocks.{node_at}
use Rattle.qs_report.specs.GraphText.{node_line}
use Rattle.qs_report.proofs.graphs.BlockTextBlockWriter.put_nodes.Goals as goal

pub loop-n-preserved : goal.loop-n-preserved
loop-n-preserved c =
    let b = c.args.block.now in
    one_place_more (node_at (node_line b.program.now b.ticket.client) b.reserved.now b.graph.now.nodes b.sets.now) c.loop-n.n _ _ _ c.loop-n.invariant c.in_ok-put_node.ensures.ok
