use Rattle.qs_text.specs.Blocks.{node_at}
use Rattle.qs_json.specs.GraphJson.{node_json}
use Rattle.qs_json.proofs.Elements.{one_element_more}
use Rattle.qs_json.proofs.graphs.put_all_nodes.Goals as goal

pub loop-n-preserved : goal.loop-n-preserved
loop-n-preserved c =
    let b = c.args.block.now in
    one_element_more (node_at (node_json b.program.now b.ticket.client) b.reserved.now b.graph.now.nodes b.sets.now) c.loop-n.n c.loop-n.invariant c.in_ok-put_comma.ensures.ok
    c.in_ok-put_node.ensures.ok
