use Rattle.qs_dot.proofs.node_lines.NodeCounts.{nodes_have_lines}
use Rattle.qs_dot.proofs.node_lines.laws.nodes_have_lines.Goals as goal

pub returns : goal.returns
returns c = record { count = nodes_have_lines }
