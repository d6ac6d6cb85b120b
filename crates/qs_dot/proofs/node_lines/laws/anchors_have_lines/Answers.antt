use Rattle.qs_dot.proofs.node_lines.LineTokens.{anchors_have_lines}
use Rattle.qs_dot.proofs.node_lines.laws.anchors_have_lines.Goals as goal

pub returns : goal.returns
returns c = record { same = anchors_have_lines }
