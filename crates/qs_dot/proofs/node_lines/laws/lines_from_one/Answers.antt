use Rattle.qs_dot.proofs.node_lines.LinesFromOne.{lines_from_one}
use Rattle.qs_dot.proofs.node_lines.laws.lines_from_one.Goals as goal

pub returns : goal.returns
returns c = record { lines = lines_from_one }
