use Rattle.qs_dot.proofs.Common.{rules}
use Rattle.qs_dot.proofs.node_lines.Counts.{started_count}
use Rattle.qs_dot.proofs.node_lines.skipping.skip_item.Goals as goal

pub returns-in-Started : goal.returns-in-Started
returns-in-Started c = search (rules, started_count)
