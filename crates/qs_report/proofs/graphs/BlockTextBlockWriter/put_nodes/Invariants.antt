-- The nodes before this number are there.
use Rattle.std.proofs.Common.{◌≡◌, ◌++◌}
use Rattle.qs_report.specs.GraphText.{node_line}
use Rattle.qs_text.specs.Blocks.{node_at}
use Rattle.qs_text.specs.audit.Texts.{texts_up_to}
use Rattle.qs_report.proofs.graphs.BlockTextBlockWriter.put_nodes.Given as goal

abbrev pub invariant-loop-n : goal.invariant-loop-n
invariant-loop-n l =
    l.out.items
    ≡ l.initial.out.items ++ texts_up_to l.n (node_at (node_line l.block.program.now l.block.ticket.client) l.block.reserved.now l.block.graph.now.nodes l.block.sets.now)
