-- The nodes before this number are there.
use Rattle.qs_dot.proofs.Common.{◌≡◌, ◌++◌, node_at, texts_up_to, node_text}
use Rattle.qs_dot.proofs.nodes.put_all_nodes.Given as goal

abbrev pub invariant-loop-n : goal.invariant-loop-n
invariant-loop-n l =
    l.out.items
    ≡ l.initial.out.items
    ++ texts_up_to l.n (node_at (node_text l.block.program.now l.block.ticket.client l.block.ticket.index l.lines) l.block.reserved.now l.block.graph.now.nodes l.block.sets.now)
