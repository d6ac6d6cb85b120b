-- A sound program has just one text of its graphs, although the definition lets the held sets be any that fit. The law
-- on graph texts, `GraphTextsAreUnique`, is proved here. What is held at a node is fixed by the graph, so each line is
-- fixed.
use Rattle.qs_text.proofs.BlockTexts.{one_block, one_of_blocks, same_nodes}
use Rattle.qs_report.specs.GraphText.{node_line, block_line, graph_nodes_text, IsBlockText, IsGraphText, GraphTextsAreUnique}

pub one_graph_text : GraphTextsAreUnique
unfolding IsGraphText
one_graph_text p one other sound =
    one_of_blocks p (IsBlockText p) (λ c k. one_block p c k (block_line p c k) (graph_nodes_text p c) (same_nodes p c k sound (node_line p c))) one other
