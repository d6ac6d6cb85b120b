-- A sound program has just one drawing of its graphs, although the definition lets the held sets be any that fit. The
-- law on drawings, `DotTextsAreUnique`, is proved here. What is held at a node is fixed by the graph, so each node is.
use Rattle.qs_dot.proofs.Common.{◌≡◌, ℕ, Bool, List, ◌++◌, codes, sym, ap, ◌∙◌, ProgramShape, own_block, IsSound, AreSetsOf, lines_of_block, node_text, frame_text, graph_nodes_drawn, IsBlockDrawn}
use Rattle.qs_dot.proofs.Common.{IsDotText, DotTextsAreUnique}
use Rattle.qs_graph.specs.audit.Names.{graph_of}
use Rattle.qs_text.proofs.BlockTexts.{one_block, one_of_blocks, same_nodes}

same_drawn : (p : ProgramShape) (c k : ℕ) (lines : List ℕ) → IsSound p → (one other : List (List Bool))
    → AreSetsOf (graph_of p c k) one → AreSetsOf (graph_of p c k) other
    → graph_nodes_drawn p c k lines (own_block p c k).reserved (graph_of p c k) one
    ≡ graph_nodes_drawn p c k lines (own_block p c k).reserved (graph_of p c k) other
same_drawn p c k lines sound one other a b = ap (λ l. l ++ codes "  }\n") (same_nodes p c k sound (node_text p c k lines) one other a b)

pub one_drawing : DotTextsAreUnique
unfolding IsDotText
one_drawing p lines one other sound (blocks, are, e) (blocks2, are2, f) =
    let each = λ (c k : ℕ). one_block p c k (frame_text p c k) (graph_nodes_drawn p c k (lines_of_block lines c k)) (same_drawn p c k (lines_of_block lines c k) sound) in
    let same : blocks ≡ blocks2 = one_of_blocks p (IsBlockDrawn p lines) each blocks blocks2 are are2 in
    e ∙ ap (λ l. (codes "digraph graphs {\n" ++ l) ++ codes "}\n") same ∙ sym f
