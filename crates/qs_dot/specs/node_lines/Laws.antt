-- What the definitions of the lines of nodes have to say of scripts and of graphs.
use Rattle.std.specs.Prelude.{◌≡◌, ◌<◌, ◌≤◌, ◌+◌, ℕ, List, length, map}
use Rattle.std.specs.List.{AllByRecursion}
use Rattle.qs_script.specs.declared.tree.tree.Item.{Item}
use Rattle.qs_script.specs.audit.Reads.{IsScriptText}
use Rattle.qs_program.specs.audit.Program.{blocks_of}
use Rattle.qs_check.specs.audit.resolution.Resolve.{program_of_items}
use Rattle.qs_graph.specs.audit.Names.{graph_of}
use Rattle.qs_check.specs.anchors.Anchors.{anchor_token, script_anchors}
use Rattle.qs_dot.specs.node_lines.AnchorLines.{its_token, placed_anchors}
use Rattle.qs_dot.specs.node_lines.NodeLines.{lines_of_block, node_lines, script_nodes}

-- the anchors of a text's lines, one line after another, are those of its script
abbrev pub AnchorsHaveLines : Type 0
AnchorsHaveLines =
    (text : List ℕ) (items : List Item) → IsScriptText text items
    → map its_token (placed_anchors text) ≡ map anchor_token (script_anchors items)

-- each node of a text's script has the line of an anchor: lines are counted from 1
abbrev pub LinesFromOne : Type 0
LinesFromOne =
    (text : List ℕ) (items : List Item) → IsScriptText text items
    → AllByRecursion (AllByRecursion (AllByRecursion (λ line. 1 ≤ line))) (node_lines text items)

-- the nodes of the graph of block k of client c but Exit, whatever the entries of the anchors are
abbrev pub NodesHaveLines : Type 0
NodesHaveLines =
    (es : List ℕ) (items : List Item) (c k : ℕ)
    → c < length (program_of_items items).clients → k < blocks_of (program_of_items items) c
    → length (lines_of_block (script_nodes es items) c k) + 1 ≡ length (graph_of (program_of_items items) c k).nodes
