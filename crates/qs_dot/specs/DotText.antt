-- The control-flow graphs of a program as a drawing in the DOT language, as bytes.
use Rattle.std.specs.Prelude.{◌≡◌, ℕ, List, [], ◌∷◌, ◌++◌, codes, decimal, length, Bool, if◌then◌else◌, nat_eq, slice_get, slice_index_or, Option, Some, None}
use Rattle.qs_program.specs.audit.Program.{ProgramShape, client_at}
use Rattle.qs_program.specs.Sound.{IsSound}
use Rattle.qs_graph.specs.declared.node.Choice.TheVariants.{If, Repeat}
use Rattle.qs_graph.specs.declared.node.Node.{Node}
use Rattle.qs_graph.specs.declared.node.Node.TheVariants.{Entry, Local, Branch, Sync, Query, Call, Exit}
use Rattle.qs_graph.specs.audit.Nodes.{GraphNode}
use Rattle.qs_text.specs.Blocks.{AreBlocks, IsBlock, NodeText, NodesText, node_at}
use Rattle.qs_text.specs.audit.Texts.{texts_up_to}
use Rattle.qs_text.specs.Texts.{list_text}
use Rattle.qs_text.specs.Words.{name_of}
use Rattle.qs_dot.specs.node_lines.NodeLines.{lines_of_block}
use Rattle.qs_dot.specs.Written.{written}

-- the outline of a node, by its kind
abbrev pub outline_text : Node → List ℕ
outline_text Entry = codes "oval"
outline_text (Local a) = codes "box"
outline_text (Branch (If t)) = codes "diamond"
outline_text (Branch Repeat) = codes "hexagon"
outline_text (Sync h) = codes "octagon"
outline_text (Query x q) = codes "parallelogram"
outline_text (Call q) = codes "note"
outline_text Exit = codes "oval"

-- a synchronisation is dashed where it is removed
abbrev pub line_text : (removed : Bool) → List ℕ
line_text removed = if removed then codes ", style=dashed" else []

-- the name of node n of block k of client c
abbrev pub node_name : (c k n : ℕ) → List ℕ
node_name c k n = codes "n" ++ decimal c ++ codes "_" ++ decimal k ++ codes "_" ++ decimal n

-- a line of a node's label: the line of the script on which its statement stands, where it has one
abbrev pub place_text : Option ℕ → List ℕ
place_text None = []
place_text (Some line) = codes "\\nline " ++ decimal line

-- the last line of a node's label: the names that are held there, where there are some
abbrev pub held_text : ProgramShape → (c : ℕ) → List ℕ → List ℕ
held_text p c [] = []
held_text p c (h ∷ hs) = codes "\\nheld" ++ list_text (name_of p c) (h ∷ hs)

-- the beginning of a node's line, up to the number in its label: its name, its outline and how that is drawn
abbrev pub head_text : (c k : ℕ) → ℕ → GraphNode → (removed : Bool) → List ℕ
head_text c k n place removed =
    codes "    " ++ node_name c k n ++ codes " [shape=" ++ outline_text place.node ++ line_text removed
    ++ codes ", label=\"" ++ decimal n ++ codes " "

-- a node with its outline, its number, what it does, the line on which that stands, and which names of the block's list
-- are held there; `lines` are those of the block's nodes
abbrev pub node_line : ProgramShape → (c k : ℕ) → (lines : List ℕ) → NodeText
node_line p c k lines n place removed names =
    head_text c k n place removed ++ written p c place.node ++ place_text (slice_get lines n) ++ held_text p c names
    ++ codes "\"];\n"

-- what stands at the edge of a place among a node's edges: which of the two it is at a branch, and nothing elsewhere
abbrev pub edge_text : Node → ℕ → List ℕ
edge_text (Branch (If t)) i = if nat_eq i 0 then codes " [label=\"true\"]" else codes " [label=\"false\"]"
edge_text (Branch Repeat) i = if nat_eq i 0 then codes " [label=\"once more\"]" else codes " [label=\"done\"]"
edge_text _ i = []

-- the edge of a place among those of node n
abbrev pub edge_line : (c k n : ℕ) → GraphNode → (i : ℕ) → List ℕ
edge_line c k n place i =
    codes "    " ++ node_name c k n ++ codes " -> " ++ node_name c k (slice_index_or place.edges i 0)
    ++ edge_text place.node i ++ codes ";\n"

-- a node, and the edges that it has
abbrev pub node_text : ProgramShape → (c k : ℕ) → (lines : List ℕ) → NodeText
node_text p c k lines n place removed names =
    node_line p c k lines n place removed names ++ texts_up_to (length place.edges) (edge_line c k n place)

abbrev pub nodes_text : ProgramShape → (c k : ℕ) → (lines reserved : List ℕ) → List GraphNode
    → (sets : List (List Bool)) → List ℕ
nodes_text p c k lines reserved g sets = texts_up_to (length g) (node_at (node_text p c k lines) reserved g sets)

-- block k of client c by numbers
abbrev pub block_name : (c k : ℕ) → List ℕ
block_name c k = decimal c ++ codes "_" ++ decimal k

-- the beginning of a block's frame, up to its label
abbrev pub frame_head : (c k : ℕ) → List ℕ
frame_head c k = codes "  subgraph cluster_" ++ block_name c k ++ codes " {\n    label=\""

-- the frame of a block, which has the client's name and the block's number
abbrev pub frame_text : ProgramShape → (c k : ℕ) → List ℕ
frame_text p c k =
    frame_head c k ++ (client_at p c).name ++ (codes " " ++ decimal k ++ codes "\";\n")

-- the nodes of a graph, and the end of their block's frame
abbrev pub graph_nodes_drawn : ProgramShape → (c k : ℕ) → (lines : List ℕ) → NodesText
graph_nodes_drawn p c k lines reserved g sets = nodes_text p c k lines reserved g.nodes sets ++ codes "  }\n"

-- block k of client c, in a frame
abbrev pub IsBlockDrawn : ProgramShape → (node_lines : List (List (List ℕ))) → (c k : ℕ) → List ℕ → Type 0
IsBlockDrawn p node_lines c k text =
    IsBlock p c k (frame_text p c k) (graph_nodes_drawn p c k (lines_of_block node_lines c k)) text

-- the blocks of all clients, as one drawing, where the nodes have these lines: of each client, of each of its blocks,
-- in their order
unfoldable pub IsDotText : ProgramShape → (lines : List (List (List ℕ))) → List ℕ → Type 0
IsDotText p lines text =
    (blocks : List ℕ) × AreBlocks p (IsBlockDrawn p lines) blocks
    × (text ≡ (codes "digraph graphs {\n" ++ blocks) ++ codes "}\n")

-- a program whose nodes have these lines has one such text
abbrev pub DotTextsAreUnique : Type 0
DotTextsAreUnique =
    (p : ProgramShape) (lines : List (List (List ℕ))) (one other : List ℕ) → IsSound p → IsDotText p lines one
    → IsDotText p lines other → one ≡ other
