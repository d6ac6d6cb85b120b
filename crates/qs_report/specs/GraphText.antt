-- The control-flow graphs of a program, as bytes.
use Rattle.std.specs.Prelude.{◌≡◌, ℕ, List, ◌++◌, codes, decimal, length, Bool, if◌then◌else◌}
use Rattle.qs_program.specs.audit.Program.{ProgramShape, client_at}
use Rattle.qs_program.specs.Sound.{IsSound}
use Rattle.qs_graph.specs.declared.node.Node.{Node}
use Rattle.qs_graph.specs.declared.node.Node.TheVariants.{Entry, Local, Branch, Sync, Query, Call, Exit}
use Rattle.qs_graph.specs.audit.Nodes.{GraphNode}
use Rattle.qs_text.specs.Blocks.{AreBlocks, IsBlock, NodeText, NodesText, node_at}
use Rattle.qs_text.specs.audit.Texts.{texts_up_to}
use Rattle.qs_text.specs.Texts.{list_text}
use Rattle.qs_text.specs.Words.{name_of}

abbrev pub removed_text : Bool → List ℕ
removed_text removed = if removed then codes " removed" else codes " kept"

-- what a node of client c does, and of a synchronisation, whether it is removed
abbrev pub label_text : ProgramShape → (c : ℕ) → (removed : Bool) → Node → List ℕ
label_text p c removed Entry = codes "entry"
label_text p c removed (Local a) = codes "local"
label_text p c removed (Branch b) = codes "branch"
label_text p c removed (Sync h) = codes "sync " ++ name_of p c h ++ removed_text removed
label_text p c removed (Query x q) = codes "query " ++ name_of p c q.object
label_text p c removed (Call q) = codes "call " ++ name_of p c q.object
label_text p c removed Exit = codes "exit"

-- the first part of a node's line: its number, what it does and where it leads
abbrev pub step_text : ProgramShape → (c : ℕ) → ℕ → GraphNode → (removed : Bool) → List ℕ
step_text p c n place removed =
    decimal n ++ codes " " ++ label_text p c removed place.node ++ codes " ->" ++ list_text decimal place.edges

-- a node of a graph: its number, what it does, where it leads, and which names of the block's list are held there
abbrev pub node_line : ProgramShape → (c : ℕ) → NodeText
node_line p c n place removed names =
    decimal n ++ codes " " ++ label_text p c removed place.node ++ codes " ->" ++ list_text decimal place.edges
    ++ codes " held" ++ list_text (name_of p c) names ++ codes "\n"

abbrev pub nodes_text : ProgramShape → (c : ℕ) → (reserved : List ℕ) → List GraphNode → (sets : List (List Bool))
    → List ℕ
nodes_text p c reserved g sets = texts_up_to (length g) (node_at (node_line p c) reserved g sets)

-- the same, by the whole graph
abbrev pub graph_nodes_text : ProgramShape → (c : ℕ) → NodesText
graph_nodes_text p c reserved g sets = nodes_text p c reserved g.nodes sets

abbrev pub block_line : ProgramShape → (c k : ℕ) → List ℕ
block_line p c k = codes "block " ++ (client_at p c).name ++ codes " " ++ decimal k ++ codes "\n"

-- block k of client c
abbrev pub IsBlockText : ProgramShape → (c k : ℕ) → List ℕ → Type 0
IsBlockText p c k text = IsBlock p c k (block_line p c k) (graph_nodes_text p c) text

-- the blocks of all clients
unfoldable pub IsGraphText : ProgramShape → List ℕ → Type 0
IsGraphText p text = AreBlocks p (IsBlockText p) text

-- a program has one such text
abbrev pub GraphTextsAreUnique : Type 0
GraphTextsAreUnique =
    (p : ProgramShape) (one other : List ℕ) → IsSound p → IsGraphText p one → IsGraphText p other → one ≡ other
