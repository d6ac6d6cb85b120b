-- The control-flow graphs of a program: one object on a line for each block.
use Rattle.std.specs.Prelude.{◌≡◌, ℕ, List, ◌++◌, codes, decimal, length, Bool}
use Rattle.qs_program.specs.audit.Program.{ProgramShape, client_at}
use Rattle.qs_program.specs.Sound.{IsSound}
use Rattle.qs_graph.specs.declared.node.Node.{Node}
use Rattle.qs_graph.specs.declared.node.Node.TheVariants.{Entry, Local, Branch, Sync, Query, Call, Exit}
use Rattle.qs_graph.specs.audit.Nodes.{GraphNode}
use Rattle.qs_text.specs.Blocks.{AreBlocks, IsBlock, NodeText, NodesText, node_at}
use Rattle.qs_text.specs.Words.{name_of}
use Rattle.qs_json.specs.audit.Pieces.{array, array_up_to, field, first_field, quoted, truth}

-- a name of a client's own text, as a string
abbrev pub name_json : ProgramShape → (c : ℕ) → ℕ → List ℕ
name_json p c name = quoted (name_of p c name)

abbrev pub word_json : List ℕ → List ℕ
word_json word = field (codes "label") (quoted word)

-- what a node of client c does, and of a synchronisation, whether it is removed
abbrev pub label_json : ProgramShape → (c : ℕ) → (removed : Bool) → Node → List ℕ
label_json p c removed Entry = word_json (codes "entry")
label_json p c removed (Local a) = word_json (codes "local")
label_json p c removed (Branch b) = word_json (codes "branch")
label_json p c removed (Sync h) =
    word_json (codes "sync") ++ field (codes "handler") (name_json p c h) ++ field (codes "removed") (truth removed)
label_json p c removed (Query x q) = word_json (codes "query") ++ field (codes "handler") (name_json p c q.object)
label_json p c removed (Call q) = word_json (codes "call") ++ field (codes "handler") (name_json p c q.object)
label_json p c removed Exit = word_json (codes "exit")

-- the first fields of a node: its number, what it does and where it leads
abbrev pub step_json : ProgramShape → (c : ℕ) → ℕ → GraphNode → (removed : Bool) → List ℕ
step_json p c n place removed =
    first_field (codes "node") (decimal n) ++ label_json p c removed place.node
    ++ field (codes "targets") (array decimal place.edges)

-- a node of a graph: these, and which names of the block's list are held there
abbrev pub node_json : ProgramShape → (c : ℕ) → NodeText
node_json p c n place removed names =
    step_json p c n place removed ++ field (codes "held") (array (name_json p c) names) ++ codes "}"

-- the first fields of a block: whose it is
abbrev pub owner_json : ProgramShape → (c k : ℕ) → List ℕ
owner_json p c k = first_field (codes "client") (quoted (client_at p c).name) ++ field (codes "block") (decimal k)

-- the nodes of a graph, and the end of their block's line
abbrev pub nodes_json : ProgramShape → (c : ℕ) → (reserved : List ℕ) → List GraphNode → (sets : List (List Bool))
    → List ℕ
nodes_json p c reserved g sets =
    field (codes "nodes") (array_up_to (length g) (node_at (node_json p c) reserved g sets)) ++ codes "}\n"

-- the same, by the whole graph
abbrev pub graph_nodes_json : ProgramShape → (c : ℕ) → NodesText
graph_nodes_json p c reserved g sets = nodes_json p c reserved g.nodes sets

-- block k of client c
abbrev pub IsBlockJson : ProgramShape → (c k : ℕ) → List ℕ → Type 0
IsBlockJson p c k text = IsBlock p c k (owner_json p c k) (graph_nodes_json p c) text

-- the blocks of all clients
unfoldable pub IsGraphJson : ProgramShape → List ℕ → Type 0
IsGraphJson p text = AreBlocks p (IsBlockJson p) text

-- a program has one such text
abbrev pub GraphJsonIsUnique : Type 0
GraphJsonIsUnique =
    (p : ProgramShape) (one other : List ℕ) → IsSound p → IsGraphJson p one → IsGraphJson p other → one ≡ other
