-- Texts of a program's graphs, block by block: a head, and the nodes with what is held at each.
use Rattle.std.specs.Prelude.{◌≡◌, ℕ, List, ◌++◌, length, Bool, false}
use Rattle.std.specs.List.{filter}
use Rattle.qs_program.specs.audit.Program.{ProgramShape, blocks_of, own_block}
use Rattle.qs_graph.specs.declared.node.Node.{Node}
use Rattle.qs_graph.specs.declared.node.Node.TheVariants.{Sync}
use Rattle.qs_graph.specs.audit.Names.{graph_of}
use Rattle.qs_graph.specs.audit.Nodes.{ControlGraph, GraphNode, place_at}
use Rattle.qs_syncset.specs.held.Flow.{Holding}
use Rattle.qs_syncset.specs.held.Table.{AreSetsOf, has}
use Rattle.qs_text.specs.Texts.{AreTextsUpTo}

-- a synchronisation is removed exactly where its own name is held
abbrev pub is_removed : Holding → Node → Bool
is_removed held (Sync h) = held h
is_removed held _ = false

abbrev pub removed_at : List GraphNode → (sets : List (List Bool)) → ℕ → Bool
removed_at g sets n = is_removed (has sets n) (place_at g n).node

-- the text of a node, by its number, what it does and where it leads, whether it is removed, and which names are held
-- there
abbrev pub NodeText : Type 0
NodeText = (n : ℕ) → GraphNode → (removed : Bool) → (names : List ℕ) → List ℕ

-- node n of a graph, with the names of the block's list that are held there, in the list's order
abbrev pub node_at : NodeText → (reserved : List ℕ) → List GraphNode → (sets : List (List Bool)) → ℕ → List ℕ
node_at node reserved g sets n = node n (place_at g n) (removed_at g sets n) (filter (has sets n) reserved)

-- the text of a graph's nodes, by the names of the block's list and by what is held at each node
abbrev pub NodesText : Type 0
NodesText = (reserved : List ℕ) → ControlGraph → (sets : List (List Bool)) → List ℕ

-- block k of client c: its head, and the nodes of its graph as it is built, with what is held at each on every path
pub record IsBlock (p : ProgramShape) (c k : ℕ) (head : List ℕ) (nodes : NodesText) (text : List ℕ) : Type 0 where
  pub sets : List (List Bool)
  pub held : AreSetsOf (graph_of p c k) sets
  pub is : text ≡ head ++ nodes (own_block p c k).reserved (graph_of p c k) sets

-- the same, by the heads and the nodes of all blocks
abbrev pub IsBlockBy : ProgramShape → (head : (c k : ℕ) → List ℕ) → (nodes : (c k : ℕ) → NodesText) → (c k : ℕ)
    → List ℕ → Type 0
IsBlockBy p head nodes c k text = IsBlock p c k (head c k) (nodes c k) text

-- the blocks of client c, where each has a text of some kind
abbrev pub AreBlocksOf : ProgramShape → (IsOne : (c k : ℕ) → List ℕ → Type 0) → (c : ℕ) → List ℕ → Type 0
AreBlocksOf p IsOne c text = AreTextsUpTo (blocks_of p c) (IsOne c) text

-- the blocks of all clients
abbrev pub AreBlocks : ProgramShape → (IsOne : (c k : ℕ) → List ℕ → Type 0) → List ℕ → Type 0
AreBlocks p IsOne text = AreTextsUpTo (length p.clients) (AreBlocksOf p IsOne) text
