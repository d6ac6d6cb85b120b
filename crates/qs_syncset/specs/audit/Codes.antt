-- What a client runs: its blocks' lists, graphs and loads.
use Rattle.std.specs.Prelude.{◌≡◌, ℕ, ◌<◌, ◌≤◌, Bool, true, false, List, [], length, slice_index_or}
use Rattle.qs_objects.specs.declared.held.Ticket.{Ticket}
use Rattle.qs_program.specs.audit.Loads.{load_of}
use Rattle.qs_program.specs.audit.Program.{BlockShape, ProgramShape, binding_of, block_at, blocks_of}
use Rattle.qs_program.specs.audit.Limits.{most_handlers}
use Rattle.qs_graph.specs.audit.Bound.{bound_nodes}
use Rattle.qs_graph.specs.audit.Names.{graph_of}
use Rattle.qs_graph.specs.audit.Nodes.{ControlGraph, GraphNode}
use Rattle.qs_syncset.specs.declared.mode.Mode.{Mode}
use Rattle.qs_syncset.specs.audit.Coalesced.{IsCoalesced}
use Rattle.qs_syncset.specs.audit.Modes.{is_static, is_dynamic}

-- the handlers that a block reserves, in the order of its list, its graph, and for each of 8 handlers its load
pub record BlockCode : Type 0 where
  pub reserved : List ℕ
  pub graph : List GraphNode
  pub loads : List ℕ

-- whether the client tests what it holds, and its blocks
pub record ClientCode : Type 0 where
  pub dynamic : Bool
  pub blocks : List BlockCode

abbrev pub no_code : BlockCode
no_code = record { reserved = []; graph = []; loads = [] }

abbrev pub code_at : ClientCode → ℕ → BlockCode
code_at code k = slice_index_or code.blocks k no_code

abbrev pub load_at : BlockCode → ℕ → ℕ
load_at b h = slice_index_or b.loads h 0

-- the graph of a block over names as it is built, or coalesced by names
abbrev pub IsGraphOf : (static : Bool) → ControlGraph → List GraphNode → Type 0
IsGraphOf false g new = new ≡ g.nodes
IsGraphOf true g new = IsCoalesced g new

-- such a graph, once each name stands for its object
abbrev pub IsBoundGraphOf : (static : Bool) → ControlGraph → (binding : List ℕ) → List GraphNode → Type 0
IsBoundGraphOf static g binding new =
    (names : List GraphNode) × IsGraphOf static g names × (new ≡ bound_nodes binding names)

-- the code of a block whose graph over names is this
pub record IsBlockCode (static : Bool) (b : BlockShape) (g : ControlGraph) (binding : List ℕ)
    (code : BlockCode) : Type 0 where
  pub reserved : code.reserved ≡ b.reserved
  pub graph : IsBoundGraphOf static g binding code.graph
  pub loads : (h : ℕ) → h < most_handlers → load_at code h ≡ load_of b.body h

-- the code of a program's client: its blocks in their order, coalesced in the static modes alone, tested in the dynamic
-- ones alone
pub record IsCodeOf (p : ProgramShape) (mode : Mode) (client : ℕ) (code : ClientCode) : Type 0 where
  pub dynamic : code.dynamic ≡ is_dynamic mode
  pub count : length code.blocks ≡ blocks_of p client
  pub blocks : (k : ℕ) → k < blocks_of p client
      → IsBlockCode (is_static mode) (block_at p client k) (graph_of p client k) (binding_of p client) (code_at code k)

-- the codes of a program's clients; no other client has blocks
pub record AreCodes (p : ProgramShape) (mode : Mode) (code : ℕ → ClientCode) : Type 0 where
  pub own : (c : ℕ) → c < length p.clients → IsCodeOf p mode c (code c)
  pub none : (c : ℕ) → length p.clients ≤ c → (code c).blocks ≡ []

-- how many blocks a client has, and the handlers that a ticket's block reserves
abbrev pub blocks_in : (ℕ → ClientCode) → ℕ → ℕ
blocks_in code c = length (code c).blocks

abbrev pub reserved_of : (ℕ → ClientCode) → Ticket → List ℕ
reserved_of code t = (code_at (code t.client) t.index).reserved
