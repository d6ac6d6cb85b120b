-- The places of a control-flow graph: nodes by number, each with its edges.
use Rattle.std.specs.Prelude.{ℕ, Bool, List, [], ◌∷◌, slice_index_or}
use Rattle.qs_graph.specs.declared.node.Named.{Named}
use Rattle.qs_graph.specs.declared.node.Node.{Node}
use Rattle.qs_graph.specs.declared.node.Node.TheVariants.{Local, Exit}
use Rattle.qs_graph.specs.declared.node.Action.TheVariants.{Nothing}

-- a node, and the numbers of the nodes that it leads to
pub record GraphNode : Type 0 where
  pub node : Node
  pub edges : List ℕ

-- a block's graph: its nodes by number, the names of the block's list with their kinds, and whether two names may be
-- aliases: stand for one object, as the formal names of a template may
pub record ControlGraph : Type 0 where
  pub nodes : List GraphNode
  pub names : List Named
  pub aliases : Bool

-- a node with one edge
abbrev pub to : Node → ℕ → GraphNode
to v n = record { node = v; edges = n ∷ [] }

-- a node with two edges, in this order
abbrev pub to_either : Node → ℕ → ℕ → GraphNode
to_either v n m = record { node = v; edges = n ∷ m ∷ [] }

abbrev pub exit : GraphNode
exit = record { node = Exit; edges = [] }

-- the place of a number; past the last, one that leads nowhere
abbrev pub place_at : List GraphNode → ℕ → GraphNode
place_at g n = slice_index_or g n exit

-- the first and the second edge, 0 where there is none
abbrev pub first_target : GraphNode → ℕ
first_target p = slice_index_or p.edges 0 0

abbrev pub second_target : GraphNode → ℕ
second_target p = slice_index_or p.edges 1 0

-- the place once its synchronisation is removed
abbrev pub made_local : GraphNode → GraphNode
made_local p = record { node = Local Nothing; edges = p.edges }
