-- What makes a list of places a graph.
use Rattle.std.specs.Prelude.{◌≡◌, ◌<◌, ◌≤◌, ℕ, List, length}
use Rattle.std.specs.List.{AllByRecursion}
use Rattle.qs_program.specs.declared.code.Call as calls
use Rattle.qs_program.specs.audit.Limits.{most_handlers, most_objects, most_variables}
use Rattle.qs_graph.specs.declared.node.Node.{Node}
use Rattle.qs_graph.specs.declared.node.Node.TheVariants.{Entry, Local, Branch, Sync, Query, Call, Exit}
use Rattle.qs_graph.specs.declared.node.Action.{Action}
use Rattle.qs_graph.specs.declared.node.Action.TheVariants.{Assign}
use Rattle.qs_graph.specs.audit.Nodes.{GraphNode, place_at}

-- how many edges a node has
abbrev pub edge_count : Node → ℕ
edge_count (Branch c) = 2
edge_count Exit = 0
edge_count _ = 1

-- one of 8 handlers, and at most 3 arguments
abbrev pub IsCallInRange : calls.Call → Type 0
IsCallInRange c = (c.object < most_objects) × (length c.args ≤ 3)

abbrev pub IsActionInRange : Action → Type 0
IsActionInRange (Assign x e) = x < most_variables
IsActionInRange _ = Unit {0}

-- the handlers that a node names and the variables that it sets are in range
abbrev pub IsInRange : Node → Type 0
IsInRange (Local a) = IsActionInRange a
IsInRange (Sync h) = h < most_handlers
IsInRange (Query x c) = (x < most_variables) × IsCallInRange c
IsInRange (Call c) = IsCallInRange c
IsInRange _ = Unit {0}

-- a place among n nodes
pub record IsGraphNode (n : ℕ) (p : GraphNode) : Type 0 where
  pub edges : AllByRecursion (λ m. m < n) p.edges
  pub count : length p.edges ≡ edge_count p.node
  pub in_range : IsInRange p.node

-- node 0 is Entry, each edge leads to a node, each node has as many edges as its kind, and numbers are in range
pub record IsGraph (g : List GraphNode) : Type 0 where
  pub entry : (place_at g 0).node ≡ Entry
  pub places : AllByRecursion (IsGraphNode (length g)) g
