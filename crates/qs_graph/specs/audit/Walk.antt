-- Walks through a graph: from node to node, each branch by the variables and the counts.
use Rattle.std.specs.Prelude.{ℕ, zero, suc, ℤ, if◌then◌else◌, List, slice_index_or, slice_set}
use Rattle.qs_objects.specs.declared.Request.{Request}
use Rattle.qs_program.specs.audit.Values.{Locals, expr_value, test_value, request_of}
use Rattle.qs_graph.specs.declared.node.Node.{Node}
use Rattle.qs_graph.specs.declared.node.Node.TheVariants as node
use Rattle.qs_graph.specs.declared.node.Action.{Action}
use Rattle.qs_graph.specs.declared.node.Action.TheVariants.{Assign, SetCount, Nothing}
use Rattle.qs_graph.specs.declared.node.Choice.{Choice}
use Rattle.qs_graph.specs.declared.node.Choice.TheVariants.{If, Repeat}
use Rattle.qs_graph.specs.audit.Nodes.{GraphNode, place_at, first_target, second_target}
use Rattle.qs_graph.specs.audit.Synced.{Synced, Done, Call, Sync, Query}

-- where a walk stands: its node, the client's variables, and for each node the count of the repeat whose branch it is
pub record Spot : Type 0 where
  pub node : ℕ
  pub locals : Locals
  pub counts : List ℕ

-- the block's beginning
abbrev pub entry : Locals → List ℕ → Spot
entry l counts = record { node = 0; locals = l; counts = counts }

abbrev pub at_node : Spot → ℕ → Spot
at_node s n = record { node = n; locals = s.locals; counts = s.counts }

abbrev pub with_value : Spot → ℕ → ℤ → Spot
with_value s x v = record { node = s.node; locals = slice_set s.locals x v; counts = s.counts }

abbrev pub with_count : Spot → ℕ → ℕ → Spot
with_count s branch n = record { node = s.node; locals = s.locals; counts = slice_set s.counts branch n }

-- what a walk does at its node: it is over, goes on silently, calls, synchronises, or queries and goes on by the reply
pub data Move : Type 0 where
  Ends : Move
  Goes : (to : Spot) → Move
  Calls : (request : Request) → (to : Spot) → Move
  Syncs : (handler : ℕ) → (to : Spot) → Move
  Queries : (request : Request) → (to : ℤ → Spot) → Move

-- after a local node that leads to n; a count is kept at the branch that comes next
abbrev pub after_local : Action → Spot → ℕ → Spot
after_local (Assign x e) s n = at_node (with_value s x (expr_value s.locals e)) n
after_local (SetCount k) s n = at_node (with_count s n k) n
after_local Nothing s n = at_node s n

-- after a repeat's branch with this count: once more to the body, or on
abbrev pub after_repeat : ℕ → Spot → (first second : ℕ) → Spot
after_repeat zero s first second = at_node s second
after_repeat (suc k) s first second = at_node (with_count s s.node k) first

-- after a branch
abbrev pub after_branch : Choice → Spot → (first second : ℕ) → Spot
after_branch (If t) s first second = at_node s (if test_value s.locals t then first else second)
after_branch Repeat s first second = after_repeat (slice_index_or s.counts s.node 0) s first second

-- what a node does
abbrev pub move_by : Node → Spot → (first second : ℕ) → Move
move_by node.Entry s first second = Goes (at_node s first)
move_by (node.Local a) s first second = Goes (after_local a s first)
move_by (node.Branch c) s first second = Goes (after_branch c s first second)
move_by (node.Sync h) s first second = Syncs h (at_node s first)
move_by (node.Query x c) s first second = Queries (request_of s.locals c) (λ v. at_node (with_value s x v) first)
move_by (node.Call c) s first second = Calls (request_of s.locals c) (at_node s first)
move_by node.Exit s first second = Ends

abbrev pub move_at : GraphNode → Spot → Move
move_at p s = move_by p.node s (first_target p) (second_target p)

unfoldable pub move : List GraphNode → Spot → Move
move g s = move_at (place_at g s.node) s

-- what is said from here, where `go` tells it of the spots that follow
abbrev pub tree_of_move : (Spot → Synced) → Locals → Move → Synced
tree_of_move go l Ends = Done l
tree_of_move go l (Goes s) = go s
tree_of_move go l (Calls r s) = Call r (go s)
tree_of_move go l (Syncs h s) = Sync h (go s)
tree_of_move go l (Queries r s) = Query r (λ v. go (s v))

-- all that a walk of at most n nodes says
abbrev pub walk : List GraphNode → ℕ → Spot → Synced
walk g zero s = Done s.locals
walk g (suc n) s = tree_of_move (walk g n) s.locals (move g s)
