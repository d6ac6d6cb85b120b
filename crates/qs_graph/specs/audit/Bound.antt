-- A graph over names, once each name stands for an object.
use Rattle.std.specs.Prelude.{ℕ, List, map}
use Rattle.qs_program.specs.audit.Binding.{bound, bound_call}
use Rattle.qs_graph.specs.declared.node.Node.{Node}
use Rattle.qs_graph.specs.declared.node.Node.TheVariants.{Sync, Query, Call}
use Rattle.qs_graph.specs.audit.Nodes.{GraphNode}

module _ (binding : List ℕ) where
  abbrev pub bound_node : Node → Node
  bound_node (Sync h) = Sync (bound binding h)
  bound_node (Query x c) = Query x (bound_call binding c)
  bound_node (Call c) = Call (bound_call binding c)
  bound_node v = v

  abbrev pub bound_place : GraphNode → GraphNode
  bound_place p = record { node = bound_node p.node; edges = p.edges }

  abbrev pub bound_nodes : List GraphNode → List GraphNode
  bound_nodes g = map bound_place g
