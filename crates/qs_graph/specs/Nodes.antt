-- Beside what the headline reaches (`audit/Nodes.antt`): what else contracts and proofs use.
use Rattle.std.specs.Prelude.{false, List, []}
use Rattle.qs_graph.specs.declared.node.Node.{Node}
use Rattle.qs_graph.specs.declared.node.Node.TheVariants.{Sync}
use Rattle.qs_graph.specs.audit.Nodes.{GraphNode, ControlGraph}

-- a graph whose nodes name objects by their numbers
abbrev pub over_objects : List GraphNode → ControlGraph
over_objects g = record { nodes = g; names = []; aliases = false }

abbrev pub IsSync : Node → Type 0
IsSync (Sync h) = Unit {0}
IsSync _ = ⊥
