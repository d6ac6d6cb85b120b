-- Nodes by the objects of a program and the list of a block.
use Rattle.std.specs.Prelude.{◌≡◌, ◌<◌, ℕ, true, false, List}
use Rattle.std.specs.List.{AllByRecursion}
use Rattle.qs_program.specs.declared.program.Declared.{Declared}
use Rattle.qs_program.specs.audit.Sound.{is_in}
use Rattle.qs_program.specs.Sound.{IsSoundExpr, IsSoundTest, IsSoundCall}
use Rattle.qs_program.specs.audit.Limits.{most_variables}
use Rattle.qs_graph.specs.declared.node.Node.{Node}
use Rattle.qs_graph.specs.declared.node.Node.TheVariants.{Local, Branch, Sync, Query, Call}
use Rattle.qs_graph.specs.declared.node.Action.{Action}
use Rattle.qs_graph.specs.declared.node.Action.TheVariants.{Assign}
use Rattle.qs_graph.specs.declared.node.Choice.{Choice}
use Rattle.qs_graph.specs.declared.node.Choice.TheVariants.{If, Repeat}
use Rattle.qs_graph.specs.audit.Nodes.{GraphNode}

abbrev pub IsSoundAction : Action → Type 0
IsSoundAction (Assign x e) = (x < most_variables) × IsSoundExpr e
IsSoundAction _ = Unit {0}

abbrev pub IsSoundChoice : Choice → Type 0
IsSoundChoice (If t) = IsSoundTest t
IsSoundChoice Repeat = Unit {0}

module _ (objects : List Declared) (reserved : List ℕ) where
  -- its handler is reserved and has its operation, a query asks and a call does not, and variables are the client's
  abbrev pub IsSoundNode : Node → Type 0
  IsSoundNode (Local a) = IsSoundAction a
  IsSoundNode (Branch c) = IsSoundChoice c
  IsSoundNode (Sync h) = is_in reserved h ≡ true
  IsSoundNode (Query x c) = (x < most_variables) × IsSoundCall objects reserved true c
  IsSoundNode (Call c) = IsSoundCall objects reserved false c
  IsSoundNode _ = Unit {0}

  abbrev pub AreSoundNodes : List GraphNode → Type 0
  AreSoundNodes g = AllByRecursion (λ p. IsSoundNode p.node) g
