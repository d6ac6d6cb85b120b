-- What a run keeps, as contracts see it.
use Rattle.std.specs.Prelude.{List}
use Rattle.qs_graph.specs.audit.Walk.{Spot}
use Rattle.qs_objects.specs.Traces.{TraceState}
use Rattle.qs_client.specs.run.Holdings.{HoldingsState}
use Rattle.qs_client.specs.declared.run.stage.Stage.{Stage}

-- the position in the block's graph, the objects that the client holds and its open chunks, the traces of all its
-- blocks, and its stage
pub record RunState : Type 0 where
  pub position : Spot
  pub holdings : HoldingsState
  pub traces : List TraceState
  pub stage : Stage
