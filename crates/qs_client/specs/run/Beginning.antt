-- What a run keeps before the client's first block, and what it keeps as a block begins.
use Rattle.std.specs.Prelude.{List, length, replicate}
use Rattle.qs_meaning.specs.audit.Serial.{zeros}
use Rattle.qs_graph.specs.audit.Walk.{Spot, entry}
use Rattle.qs_syncset.specs.audit.Codes.{BlockCode}
use Rattle.qs_client.specs.run.Holdings.{no_holdings}
use Rattle.qs_client.specs.audit.run.BlockSizes.{longest}
use Rattle.qs_client.specs.run.BlockSizes.{empty_rows}
use Rattle.qs_client.specs.run.RunState.{RunState}
use Rattle.qs_client.specs.declared.run.stage.Stage.TheVariants as stages

abbrev pub fresh_run : List BlockCode → RunState
fresh_run blocks = record {
  position = entry zeros (replicate (longest blocks) 0);
  holdings = no_holdings;
  traces = empty_rows blocks;
  stage = stages.Between;
}

-- at the first node with all counts 0
abbrev pub restart : Spot → Spot
restart s = entry s.locals (replicate (length s.counts) 0)

abbrev pub at_beginning : RunState → RunState
at_beginning s = record s { position = restart s.position }
