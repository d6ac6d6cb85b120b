use Rattle.qs_graph.proofs.Ranges.{blocks_have_graphs}
use Rattle.qs_graph.proofs.laws.blocks_have_graphs.Goals as goal

pub returns : goal.returns
returns c = record { graphs = blocks_have_graphs }
