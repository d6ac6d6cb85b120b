use Rattle.qs_graph.proofs.Drawings.{graphs_are_drawings}
use Rattle.qs_graph.proofs.laws.graphs_are_drawings.Goals as goal

pub returns : goal.returns
returns c = record { law = graphs_are_drawings }
