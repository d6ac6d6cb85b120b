use Rattle.qs_graph.proofs.Bindings.{graph_bound}
use Rattle.qs_graph.proofs.laws.graphs_are_bound.Goals as goal

pub returns : goal.returns
returns c = record { law = graph_bound }
