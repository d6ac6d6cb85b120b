use Rattle.qs_graph.proofs.Removing.{removals_keep_walks}
use Rattle.qs_graph.proofs.laws.removals_keep_walks.Goals as goal

pub returns : goal.returns
returns c = record { keep = removals_keep_walks }
