use Rattle.qs_graph.proofs.Inside.{paths_stay_inside}
use Rattle.qs_graph.proofs.laws.paths_stay_inside.Goals as goal

pub returns : goal.returns
returns c = record { inside = paths_stay_inside }
