use Rattle.qs_graph.proofs.Weights.{steps_within_weight}
use Rattle.qs_graph.proofs.laws.steps_within_weight.Goals as goal

pub returns : goal.returns
returns c = record { within = steps_within_weight }
