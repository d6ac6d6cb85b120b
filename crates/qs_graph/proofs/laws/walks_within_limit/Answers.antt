use Rattle.qs_graph.proofs.Limits.{walks_within_limit}
use Rattle.qs_graph.proofs.laws.walks_within_limit.Goals as goal

pub returns : goal.returns
returns c = record { within = walks_within_limit }
