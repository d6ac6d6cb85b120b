use Rattle.qs_graph.proofs.Limits.{walks_follow_blocks}
use Rattle.qs_graph.proofs.laws.walks_follow_blocks.Goals as goal

pub returns : goal.returns
returns c = record { follow = walks_follow_blocks }
