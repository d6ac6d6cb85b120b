use Rattle.qs_graph.proofs.Silence.{walks_unfold}
use Rattle.qs_graph.proofs.laws.walks_unfold.Goals as goal

pub returns : goal.returns
returns c = record { each = walks_unfold }
