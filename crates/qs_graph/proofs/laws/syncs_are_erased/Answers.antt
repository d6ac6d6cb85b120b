use Rattle.qs_graph.proofs.Alone.{syncs_erased}
use Rattle.qs_graph.proofs.laws.syncs_are_erased.Goals as goal

pub returns : goal.returns
returns c = record { erased = syncs_erased }
