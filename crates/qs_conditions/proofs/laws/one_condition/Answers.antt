use Rattle.qs_conditions.proofs.Complete.{one_tree}
use Rattle.qs_conditions.proofs.laws.one_condition.Goals as goal

pub returns : goal.returns
returns c = one_tree
