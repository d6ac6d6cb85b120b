use Rattle.qs_outcomes.proofs.estimate.LeastOrders.{least_is_there}
use Rattle.qs_outcomes.proofs.estimate.laws.least_is_there.Goals as goal

pub returns : goal.returns
returns c = record { there = least_is_there }
