use Rattle.qs_promises.proofs.Isolating.{all_isolated}
use Rattle.qs_promises.proofs.laws.runs_are_isolated.Goals as goal

pub returns : goal.returns
returns c = record { isolated = all_isolated }
