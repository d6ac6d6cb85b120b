use Rattle.qs_plain_laws.proofs.Isolating.{runs_isolated}
use Rattle.qs_plain_laws.proofs.laws.plain_runs_are_isolated.Goals as goal

pub returns : goal.returns
returns c = record { isolated = runs_isolated }
