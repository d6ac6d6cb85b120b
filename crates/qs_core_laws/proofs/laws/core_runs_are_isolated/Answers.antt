use Rattle.qs_core_laws.proofs.CoreIsolating.{core_isolated}
use Rattle.qs_core_laws.proofs.laws.core_runs_are_isolated.Goals as goal

pub returns : goal.returns
returns c = record { isolated = core_isolated }
