use Rattle.qs_core_laws.proofs.progress.Stuck.{core_runs_never_stuck}
use Rattle.qs_core_laws.proofs.progress.laws.core_never_stuck.Goals as goal

pub returns : goal.returns
returns c = record { goes_on = core_runs_never_stuck }
