use Rattle.qs_core_laws.proofs.progress.Finished.{core_finished_stay}
use Rattle.qs_core_laws.proofs.progress.laws.core_finished_runs_stay.Goals as goal

pub returns : goal.returns
returns c = record { stay = core_finished_stay }
