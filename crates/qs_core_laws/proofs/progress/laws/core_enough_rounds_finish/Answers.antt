use Rattle.qs_core_laws.proofs.progress.Finished.{core_rounds_finish}
use Rattle.qs_core_laws.proofs.progress.laws.core_enough_rounds_finish.Goals as goal

pub returns : goal.returns
returns c = record { finish = core_rounds_finish }
