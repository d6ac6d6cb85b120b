use Rattle.qs_plain_laws.proofs.progress.Finished.{rounds_finish}
use Rattle.qs_plain_laws.proofs.progress.laws.enough_rounds_finish.Goals as goal

pub returns : goal.returns
returns c = record { finish = rounds_finish }
