use Rattle.qs_plain_laws.proofs.progress.Finished.{fair_finish}
use Rattle.qs_plain_laws.proofs.progress.laws.fair_runs_finish.Goals as goal

pub returns : goal.returns
returns c = record { finish = fair_finish }
