use Rattle.qs_plain_laws.proofs.progress.Finished.{finished_stay}
use Rattle.qs_plain_laws.proofs.progress.laws.finished_runs_stay.Goals as goal

pub returns : goal.returns
returns c = record { stay = finished_stay }
