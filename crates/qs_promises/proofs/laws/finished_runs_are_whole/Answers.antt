use Rattle.qs_promises.proofs.Ending.{finished_whole}
use Rattle.qs_promises.proofs.laws.finished_runs_are_whole.Goals as goal

pub returns : goal.returns
returns c = record { whole = finished_whole }
