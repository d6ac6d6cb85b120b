use Rattle.qs_plain_laws.proofs.progress.Stuck.{runs_never_stuck}
use Rattle.qs_plain_laws.proofs.progress.laws.never_stuck.Goals as goal

pub returns : goal.returns
returns c = record { goes_on = runs_never_stuck }
