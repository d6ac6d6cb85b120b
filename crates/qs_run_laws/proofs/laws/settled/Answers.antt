use Rattle.qs_run_laws.proofs.RunOutcomes.{runs_have_outcomes}
use Rattle.qs_run_laws.proofs.laws.settled.Goals as goal

pub returns : goal.returns
returns c = record { outcomes = runs_have_outcomes }
