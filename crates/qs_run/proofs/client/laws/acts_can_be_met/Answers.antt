use Rattle.qs_run.proofs.client.RunActs.{run_act_laws}
use Rattle.qs_run.proofs.client.laws.acts_can_be_met.Goals as goal

pub returns : goal.returns
returns c = record { acts = run_act_laws }
