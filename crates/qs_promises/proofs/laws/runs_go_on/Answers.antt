use Rattle.qs_promises.proofs.GoingOn.{machines_go_on, rules_go_on, runs_go_on}
use Rattle.qs_promises.proofs.laws.runs_go_on.Goals as goal

pub returns : goal.returns
returns c = record { goes_on = runs_go_on; rules = rules_go_on; machine = machines_go_on }
