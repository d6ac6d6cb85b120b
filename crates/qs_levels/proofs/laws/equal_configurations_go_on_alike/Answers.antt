use Rattle.qs_levels.proofs.meaning.GoingOnAlike.{equal_configurations_go_on_alike}
use Rattle.qs_levels.proofs.laws.equal_configurations_go_on_alike.Goals as goal

pub returns : goal.returns
returns c = record { alike = equal_configurations_go_on_alike }
