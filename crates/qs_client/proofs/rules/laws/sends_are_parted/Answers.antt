use Rattle.qs_client.proofs.rules.CarriedValues.{sends_are_parted}
use Rattle.qs_client.proofs.rules.laws.sends_are_parted.Goals as goal

pub returns : goal.returns
returns c = record { parted = sends_are_parted }
