use Rattle.qs_check.proofs.WellFormed.{faultless_are_well_formed}
use Rattle.qs_check.proofs.laws.faultless_are_well_formed.Goals as goal

pub returns : goal.returns
returns c = record { both = faultless_are_well_formed }
