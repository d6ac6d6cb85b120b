use Rattle.qs_objects.proofs.ObjectLaws.{stays_in_range}
use Rattle.qs_objects.proofs.laws.ranges_stay.Goals as goal

pub returns : goal.returns
returns c = record { law = stays_in_range }
