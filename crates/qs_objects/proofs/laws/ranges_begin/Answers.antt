use Rattle.qs_objects.proofs.ObjectLaws.{begins_in_range}
use Rattle.qs_objects.proofs.laws.ranges_begin.Goals as goal

pub returns : goal.returns
returns c = record { law = begins_in_range }
