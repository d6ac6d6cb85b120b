use Rattle.qs_plain_laws.proofs.progress.SmallBounds.{bounds_small}
use Rattle.qs_plain_laws.proofs.progress.laws.bounds_are_small.Goals as goal

pub returns : goal.returns
returns c = record { small = bounds_small }
