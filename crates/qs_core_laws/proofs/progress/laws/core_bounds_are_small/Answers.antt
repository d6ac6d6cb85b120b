use Rattle.qs_core_laws.proofs.progress.SmallBounds.{core_bounds_small}
use Rattle.qs_core_laws.proofs.progress.laws.core_bounds_are_small.Goals as goal

pub returns : goal.returns
returns c = record { small = core_bounds_small }
