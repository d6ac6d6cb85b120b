use Rattle.qs_core_laws.proofs.progress.Bounded.{core_steps_bounded}
use Rattle.qs_core_laws.proofs.progress.laws.core_steps_are_bounded.Goals as goal

pub returns : goal.returns
returns c = record { bounded = core_steps_bounded }
