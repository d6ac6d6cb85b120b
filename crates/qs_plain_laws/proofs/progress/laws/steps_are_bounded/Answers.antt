use Rattle.qs_plain_laws.proofs.progress.Bounded.{steps_bounded}
use Rattle.qs_plain_laws.proofs.progress.laws.steps_are_bounded.Goals as goal

pub returns : goal.returns
returns c = record { bounded = steps_bounded }
