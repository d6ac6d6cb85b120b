use Rattle.qs_steps.proofs.NamedSteps.{steps_named}
use Rattle.qs_steps.proofs.laws.steps_are_named.Goals as goal

pub returns : goal.returns
returns c = record { named = steps_named }
