use Rattle.qs_promises.proofs.Between.{undisturbed}
use Rattle.qs_promises.proofs.laws.blocks_are_undisturbed.Goals as goal

pub returns : goal.returns
returns c = record { undisturbed = undisturbed }
