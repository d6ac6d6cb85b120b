use Rattle.qs_syncset.proofs.CountedSyncs.{sets_decide}
use Rattle.qs_syncset.proofs.laws.sets_decide.Goals as goal

pub returns : goal.returns
returns c = record { decide = sets_decide }
