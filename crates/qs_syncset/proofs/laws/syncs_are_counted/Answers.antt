use Rattle.qs_syncset.proofs.CountedSyncs.{syncs_are_counted}
use Rattle.qs_syncset.proofs.laws.syncs_are_counted.Goals as goal

pub returns : goal.returns
returns c = record { counted = syncs_are_counted }
