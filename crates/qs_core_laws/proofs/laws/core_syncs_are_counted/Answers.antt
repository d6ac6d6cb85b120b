use Rattle.qs_core_laws.proofs.CoreSyncs.{core_syncs_counted}
use Rattle.qs_core_laws.proofs.laws.core_syncs_are_counted.Goals as goal

pub returns : goal.returns
returns c = record { counted = core_syncs_counted }
