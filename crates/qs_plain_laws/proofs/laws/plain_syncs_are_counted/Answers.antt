use Rattle.qs_plain_laws.proofs.PlainSyncs.{plain_syncs_counted}
use Rattle.qs_plain_laws.proofs.laws.plain_syncs_are_counted.Goals as goal

pub returns : goal.returns
returns c = record { counted = plain_syncs_counted }
