use Rattle.qs_syncset.proofs.CodeWalks.{nodes_stay_sound}
use Rattle.qs_syncset.proofs.laws.nodes_stay_sound.Goals as goal

pub returns : goal.returns
returns c = record { sound = nodes_stay_sound }
