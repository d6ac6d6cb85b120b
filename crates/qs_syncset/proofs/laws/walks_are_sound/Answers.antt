use Rattle.qs_syncset.proofs.CodeWalks.{walks_are_sound}
use Rattle.qs_syncset.proofs.laws.walks_are_sound.Goals as goal

pub returns : goal.returns
returns c = record { sound = walks_are_sound }
