use Rattle.qs_meaning.proofs.SoundTrees.{blocks_ask_only}
use Rattle.qs_meaning.proofs.laws.blocks_ask_only.Goals as goal

pub returns : goal.returns
returns c = record { only = blocks_ask_only }
