use Rattle.qs_promises.proofs.SerialPlaces.{agreeing_blocks, blocks_alone, order_decides}
use Rattle.qs_promises.proofs.laws.blocks_are_as_if_alone.Goals as goal

pub returns : goal.returns
returns c = record { alone = blocks_alone; order = order_decides; agree = agreeing_blocks }
