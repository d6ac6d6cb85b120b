-- Among the items that are left the block has the number that it has among all of them.
use Rattle.std.proofs.Common.{◌≡◌, drop, length}
use Rattle.qs_check.specs.anchors.Blocks.{block_number}
use Rattle.qs_check.proofs.anchors.blocks.number_in.Given as goal

abbrev pub invariant-loop-item : goal.invariant-loop-item
invariant-loop-item l = block_number 0 l.items l.client l.block ≡ block_number (length l.anchors.items) (drop l.item-index l.items) l.left l.block
