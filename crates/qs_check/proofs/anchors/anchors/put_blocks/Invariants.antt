-- The anchors of the blocks before this one are there.
use Rattle.std.proofs.Common.{◌≡◌, ◌++◌, take}
use Rattle.qs_check.specs.anchors.Anchors.{blocks_anchors}
use Rattle.qs_check.proofs.anchors.anchors.put_blocks.Given as goal

abbrev pub invariant-loop-block : goal.invariant-loop-block
invariant-loop-block l = l.out.items ≡ l.initial.out.items ++ blocks_anchors (take l.block-index l.blocks)
