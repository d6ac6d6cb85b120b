-- After the blocks that are left comes what comes after all of them.
use Rattle.qs_dot.proofs.Common.{◌≡◌, drop, length, blocks_anchors}
use Rattle.qs_dot.proofs.node_lines.skipping.skip_blocks.Given as goal

abbrev pub invariant-loop-block : goal.invariant-loop-block
invariant-loop-block l =
    drop (length (blocks_anchors (drop l.block-index l.blocks))) l.rest ≡ drop (length (blocks_anchors l.blocks)) l.entries
