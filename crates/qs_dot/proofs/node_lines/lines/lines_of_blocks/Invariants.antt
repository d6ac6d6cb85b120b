-- With the lines of the blocks that are left, all lines are there.
use Rattle.qs_dot.proofs.Common.{◌≡◌, ◌++◌, drop, blocks_nodes}
use Rattle.qs_dot.proofs.node_lines.lines.lines_of_blocks.Given as goal

abbrev pub invariant-loop-block : goal.invariant-loop-block
invariant-loop-block l = l.all.items ++ blocks_nodes l.rest (drop l.block-index l.blocks) ≡ blocks_nodes l.entries l.blocks
