use Rattle.std.proofs.Common.{◌≡◌, ◌++◌, drop, map}
use Rattle.qs_program.specs.audit.Binding.{bound_block}
use Rattle.qs_check.proofs.binding.bind.bind_blocks.Given as goal

abbrev pub invariant-loop-block : goal.invariant-loop-block
invariant-loop-block l = map (bound_block l.binding) l.blocks ≡ l.all.items ++ map (bound_block l.binding) (drop l.block-index l.blocks)
