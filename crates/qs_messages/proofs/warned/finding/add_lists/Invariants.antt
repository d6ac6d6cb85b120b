-- The warnings of the lists before this block's are there.
use Rattle.std.proofs.Common.{◌≡◌, ◌++◌, flat_map}
use Rattle.qs_messages.specs.Warnings.{below, block_warnings}
use Rattle.qs_messages.proofs.warned.finding.add_lists.Given as goal

abbrev pub invariant-loop-block : goal.invariant-loop-block
invariant-loop-block l = l.out.items ≡ l.initial.out.items ++ flat_map (block_warnings l.program l.client) (below l.block)
