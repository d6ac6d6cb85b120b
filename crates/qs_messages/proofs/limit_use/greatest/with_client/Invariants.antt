-- The greatest of the blocks before this one, and of what there was before.
use Rattle.std.proofs.Common.{◌≡◌}
use Rattle.qs_messages.specs.Greatest.{block_use, greater, up_to}
use Rattle.qs_messages.proofs.limit_use.greatest.with_client.Given as goal

abbrev pub invariant-loop-block : goal.invariant-loop-block
invariant-loop-block l = l.most ≡ up_to l.block (λ most k. greater most (block_use l.what l.program l.client k)) l.fn.so_far
