-- The greatest of the blocks of the clients before this one.
use Rattle.std.proofs.Common.{◌≡◌}
use Rattle.qs_messages.specs.Greatest.{most_in_client, nobody, up_to}
use Rattle.qs_messages.proofs.limit_use.greatest.most_of_blocks.Given as goal

abbrev pub invariant-loop-client : goal.invariant-loop-client
invariant-loop-client l = l.most ≡ up_to l.client (most_in_client l.what l.program) nobody
