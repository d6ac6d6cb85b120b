use Rattle.std.proofs.Common.{arith}
use Rattle.qs_played.proofs.Names.{load_of, block_at}
use Rattle.qs_played.proofs.Lists.{sum_by-range_more}
use Rattle.qs_played.proofs.journal_rooms.client_room.Goals as goal

pub loop-block-preserved : goal.loop-block-preserved
loop-block-preserved c = record {
  room = omega (arith, c.loop-block.invariant.room, c.load_of.ensures.value, sum_by-range_more (λ k. load_of (block_at c.args.program.now c.args.client k).body c.args.object) c.loop-block.block);
  limit = omega (arith, c.loop-block.invariant.limit, c.load_of.ensures.limit);
}
