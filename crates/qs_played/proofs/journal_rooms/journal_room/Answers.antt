use Rattle.std.proofs.Common.{arith}
use Rattle.qs_played.specs.audit.JournalRooms.{room_in}
use Rattle.qs_played.proofs.Lists.{sum_by-range_more}
use Rattle.qs_played.proofs.journal_rooms.journal_room.Goals as goal

pub loop-client-preserved : goal.loop-client-preserved
loop-client-preserved c = record {
  room = omega (arith, c.loop-client.invariant.room, c.client_room-room.ensures.room, sum_by-range_more (λ k. room_in c.args.program.now k c.args.object) c.loop-client.client);
  limit = omega (arith, c.loop-client.invariant.limit, c.client_room-room.ensures.limit);
}
