use Rattle.std.proofs.Common.{◌≡◌, ◌≤◌, ◌*◌, map, take, vec_len, vec_capacity}
use Rattle.qs_objects.specs.Sums.{total}
use Rattle.qs_program.specs.audit.Limits.{most_handlers, most_requests}
use Rattle.qs_client.specs.run.BlockSizes.{room_for}
use Rattle.qs_client.proofs.run.begin.empty_traces.Given as goal

abbrev pub invariant-loop-block : goal.invariant-loop-block
invariant-loop-block l = record {
  rooms : l.rooms.items ≡ map room_for (take l.block l.code.blocks);
  count : vec_len l.rooms ≡ l.block;
  sum : total l.rooms.items ≡ l.room;
  few : l.room ≤ most_handlers * most_requests * l.block;
  within : l.count ≤ vec_capacity l.rooms;
}
