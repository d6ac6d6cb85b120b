use Rattle.std.proofs.Common.{◌≡◌, ◌≤◌, ◌*◌, take, vec_capacity, vec_len}
use Rattle.qs_objects.specs.Sums.{total}
use Rattle.qs_plain.specs.client.PreparedBlock.{rooms_of}
use Rattle.qs_plain.proofs.client.client.fresh_traces.Given as goal

abbrev pub invariant-loop-index : goal.invariant-loop-index
invariant-loop-index l = record {
  rooms : l.rooms.items ≡ take l.index (rooms_of l.program l.number);
  count : vec_len l.rooms ≡ l.index;
  sum : total l.rooms.items ≡ l.room;
  few : l.room ≤ 100000 * l.index;
  within : l.count ≤ vec_capacity l.rooms;
}
