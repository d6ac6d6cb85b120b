use Rattle.std.proofs.Common.{◌≡◌, ◌≤◌, ◌*◌, sum_by}
use Rattle.qs_played.proofs.Names.{range_with_len, room_in}
use Rattle.qs_played.proofs.journal_rooms.journal_room.Given as goal

abbrev pub invariant-loop-client : goal.invariant-loop-client
invariant-loop-client l = record {
  room : l.room ≡ sum_by (λ c. room_in l.program c l.object) (range_with_len 0 l.client);
  limit : l.room ≤ l.client * 6400000;
}
