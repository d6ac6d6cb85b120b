use Rattle.std.proofs.Common.{◌≡◌, ◌≤◌, ◌*◌, sum_by}
use Rattle.qs_played.proofs.Names.{range_with_len, load_of, block_at}
use Rattle.qs_played.proofs.journal_rooms.client_room.Given as goal

abbrev pub invariant-loop-block : goal.invariant-loop-block
invariant-loop-block l = record {
  room : l.room ≡ sum_by (λ k. load_of (block_at l.program l.client k).body l.object) (range_with_len 0 l.block);
  limit : l.room ≤ l.block * 100000;
}
