use Rattle.std.proofs.Common.{◌≡◌, [], get_or, length, set}
use Rattle.qs_sync_counts.specs.audit.SyncRows.{one_more}
use Rattle.qs_sync_counts.proofs.CountRows.{changed_front}
use Rattle.qs_sync_counts.proofs.sync_counts.SyncCounts.add.Given as goal

abbrev pub invariant-loop-place : goal.invariant-loop-place
invariant-loop-place l = record {
  rows : l.self.rows ≡ set l.fn.self.rows l.block (changed_front (one_more l.object) l.place (get_or l.fn.self.rows l.block []));
  room : l.self.room ≡ l.fn.self.room;
  end : l.place-end ≡ length (get_or l.fn.self.rows l.block []);
}
