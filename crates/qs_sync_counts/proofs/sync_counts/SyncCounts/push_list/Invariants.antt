use Rattle.std.proofs.Common.{◌≡◌, ◌++◌, ◌+◌, [], get_or, set, take}
use Rattle.qs_sync_counts.specs.audit.SyncRows.{no_syncs}
use Rattle.qs_sync_counts.proofs.sync_counts.SyncCounts.push_list.Given as goal

abbrev pub invariant-loop-object : goal.invariant-loop-object
invariant-loop-object l = record {
  rows : l.self.rows ≡ set l.fn.self.rows l.block (get_or l.fn.self.rows l.block [] ++ no_syncs (take l.object-index l.list));
  room : l.self.room + l.object-index ≡ l.fn.self.room;
}
