-- The counts so far are added up.
use Rattle.std.proofs.Common.{◌≡◌, ◌≤◌, ◌*◌, sum, take}
use Rattle.qs_sync_counts.specs.SyncRows.{greatest_count}
use Rattle.qs_run.proofs.collect.show.block_syncs.Given as goal

abbrev pub invariant-loop-count : goal.invariant-loop-count
invariant-loop-count l = record {
  total : l.total ≡ sum (take l.count-index l.counts);
  limit : l.total ≤ greatest_count * l.count-index;
}
