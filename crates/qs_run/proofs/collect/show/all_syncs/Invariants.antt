-- The counts of the blocks so far are added up.
use Rattle.std.proofs.Common.{◌≡◌, ◌≤◌, ◌*◌, sum_by, take}
use Rattle.qs_played.proofs.Names.{most_objects, syncs_of, greatest_count}
use Rattle.qs_run.proofs.collect.show.all_syncs.Given as goal

abbrev pub invariant-loop-place : goal.invariant-loop-place
invariant-loop-place l = record {
  syncs : l.syncs ≡ sum_by syncs_of (take l.place l.played.sync_counts);
  limit : l.syncs ≤ (most_objects * greatest_count) * l.place;
}
