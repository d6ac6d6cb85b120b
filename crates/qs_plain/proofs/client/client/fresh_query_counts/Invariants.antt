use Rattle.std.proofs.Common.{◌≡◌, ◌≤◌, ◌+◌, ◌*◌}
use Rattle.qs_played.proofs.Names.{most_objects, blocks_of, begun_rows}
use Rattle.qs_plain.specs.client.PreparedBlock.{reserved_lists}
use Rattle.qs_plain.proofs.client.client.fresh_query_counts.Given as goal

abbrev pub invariant-loop-index : goal.invariant-loop-index
invariant-loop-index l = record {
  rows : l.counts.rows ≡ begun_rows l.index (reserved_lists l.program l.number);
  room : blocks_of l.program l.number * most_objects ≤ l.counts.room + l.index * most_objects;
}
