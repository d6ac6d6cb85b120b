use Rattle.std.proofs.Common.{◌≡◌, ◌≤◌, ◌+◌, ◌*◌, length}
use Rattle.qs_program.specs.audit.Limits.{most_handlers}
use Rattle.qs_sync_counts.specs.SyncRows.{begun_rows}
use Rattle.qs_client.specs.audit.ClientModel.{lists_of_code}
use Rattle.qs_client.proofs.mind.fresh_counts.Given as goal

abbrev pub invariant-loop-block : goal.invariant-loop-block
invariant-loop-block l = record {
  rows : l.counts.rows ≡ begun_rows l.block (lists_of_code l.code.blocks);
  room : length l.code.blocks * most_handlers ≤ l.counts.room + l.block * most_handlers;
}
