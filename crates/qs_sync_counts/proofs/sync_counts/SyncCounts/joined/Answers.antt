use Rattle.std.proofs.Common.{sym, ap, ◌∙◌}
use Rattle.qs_objects.specs.audit.Rows.{join_rows}
use Rattle.qs_sync_counts.specs.SyncRows.{CountsState, all_counts}
use Rattle.qs_sync_counts.proofs.CountRows.{counts_of_rows}
use Rattle.qs_sync_counts.proofs.sync_counts.SyncCounts.joined.Goals as goal

pub returns : goal.returns
returns c = record {
  value = c.joined.ensures.value ∙ sym (ap join_rows (counts_of_rows c.self.inside.objects.rows c.self.inside.counts.rows c.self.invariant.each))
      ∙ ap (λ (s : CountsState). join_rows (all_counts s.rows)) c.self.view_is;
}
