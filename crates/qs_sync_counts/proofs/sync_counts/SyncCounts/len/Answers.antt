use Rattle.std.proofs.Common.{length, sym, ap, ◌∙◌}
use Rattle.qs_sync_counts.specs.SyncRows.{CountsState}
use Rattle.qs_sync_counts.proofs.CountRows.{length_rows}
use Rattle.qs_sync_counts.proofs.sync_counts.SyncCounts.len.Goals as goal

pub returns : goal.returns
returns c = record {
  value = c.len.ensures.value ∙ sym (length_rows c.self.inside.objects.rows c.self.inside.counts.rows c.self.invariant.each) ∙ ap (λ (s : CountsState). length s.rows) c.self.view_is;
}
