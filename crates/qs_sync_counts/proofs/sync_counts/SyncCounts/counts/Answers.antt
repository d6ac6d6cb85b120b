use Rattle.std.proofs.Common.{◌<◌, [], length, get_or, map, sym, ap, ◌∙◌, subst, arith}
use Rattle.qs_sync_counts.specs.audit.SyncRows.{count_of}
use Rattle.qs_sync_counts.specs.SyncRows.{CountsState}
use Rattle.qs_sync_counts.proofs.CountRows.{counts_paired, have_at, length_counts, length_rows, row_at}
use Rattle.qs_sync_counts.proofs.sync_counts.SyncCounts.counts.Goals as goal

pub of-requires : goal.of-requires
of-requires c =
    let many = length_rows c.self.inside.objects.rows c.self.inside.counts.rows c.self.invariant.each in
    let given = subst (λ (s : CountsState). c.args.block < length s.rows) (sym c.self.view_is) c.requires.block in
    record { row = omega (arith, many, length_counts c.self.inside.objects.rows c.self.inside.counts.rows c.self.invariant.each, given) }

pub returns : goal.returns
returns c = record {
  value = c.of.ensures.value
      ∙ sym (counts_paired (get_or c.self.inside.objects.rows c.args.block []) (get_or c.self.inside.counts.rows c.args.block []) (have_at c.self.inside.objects.rows c.self.inside.counts.rows c.args.block c.self.invariant.each))
      ∙ (ap (map count_of) (sym (row_at c.self.inside.objects.rows c.self.inside.counts.rows c.args.block c.self.invariant.each))
      ∙ ap (λ (s : CountsState). map count_of (get_or s.rows c.args.block [])) c.self.view_is);
}
