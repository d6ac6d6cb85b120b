use Rattle.std.proofs.Common.{◌<◌, [], length, get_or, map, sym, ap, ◌∙◌, subst, arith}
use Rattle.qs_sync_counts.specs.audit.SyncRows.{object_of}
use Rattle.qs_sync_counts.specs.SyncRows.{CountsState}
use Rattle.qs_sync_counts.proofs.CountRows.{have_at, length_counts, length_rows, objects_paired, row_at}
use Rattle.qs_sync_counts.proofs.sync_counts.SyncCounts.objects.Goals as goal

pub of-requires : goal.of-requires
of-requires c =
    let many = length_rows c.self.inside.objects.rows c.self.inside.counts.rows c.self.invariant.each in
    let counts = length_counts c.self.inside.objects.rows c.self.inside.counts.rows c.self.invariant.each in
    record { row = omega (arith, many, subst (λ (s : CountsState). c.args.block < length s.rows) (sym c.self.view_is) c.requires.block) }

pub returns : goal.returns
returns c = record {
  value = c.of.ensures.value
      ∙ sym (objects_paired (get_or c.self.inside.objects.rows c.args.block []) (get_or c.self.inside.counts.rows c.args.block []) (have_at c.self.inside.objects.rows c.self.inside.counts.rows c.args.block c.self.invariant.each))
      ∙ (ap (map object_of) (sym (row_at c.self.inside.objects.rows c.self.inside.counts.rows c.args.block c.self.invariant.each))
      ∙ ap (λ (s : CountsState). map object_of (get_or s.rows c.args.block [])) c.self.view_is);
}
