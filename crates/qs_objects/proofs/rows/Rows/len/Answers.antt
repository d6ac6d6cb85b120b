use Rattle.std.proofs.Common.{length, sym, ap, ◌∙◌}
use Rattle.qs_objects.specs.Rows.{RowsState}
use Rattle.qs_objects.proofs.Cuts.{length_cut}
use Rattle.qs_objects.proofs.rows.Rows.len.Goals as goal

pub returns : goal.returns
returns g c = record {
  value = c.len.ensures ∙ c.self.inside.lengths.ok.0 ∙ sym (length_cut c.self.inside.lengths.items c.self.inside.items.items)
      ∙ ap (λ (s : RowsState g.row.T.Denot). length s.rows) c.self.view_is;
}
