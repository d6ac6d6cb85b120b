use Rattle.std.proofs.Common.{sym, ap, ◌∙◌}
use Rattle.qs_objects.specs.audit.Rows.{join_rows}
use Rattle.qs_objects.specs.Rows.{RowsState}
use Rattle.qs_objects.proofs.Cuts.{joined_cut}
use Rattle.qs_objects.proofs.rows.Rows.joined.Goals as goal

pub returns : goal.returns
returns g c = record {
  value = c.deref.ensures.value ∙ sym (joined_cut c.self.inside.lengths.items c.self.inside.items.items c.self.invariant.whole)
      ∙ ap (λ (s : RowsState g.row.T.Denot). join_rows s.rows) c.self.view_is;
}
