use Rattle.qs_svg.proofs.Common.{◌∙◌, ap, bands_of, rules}
use Rattle.qs_svg.proofs.FatesOfRows.{row_of_fates, rows_of_fates}
use Rattle.qs_svg.proofs.Parts.{and_then, last_shapes}
use Rattle.qs_svg.proofs.rows.put_row.Goals as goal

pub of-requires : goal.of-requires
of-requires c = search (rules, rows_of_fates)

pub put_cells-requires : goal.put_cells-requires
put_cells-requires c = search (rules, row_of_fates)

pub returns : goal.returns
returns c =
    let bands = c.bands_of-bands.ensures.bands ∙ ap bands_of c.all_columns.ensures.columns in
    let names = and_then (rw bands at c.in_ok-put_row_names.ensures.ok) (rw bands at c.in_ok-put_row_end.ensures.ok) in
    record {
      ok = last_shapes _ _ _ (and_then names c.in_ok-start.ensures.ok)
          (rw (c.saturating_sub.ensures, c.journal_of-requests.ensures.journal, c.from-object.ensures, c.in_ok-start.ensures.start) at c.put_left.ensures.ok);
    }
