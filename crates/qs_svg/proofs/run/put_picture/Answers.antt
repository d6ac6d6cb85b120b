use Rattle.qs_svg.proofs.Common.{◌∙◌, ap, band_y, bands_of, last, then}
use Rattle.qs_svg.proofs.Parts.{and_then, as_text}
use Rattle.qs_svg.proofs.run.put_picture.Goals as goal

pub returns : goal.returns
returns c =
    let columns = and_then (and_then c.in_ok-put_legend.ensures.ok c.in_ok-put_columns.ensures.ok) c.in_ok-put_columns_left.ensures.ok in
    let bands = c.bands_of.ensures.bands ∙ ap bands_of c.all_columns.ensures.columns in
    let bottom = c.band_edge-bottom.ensures.edge ∙ ap (band_y c.args.layout) bands in
    let rows = and_then columns c.in_ok-put_rows.ensures.ok in
    record {
      ok = last _ _ _ (then (rw c.lines_of.ensures.lines at c.in_ok-put_head.ensures.ok) (as_text (and_then rows (rw bottom at c.in_ok-put_end.ensures.ok))))
          c.put_word.ensures.ok;
    }
