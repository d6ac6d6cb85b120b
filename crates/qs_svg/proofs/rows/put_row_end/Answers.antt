use Rattle.qs_svg.proofs.Common.{◌∙◌, all_that_is}
use Rattle.qs_svg.proofs.Parts.{drawn, last_shapes}
use Rattle.qs_svg.proofs.rows.put_row_end.Goals as goal

pub returns : goal.returns
returns c =
    let put = rw (c.kind.ensures.value, c.journal_of-requests.ensures.journal, c.from.ensures) at c.in_ok-put_declared.ensures.ok in
    let words = c.as_slice.ensures.value ∙ all_that_is c.new-words.ensures.items put in
    record {
      ok = last_shapes _ _ _ (drawn (rw (words, c.row_edge-y.ensures.edge) at c.in_ok-put_fitted.ensures.ok))
          (rw c.row_edge-y.ensures.edge at c.put_state.ensures.ok);
    }
