use Rattle.qs_svg.proofs.Common.{◌∙◌, all_that_is}
use Rattle.qs_svg.proofs.Parts.{drawn, last_shape, last_shapes}
use Rattle.qs_svg.proofs.ends.put_client_line.Goals as goal

pub returns : goal.returns
returns c =
    let put = rw c.locals.ensures.locals at c.in_ok-put_client_words.ensures.ok in
    let words = c.as_slice.ensures.value ∙ all_that_is c.new-words.ensures.items put in
    record { ok = last_shapes _ _ _ (drawn c.in_ok-put_square.ensures.ok) (last_shape _ _ _ _ (rw words at c.put_fitted.ensures.ok)) }
