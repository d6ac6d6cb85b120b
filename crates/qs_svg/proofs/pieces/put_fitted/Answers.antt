use Rattle.qs_text.proofs.Parts.{last, then}
use Rattle.qs_svg.proofs.pieces.put_fitted.Goals as goal

pub returns : goal.returns
returns c =
    let corner = then (rw c.from.ensures at c.in_ok-put_count.ensures.ok) (rw c.from-2.ensures at c.in_ok-put_count-2.ensures.ok) in
    record { ok = last _ _ _ (then (then (then corner c.in_ok-put_squeezed.ensures.ok) c.in_ok-put_word.ensures.ok) c.in_ok-put_word-2.ensures.ok) c.put_word-3.ensures.ok }
