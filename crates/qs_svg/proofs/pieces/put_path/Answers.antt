use Rattle.qs_text.proofs.Parts.{last, then}
use Rattle.qs_svg.proofs.pieces.put_path.Goals as goal

pub returns : goal.returns
returns c =
    let client = then (then c.in_ok-put_word.ensures.ok c.in_ok-put_word-2.ensures.ok) (rw c.from.ensures at c.in_ok-put_count.ensures.ok) in
    record { ok = last _ _ _ (then client (rw c.from-2.ensures at c.in_ok-put_count-2.ensures.ok)) (rw c.from-3.ensures at c.put_count-3.ensures.ok) }
