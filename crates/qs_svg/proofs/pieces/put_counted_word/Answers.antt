use Rattle.qs_text.proofs.Parts.{last, then}
use Rattle.qs_svg.proofs.pieces.put_counted_word.Goals as goal

pub returns : goal.returns
returns c = record { ok = last _ _ _ (then c.in_ok-put_count.ensures.ok c.in_ok-put_word.ensures.ok) (rw c.plural.ensures.plural at c.put_word-2.ensures.ok) }
