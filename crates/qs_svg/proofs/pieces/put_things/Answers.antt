use Rattle.qs_text.proofs.Parts.{last, then}
use Rattle.qs_svg.proofs.pieces.put_things.Goals as goal

pub returns : goal.returns
returns c = record { ok = last _ _ _ (then c.in_ok-put_text.ensures.ok c.in_ok-put_counted_word.ensures.ok) c.put_word.ensures.ok }
