use Rattle.qs_text.proofs.Parts.{last, then}
use Rattle.qs_svg.proofs.words.put_declared.Goals as goal

pub returns : goal.returns
returns c = record { ok = last _ _ _ (then c.in_ok-put_kind.ensures.ok c.in_ok-put_word.ensures.ok) c.put_counted_word.ensures.ok }
