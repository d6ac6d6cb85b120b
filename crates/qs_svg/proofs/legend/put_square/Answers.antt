use Rattle.qs_text.proofs.Parts.{last}
use Rattle.qs_svg.proofs.legend.put_square.Goals as goal

pub returns : goal.returns
returns c = record { ok = last _ _ _ c.in_ok-put_path.ensures.ok c.put_word.ensures.ok }
