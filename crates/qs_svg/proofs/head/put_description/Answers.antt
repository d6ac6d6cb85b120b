use Rattle.qs_text.proofs.Parts.{last, then}
use Rattle.qs_svg.proofs.head.put_description.Goals as goal

pub returns : goal.returns
returns c = record { ok = last _ _ _ (then (then c.in_ok-put_word.ensures.ok c.in_ok-put_tickets_told.ensures.ok) c.in_ok-put_word-2.ensures.ok) c.put_objects_told.ensures.ok }
