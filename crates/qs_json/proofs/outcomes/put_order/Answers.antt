use Rattle.qs_text.proofs.Parts.{last, then}
use Rattle.qs_json.proofs.outcomes.put_order.Goals as goal

pub returns : goal.returns
returns c = record { ok = last _ _ _ (then c.in_ok-put_word.ensures.ok c.in_ok-put_joined.ensures.ok) c.put_word-2.ensures.ok }
