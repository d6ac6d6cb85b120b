use Rattle.qs_text.proofs.Parts.{last, then}
use Rattle.qs_json.proofs.answers.put_witness.Goals as goal

pub returns : goal.returns
returns c = record { ok = last _ _ _ (then (rw c.order.ensures.order at c.in_ok-put_order.ensures.ok) c.in_ok-put_standing.ensures.ok) c.put_word.ensures.ok }
