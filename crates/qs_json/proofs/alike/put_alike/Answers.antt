use Rattle.qs_text.proofs.Parts.{last, then}
use Rattle.qs_json.proofs.alike.put_alike.Goals as goal

pub returns : goal.returns
returns c = record { ok = last _ _ _ (then (then (rw c.order.ensures.order at c.in_ok-put_outcome_head.ensures.ok) (rw c.from.ensures at c.in_ok-put_count.ensures.ok)) c.in_ok-put_standing.ensures.ok) c.put_word.ensures.ok }
