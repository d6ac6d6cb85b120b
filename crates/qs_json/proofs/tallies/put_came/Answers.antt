use Rattle.qs_text.proofs.Parts.{last, then}
use Rattle.qs_json.proofs.tallies.put_came.Goals as goal

pub returns : goal.returns
returns c = record { ok = last _ _ _ (then c.in_ok-put_end_head.ensures.ok (rw c.standing.ensures.standing at c.in_ok-put_standing.ensures.ok)) c.put_word.ensures.ok }
