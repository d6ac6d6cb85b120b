use Rattle.qs_text.proofs.Parts.{last, then}
use Rattle.qs_json.proofs.syncs.put_block.Goals as goal

pub returns : goal.returns
returns c = record { ok = last _ _ _ (then (rw c.order.ensures.value at c.in_ok-put_head.ensures.ok) c.in_ok-put_rows.ensures.ok) c.put_word.ensures.ok }
