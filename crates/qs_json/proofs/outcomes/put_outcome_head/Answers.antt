use Rattle.qs_text.proofs.Parts.{last}
use Rattle.qs_json.proofs.outcomes.put_outcome_head.Goals as goal

pub returns : goal.returns
returns c = record { ok = last _ _ _ c.in_ok-put_count.ensures.ok c.put_order.ensures.ok }
