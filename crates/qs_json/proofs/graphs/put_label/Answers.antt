use Rattle.qs_text.proofs.Parts.{last}
use Rattle.qs_json.proofs.graphs.put_label.Goals as goal

pub returns-in_ok-put_name-in-Sync : goal.returns-in_ok-put_name-in-Sync
returns-in_ok-put_name-in-Sync c = record { ok = rw (← c.node.ensures.value, c.in-Sync.is) (last _ _ _ c.in_ok-put_name-in-Sync.ensures.ok (rw c.holds.ensures.value at c.put_truth.ensures.ok)) }
