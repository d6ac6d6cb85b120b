use Rattle.qs_text.proofs.Parts.{last}
use Rattle.qs_json.proofs.syncs.put_row.Goals as goal

pub returns : goal.returns
returns c = record { ok = last _ _ _ (rw c.object.ensures.value at c.in_ok-put_object_name.ensures.ok) (rw c.counts.ensures.value at c.put_mode_counts.ensures.ok) }
