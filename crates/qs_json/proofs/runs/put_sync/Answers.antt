use Rattle.qs_text.proofs.Parts.{last, then}
use Rattle.qs_json.proofs.runs.put_sync.Goals as goal

pub returns : goal.returns
returns c = record { ok = last _ _ _ (then c.in_ok-put_object_name.ensures.ok (rw c.from.ensures at c.in_ok-put_count.ensures.ok)) c.put_word.ensures.ok }
