use Rattle.qs_text.proofs.Parts.{last, then}
use Rattle.qs_json.proofs.runs.put_block.Goals as goal

pub returns : goal.returns
returns c = record { ok = last _ _ _ (then c.in_ok-put_client_name.ensures.ok (rw c.from.ensures at c.in_ok-put_count.ensures.ok)) c.put_truth.ensures.ok }
