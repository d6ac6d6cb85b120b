use Rattle.qs_text.proofs.Parts.{last, then}
use Rattle.qs_json.proofs.graphs.put_step.Goals as goal

pub returns : goal.returns
returns c = record { ok = last _ _ _ (then c.in_ok-put_count.ensures.ok c.in_ok-put_label.ensures.ok) (last _ _ _ (then c.in_ok-put_word.ensures.ok (rw c.edges.ensures.value at c.in_ok-put_targets.ensures.ok)) c.put_word-2.ensures.ok) }
