use Rattle.qs_text.proofs.Parts.{last, then}
use Rattle.qs_json.proofs.graphs.put_node.Goals as goal

pub returns : goal.returns
returns c = record { ok = last _ _ _ (then c.in_ok-put_step.ensures.ok c.in_ok-put_held.ensures.ok) c.put_word.ensures.ok }
