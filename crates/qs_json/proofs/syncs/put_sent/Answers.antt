use Rattle.qs_text.proofs.Parts.{last, then}
use Rattle.qs_json.proofs.syncs.put_sent.Goals as goal

pub returns : goal.returns
returns c = record { ok = last _ _ _ (then (then (then c.in_ok-put_count.ensures.ok c.in_ok-put_count-2.ensures.ok) c.in_ok-put_count-3.ensures.ok) c.in_ok-put_count-4.ensures.ok) c.put_word.ensures.ok }
