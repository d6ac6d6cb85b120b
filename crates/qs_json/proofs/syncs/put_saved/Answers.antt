use Rattle.qs_text.proofs.Parts.{last, then}
use Rattle.qs_json.proofs.syncs.put_saved.Goals as goal

pub returns : goal.returns
returns c = record {
  ok = last _ _ _ (then (then (rw c.saturating_sub.ensures at c.in_ok-put_count.ensures.ok) (rw c.saturating_sub-2.ensures at c.in_ok-put_count-2.ensures.ok))
      (rw c.saturating_sub-3.ensures at c.in_ok-put_count-3.ensures.ok)) c.put_word.ensures.ok;
}
