use Rattle.qs_text.proofs.Parts.{all_that_is, then}
use Rattle.qs_json.proofs.values.values_json.Goals as goal

pub returns : goal.returns
returns c = record {
  text = all_that_is c.new-out.ensures.items
      (then (then (then (then c.in_ok-put_word.ensures.ok (rw c.found.ensures.found at c.in_ok-put_joined.ensures.ok)) c.in_ok-put_word-2.ensures.ok)
      (rw c.configurations.ensures.configurations at c.in_ok-put_count.ensures.ok)) c.in_ok-put_word-3.ensures.ok);
}
