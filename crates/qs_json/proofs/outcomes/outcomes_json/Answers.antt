use Rattle.qs_text.proofs.Parts.{all_that_is, then}
use Rattle.qs_json.proofs.outcomes.outcomes_json.Goals as goal

pub returns : goal.returns
returns c = record {
  text = all_that_is c.new-out.ensures.items
      (then (then (then (rw c.found-found.ensures.found at c.in_ok-put_found.ensures.ok) (rw c.found-found.ensures.found at c.in_ok-put_count.ensures.ok))
      (rw c.configurations.ensures.configurations at c.in_ok-put_count-2.ensures.ok)) c.in_ok-put_word.ensures.ok);
}
