use Rattle.qs_text.proofs.Parts.{all_that_is, then}
use Rattle.qs_json.proofs.syncs.syncs_json.Goals as goal

pub returns : goal.returns
returns c = record {
  text = all_that_is c.new-out.ensures.items
      (then (then (then c.in_ok-put_blocks.ensures.ok (rw c.order.ensures.value at c.in_ok-put_first_order.ensures.ok)) (rw c.sums.ensures.value at c.in_ok-put_mode_counts.ensures.ok)) c.in_ok-put_word.ensures.ok);
}
