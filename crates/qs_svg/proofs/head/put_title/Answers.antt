use Rattle.qs_text.proofs.Parts.{last, then}
use Rattle.qs_svg.proofs.head.put_title.Goals as goal

pub returns : goal.returns
returns c = record {
  ok = last _ _ _ (then (then (rw c.order.ensures.value at c.in_ok-put_count.ensures.ok) (rw c.objects.ensures.value at c.in_ok-put_count-2.ensures.ok))
      (rw c.syncs.ensures.value at c.in_ok-put_count-3.ensures.ok)) (rw (c.finished_words.ensures.words, c.is_finished.ensures.value) at c.put_word.ensures.ok);
}
