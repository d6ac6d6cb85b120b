use Rattle.qs_text.proofs.Parts.{last, then}
use Rattle.qs_json.proofs.events.put_event.Goals as goal

pub returns : goal.returns
returns c = record {
  ok = last _ _ _ (then (then (then (then c.in_ok-put_object_name.ensures.ok c.in_ok-put_operation.ensures.ok) (rw c.as_slice.ensures.numbers at c.in_ok-put_arguments.ensures.ok)) (then c.in_ok-put_word.ensures.ok c.in_ok-put_reply.ensures.ok))
      (rw c.fate_words.ensures.words at c.in_ok-put_word-2.ensures.ok)) c.put_word-3.ensures.ok;
}
