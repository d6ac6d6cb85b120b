use Rattle.qs_text.proofs.Parts.{last, then}
use Rattle.qs_json.proofs.answers.put_answer_after.Goals as goal

pub returns : goal.returns
returns c = record {
  ok = last _ _ _ c.in_ok-put_word.ensures.ok
      (last _ _ _ (then (rw c.word.ensures.word at c.in_ok-put_word-2.ensures.ok) c.in_ok-put_word-3.ensures.ok)
      (rw c.truth_word.ensures.word at c.put_word-4.ensures.ok));
}
