use Rattle.qs_text.proofs.Parts.{last, then}
use Rattle.qs_svg.proofs.words.put_values.Goals as goal

pub returns : goal.returns
returns c =
    let told = c.values_told-told.ensures.told in
    record {
      ok = last _ _ _ (then c.in_ok-put_word.ensures.ok (rw told at c.in_ok-put_first_values.ensures.ok)) (rw (c.closing.ensures.closing, told, c.len.ensures.count) at c.put_word-2.ensures.ok);
    }
