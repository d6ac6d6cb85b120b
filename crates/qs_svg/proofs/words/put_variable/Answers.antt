use Rattle.qs_svg.proofs.Common.{rules, w64, to_z-of_z, last, then}
use Rattle.qs_svg.proofs.words.put_variable.Goals as goal

pub returns : goal.returns
returns c =
    let value = rw (to_z-of_z w64 c.value_of.result (search rules), c.value_of.ensures.value) at c.put_size.ensures.ok in
    record {
      ok = last _ _ _ (then (rw c.before-2.ensures.before at c.in_ok-put_word.ensures.ok) (rw c.variable_name.ensures.name at c.in_ok-put_word-2.ensures.ok)) value;
    }
