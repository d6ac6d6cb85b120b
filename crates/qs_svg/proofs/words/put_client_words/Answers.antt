use Rattle.qs_text.proofs.Parts.{last}
use Rattle.qs_svg.proofs.words.put_client_words.Goals as goal

pub returns : goal.returns
returns c = record { ok = last _ _ _ (rw c.client_name.ensures.name at c.in_ok-put_word.ensures.ok) (rw c.variables.ensures.value at c.put_variables.ensures.ok) }
