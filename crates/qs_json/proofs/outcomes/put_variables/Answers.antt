use Rattle.qs_text.proofs.Parts.{last, then}
use Rattle.qs_json.proofs.outcomes.put_variables.Goals as goal

pub returns-clause-ok : goal.returns-clause-ok
returns-clause-ok c = last _ _ _ (then c.in_ok-put_word.ensures.ok c.in_ok-put_values.ensures.ok) c.put_word-2.ensures.ok
