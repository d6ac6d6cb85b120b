use Rattle.qs_text.proofs.Parts.{last, then}
use Rattle.qs_json.proofs.outcomes.put_variable.Goals as goal

pub returns-clause-ok : goal.returns-clause-ok
returns-clause-ok c = last _ _ _ (then c.in_ok-put_variable_name.ensures.ok c.in_ok-put_value.ensures.ok) c.put_word.ensures.ok
