use Rattle.std.proofs.lemmas.Result.{on_ok_weaker}
use Rattle.qs_text.proofs.Parts.{last, then}
use Rattle.qs_json.proofs.outcomes.put_client.Goals as goal

pub returns : goal.returns
returns c = rw (← c.variables.ensures.value) (record {
  ok = last _ _ _ (then c.in_ok-put_client_name.ensures.ok c.in_ok-put_variables.ensures.ok) c.put_word.ensures.ok;
  words = on_ok_weaker c.put_word.result (λ e. c.in_ok-put_variables.ensures.words) c.put_word.ensures.ok;
})
