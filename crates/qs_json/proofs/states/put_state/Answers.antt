use Rattle.std.proofs.Common.{rules, subst, w64, ◌∙◌}
use Rattle.std.proofs.lemmas.Int.{to_z-of_z}
use Rattle.std.proofs.lemmas.Result.{on_ok_weaker}
use Rattle.qs_text.specs.TellApart.{IsWord}
use Rattle.qs_text.proofs.Parts.{last, then}
use Rattle.qs_json.proofs.states.put_state.Goals as goal

pub returns : goal.returns
returns c =
    let refused = to_z-of_z w64 c.refused.result (search rules) ∙ c.refused.ensures.refused in record {
      ok = last _ _ _ (then (then c.in_ok-put_string.ensures.ok c.in_ok-put_content.ensures.ok) (rw refused at c.in_ok-put_integer.ensures.ok)) c.put_word.ensures.ok;
      words = on_ok_weaker c.put_word.result
          (λ e. record { values = c.in_ok-put_content.ensures.words; refused = subst IsWord c.refused.ensures.refused (search rules) }) c.put_word.ensures.ok;
    }
