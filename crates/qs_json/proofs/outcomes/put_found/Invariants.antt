-- The outcomes before this place are there.
use Rattle.qs_text.specs.audit.Texts.{texts_up_to}
use Rattle.qs_text.specs.Texts.{Puts}
use Rattle.qs_json.specs.OutcomesJson.{outcome_json_at}
use Rattle.qs_json.proofs.outcomes.put_found.Given as goal

abbrev pub invariant-loop-place : goal.invariant-loop-place
invariant-loop-place l = Puts (texts_up_to l.place (outcome_json_at l.program l.found)) l.initial.out.items l.out.items
