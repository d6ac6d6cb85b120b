use Rattle.qs_text.proofs.Parts.{one_text_more}
use Rattle.qs_json.specs.OutcomesJson.{outcome_json_at}
use Rattle.qs_json.proofs.outcomes.put_found.Goals as goal

pub loop-place-preserved : goal.loop-place-preserved
loop-place-preserved c =
    one_text_more (outcome_json_at c.args.program.now c.args.found.now) c.loop-place.place c.loop-place.invariant (rw c.outcome_at.ensures.standing at c.in_ok-put_outcome.ensures.ok)
