use Rattle.qs_text.proofs.Joined.{one_place_more}
use Rattle.qs_report.specs.OutcomesText.{outcome_text_at}
use Rattle.qs_report.proofs.outcomes.put_found.Goals as goal

pub loop-place-preserved : goal.loop-place-preserved
loop-place-preserved c =
    one_place_more (outcome_text_at c.args.program.now c.args.found.now) c.loop-place.place _ _ _ c.loop-place.invariant (rw c.outcome_at.ensures.standing at c.in_ok-put_outcome.ensures.ok)
