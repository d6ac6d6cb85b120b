use Rattle.qs_text.proofs.Joined.{one_place_more}
use Rattle.qs_report.specs.AlikeText.{alike_outcome_at}
use Rattle.qs_report.proofs.alike.put_listed.Goals as goal

pub loop-place-preserved : goal.loop-place-preserved
loop-place-preserved c =
    one_place_more (alike_outcome_at c.args.program.now c.args.found.now c.args.counts.now) c.loop-place.place _ _ _ c.loop-place.invariant (rw c.outcome_at.ensures.standing at c.in_ok-put_alike.ensures.ok)
