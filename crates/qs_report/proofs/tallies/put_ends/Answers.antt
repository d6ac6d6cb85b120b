use Rattle.qs_text.proofs.Joined.{one_place_more}
use Rattle.qs_report.specs.TallyText.{counted_text_at}
use Rattle.qs_report.proofs.tallies.put_ends.Goals as goal

pub loop-place-preserved : goal.loop-place-preserved
loop-place-preserved c =
    one_place_more (counted_text_at c.args.program.now c.args.listed c.args.ends.now) c.loop-place.place _ _ _ c.loop-place.invariant (rw c.end_at.ensures.end at c.in_ok-put_end.ensures.ok)
