use Rattle.qs_text.proofs.Joined.{one_place_more}
use Rattle.qs_report.specs.audit.Report.{object_text}
use Rattle.qs_report.proofs.states.put_states.Goals as goal

pub loop-place-preserved : goal.loop-place-preserved
loop-place-preserved c =
    one_place_more (object_text c.args.program.now c.args.played.now) c.loop-place.place _ _ _ c.loop-place.invariant c.in_ok-put_object.ensures.ok
