use Rattle.std.proofs.Common.{true}
use Rattle.qs_text.proofs.Joined.{one_place_more}
use Rattle.qs_report.specs.audit.Report.{shown_ticket}
use Rattle.qs_report.proofs.refusals.put_marked_order.Goals as goal

pub loop-place-preserved : goal.loop-place-preserved
loop-place-preserved c =
    one_place_more (shown_ticket true c.args.counts c.args.program.now c.args.played.now) c.loop-place.place _ _ _ c.loop-place.invariant c.in_ok-put_marked.ensures.ok
