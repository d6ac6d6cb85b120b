use Rattle.std.proofs.Common.{false}
use Rattle.qs_text.proofs.Joined.{one_place_more}
use Rattle.qs_report.specs.audit.Report.{shown_ticket}
use Rattle.qs_report.proofs.tickets.put_order.Goals as goal

pub loop-place-preserved : goal.loop-place-preserved
loop-place-preserved c =
    one_place_more (shown_ticket false c.args.counts c.args.program.now c.args.played.now) c.loop-place.place _ _ _ c.loop-place.invariant c.in_ok-put_shown.ensures.ok
