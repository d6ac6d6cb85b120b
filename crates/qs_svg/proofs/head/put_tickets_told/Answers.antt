use Rattle.qs_svg.proofs.Common.{ticket_told, one_text_more}
use Rattle.qs_svg.proofs.head.put_tickets_told.Goals as goal

pub loop-place-preserved : goal.loop-place-preserved
loop-place-preserved c =
    one_text_more (ticket_told c.args.program.now c.args.played.now) c.loop-place.place c.loop-place.invariant c.in_ok-put_ticket_told.ensures.ok
