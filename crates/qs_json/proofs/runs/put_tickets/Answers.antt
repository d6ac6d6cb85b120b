use Rattle.qs_json.specs.audit.RunJson.{ticket_json}
use Rattle.qs_json.proofs.Elements.{one_element_more}
use Rattle.qs_json.proofs.runs.put_tickets.Goals as goal

pub loop-place-preserved : goal.loop-place-preserved
loop-place-preserved c =
    one_element_more (ticket_json c.args.counts c.args.program.now c.args.played.now) c.loop-place.place c.loop-place.invariant c.in_ok-put_comma.ensures.ok
    c.in_ok-put_ticket.ensures.ok
