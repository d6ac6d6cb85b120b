use Rattle.qs_dot.proofs.Common.{arith, subst, AreLeadsUpTo}
use Rattle.qs_dot.proofs.Charting.{place_done}
use Rattle.qs_dot.proofs.chart.add_leads.Goals as goal

pub returns-clause-leads : goal.returns-clause-leads
returns-clause-leads c =
    place_done c.args.search.now.program.now c.loop-client.drawing.places.items c.loop-client.drawing.leads.items c.args.at
    (subst (AreLeadsUpTo c.args.search.now.program.now c.loop-client.drawing.places.items c.loop-client.drawing.leads.items c.args.at)
    (let e = c.clients-client-end.ensures.value in let past = c.loop-client-test.false in omega (arith, e, past)) c.loop-client.invariant.leads)
