use Rattle.qs_dot.proofs.Common.{arith, rows_in, rules}
use Rattle.qs_dot.proofs.Charting.{all_led, are_places}
use Rattle.qs_dot.proofs.chart.chart_from.Goals as goal

pub returns-clause-leads : goal.returns-clause-leads
returns-clause-leads c = search (rules, all_led)

pub returns-clause-places : goal.returns-clause-places
returns-clause-places c =
    are_places c.args.program.now c.args.front.now c.args.limit (rows_in c.loop-at.drawing.rows.keys) c.loop-at.drawing.places.items c.loop-at.drawing.leads.items c.loop-at.invariant.charted c.loop-at.invariant.first
    (all_led c.args.program.now c.loop-at.drawing.places.items c.loop-at.drawing.leads.items c.loop-at.at
    (let e = c.len.ensures in let long = c.loop-at.drawing.places.ok.0 in let past = c.loop-at-test.false in omega (arith, e, long, past)) c.loop-at.invariant.leads)
