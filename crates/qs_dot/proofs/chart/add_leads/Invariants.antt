use Rattle.qs_dot.proofs.Common.{AreCharted, AreLeadsUpTo, AreMore, rows_in}
use Rattle.qs_dot.proofs.chart.add_leads.Given as goal

abbrev pub invariant-loop-client : goal.invariant-loop-client
invariant-loop-client l = record {
  charted : AreCharted l.search.program.now l.search.front.now l.search.limit (rows_in l.drawing.rows.keys) l.drawing.places.items;
  more : AreMore l.initial.drawing.places.items l.drawing.places.items;
  leads : AreLeadsUpTo l.search.program.now l.drawing.places.items l.drawing.leads.items l.at l.client;
}
