use Rattle.qs_dot.proofs.Common.{◌≤◌, ◌-◌, length, configuration_after, AreCharted, AreLeadsUpTo, HasPlaceFor, rows_in}
use Rattle.qs_dot.proofs.chart.chart_from.Given as goal

abbrev pub invariant-loop-at : goal.invariant-loop-at
invariant-loop-at l = record {
  charted : AreCharted l.program l.front l.limit (rows_in l.drawing.rows.keys) l.drawing.places.items;
  first : HasPlaceFor l.drawing.places.items 0 (configuration_after l.program l.front);
  leads : AreLeadsUpTo l.program l.drawing.places.items l.drawing.leads.items l.at 0;
  within : l.at ≤ length l.drawing.places.items;
}

abbrev pub decreases-loop-at : goal.decreases-loop-at
decreases-loop-at l = l.limit - l.at
