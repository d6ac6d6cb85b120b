use Rattle.qs_dot.proofs.Common.{one_place_more, rules}
use Rattle.qs_dot.proofs.chart_text.put_places.Goals as goal

pub loop-place-preserved : goal.loop-place-preserved
loop-place-preserved c = search (rules, one_place_more)
