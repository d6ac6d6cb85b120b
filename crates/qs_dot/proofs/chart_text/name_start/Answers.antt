use Rattle.qs_dot.proofs.Common.{refl, name_start}
use Rattle.qs_dot.proofs.chart_text.name_start.Goals as goal

pub returns : goal.returns
unfolding name_start
returns c = record { start = refl }
