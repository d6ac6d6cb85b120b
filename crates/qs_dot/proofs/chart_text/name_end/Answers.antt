use Rattle.qs_dot.proofs.Common.{refl, name_end}
use Rattle.qs_dot.proofs.chart_text.name_end.Goals as goal

pub returns : goal.returns
unfolding name_end
returns c = record { end = refl }
