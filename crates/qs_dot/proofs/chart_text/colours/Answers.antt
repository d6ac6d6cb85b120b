use Rattle.qs_dot.proofs.Common.{refl, colours_text}
use Rattle.qs_dot.proofs.chart_text.colours.Goals as goal

pub returns : goal.returns
unfolding colours_text
returns c = record { colours = refl }
