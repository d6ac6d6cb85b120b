use Rattle.qs_svg.proofs.WholeStretches.{rows_of_whole_blocks}
use Rattle.qs_svg.proofs.laws.rows_of_whole_blocks.Goals as goal

pub returns : goal.returns
returns c = record { rows = rows_of_whole_blocks }
