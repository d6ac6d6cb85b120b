use Rattle.std.proofs.Common.{refl}
use Rattle.qs_outcomes.proofs.estimate.Rows.{row_of_none}
use Rattle.qs_outcomes.proofs.estimate.ways.insertions.Goals as goal

pub loop-init : goal.loop-init
loop-init c = record { row = row_of_none _ refl; long = refl }
