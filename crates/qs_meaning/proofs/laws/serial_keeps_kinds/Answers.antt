use Rattle.qs_meaning.proofs.StateKinds.{serial_keeps_kinds}
use Rattle.qs_meaning.proofs.laws.serial_keeps_kinds.Goals as goal

pub returns : goal.returns
returns c = record { kinds = serial_keeps_kinds }
