use Rattle.qs_meaning.proofs.TraceLoads.{traces_within, serial_within}
use Rattle.qs_meaning.proofs.laws.traces_within_load.Goals as goal

pub returns : goal.returns
returns c = record { alone = traces_within; serial = serial_within }
