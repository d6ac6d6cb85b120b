use Rattle.qs_promises.proofs.AsSerial.{as_if_serial}
use Rattle.qs_promises.proofs.laws.runs_are_as_if_serial.Goals as goal

pub returns : goal.returns
returns c = record { serial = as_if_serial }
