use Rattle.qs_promises.proofs.SerialPlaces.{serial_order}
use Rattle.qs_promises.proofs.laws.runs_are_in_serial_order.Goals as goal

pub returns : goal.returns
returns c = record { serial = serial_order }
