use Rattle.qs_promises.proofs.Asked.{as_asked}
use Rattle.qs_promises.proofs.Determined.{determined}
use Rattle.qs_promises.proofs.laws.runs_are_as_asked.Goals as goal

pub returns : goal.returns
returns c = record { asked = as_asked; determined = determined }
