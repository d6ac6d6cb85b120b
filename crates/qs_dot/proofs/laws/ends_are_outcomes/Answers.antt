use Rattle.qs_dot.proofs.Ends.{ends_are_outcomes}
use Rattle.qs_dot.proofs.laws.ends_are_outcomes.Goals as goal

pub returns : goal.returns
returns c = record { ends = ends_are_outcomes }
