use Rattle.qs_outcomes.proofs.alike.Adding.{counts_are_all}
use Rattle.qs_outcomes.proofs.alike.laws.counts_are_all.Goals as goal

pub returns : goal.returns
returns c = record { all = counts_are_all }
