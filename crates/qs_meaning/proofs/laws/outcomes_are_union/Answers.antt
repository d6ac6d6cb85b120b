use Rattle.qs_meaning.proofs.Unions.{outcomes_are_union}
use Rattle.qs_meaning.proofs.laws.outcomes_are_union.Goals as goal

pub returns : goal.returns
returns c = record { union = outcomes_are_union }
