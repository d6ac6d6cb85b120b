use Rattle.qs_script.proofs.grammar.Places.{some_place, one_place}
use Rattle.qs_script.proofs.grammar.laws.one_place.Goals as goal

pub returns-clause-some : goal.returns-clause-some
returns-clause-some c = some_place

pub returns-clause-one : goal.returns-clause-one
returns-clause-one c = one_place
