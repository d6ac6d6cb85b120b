use Rattle.qs_meaning.proofs.EqualNumbers.{equal_numbers}
use Rattle.qs_alike.proofs.texts.is_equal_body.Goals as goal

pub returns : goal.returns
returns c = record { same = equal_numbers c.is_same_body.result c.args.one.now c.args.other.now c.is_same_body.ensures.same }
