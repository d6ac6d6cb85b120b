use Rattle.qs_svg.proofs.Common.{all_that_is, rules}
use Rattle.qs_svg.proofs.stretches.put_words.Goals as goal

pub returns : goal.returns
returns c = search (rules, all_that_is)
