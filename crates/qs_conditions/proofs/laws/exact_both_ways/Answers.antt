use Rattle.qs_conditions.proofs.Complete.{condition_complete}
use Rattle.qs_conditions.proofs.Sound.{condition_sound}
use Rattle.qs_conditions.proofs.laws.exact_both_ways.Goals as goal

pub returns : goal.returns
returns c = λ d ts. (condition_sound d ts, condition_complete d ts)
