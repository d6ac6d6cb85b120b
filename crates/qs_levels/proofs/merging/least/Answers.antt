use Rattle.qs_levels.proofs.Common.{read_at, rules}
use Rattle.qs_levels.proofs.Leasts.{least_none, least_on, least_some}
use Rattle.qs_levels.proofs.Merged.{rests_at, rests_long}
use Rattle.qs_levels.proofs.merging.least.Goals as goal

pub loop-number-preserved : goal.loop-number-preserved
loop-number-preserved c = search (rules, read_at, least_on, rests_at)

pub returns-in-Some : goal.returns-in-Some
returns-in-Some c = search (rules, least_some, rests_long)

pub returns-in-None : goal.returns-in-None
returns-in-None c = search (rules, least_none, rests_long)
