use Rattle.std.proofs.Common.{rules}
use Rattle.qs_levels.proofs.Merged.{more_onward}
use Rattle.qs_levels.proofs.merging.next_of.Goals as goal

pub returns-then-len-step-clause-limit : goal.returns-then-len-step-clause-limit
returns-then-len-step-clause-limit c = search (rules, more_onward)
