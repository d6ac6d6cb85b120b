use Rattle.std.proofs.Common.{rules}
use Rattle.qs_c.proofs.Headlines.{headline_of_call}
use Rattle.qs_c.proofs.qs_play.Goals as goal

pub returns-clause-headline : goal.returns-clause-headline
returns-clause-headline c = search (rules, headline_of_call)
