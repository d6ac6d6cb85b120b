use Rattle.qs_svg.proofs.Common.{length-map, rules}
use Rattle.qs_svg.proofs.SentFor.{sent_here, sent_later}
use Rattle.qs_svg.proofs.facts.sent_for.Goals as goal

pub loop-number-preserved : goal.loop-number-preserved
loop-number-preserved c = search (rules, length-map, sent_later)

pub returns-then-from-object : goal.returns-then-from-object
returns-then-from-object c = search (rules, length-map, sent_here)
