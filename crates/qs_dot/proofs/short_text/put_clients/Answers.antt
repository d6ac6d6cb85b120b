use Rattle.qs_dot.proofs.Common.{one_place_more, rules}
use Rattle.qs_dot.proofs.short_text.put_clients.Goals as goal

pub loop-client-preserved : goal.loop-client-preserved
loop-client-preserved c = search (rules, one_place_more)
