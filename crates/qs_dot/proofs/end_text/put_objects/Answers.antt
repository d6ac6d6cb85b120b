use Rattle.qs_dot.proofs.Common.{one_place_more, rules}
use Rattle.qs_dot.proofs.end_text.put_objects.Goals as goal

pub loop-object-preserved : goal.loop-object-preserved
loop-object-preserved c = search (rules, one_place_more)
