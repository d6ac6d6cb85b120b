use Rattle.qs_dot.proofs.Common.{one_place_more, rules}
use Rattle.qs_dot.proofs.short_text.put_first_values.Goals as goal

pub loop-place-preserved : goal.loop-place-preserved
loop-place-preserved c = search (rules, one_place_more)
