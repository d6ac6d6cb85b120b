use Rattle.std.proofs.Common.{arith, ap, add-one, suc, ◌∙◌}
use Rattle.qs_standings.proofs.going.GoingSets.{count_more, count_same, in_set, out_of_set}
use Rattle.qs_standings.proofs.going.going.size.Goals as goal
use Rattle.qs_standings.proofs.going.going.size.Goals.{then-set-client-eq1, else-set-client-eq1}

pub loop-client-preserved : goal.loop-client-preserved
loop-client-preserved c = elim c.if-set-client-eq1.branch [
  | then-set-client-eq1 w ↦ record {
    count = w.count-is ∙ (add-one c.loop-client.count ∙ (ap suc c.loop-client.invariant.count ∙ count_more c.loop-client.client c.args.set (in_set c.args.set c.loop-client.client w.if-set-client-eq1.true)));
    few = (let e = w.count-is in let f = c.loop-client.invariant.few in omega (arith, e, f));
  }
  | else-set-client-eq1 w ↦ record {
    count = w.count-is ∙ (c.loop-client.invariant.count ∙ count_same c.loop-client.client c.args.set (out_of_set c.args.set c.loop-client.client w.if-set-client-eq1.false));
    few = (let e = w.count-is in let f = c.loop-client.invariant.few in omega (arith, e, f));
  }
]
