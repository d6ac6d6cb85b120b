use Rattle.std.proofs.Common.{◌≡◌, ◌≤◌, ◌*◌, drop}
use Rattle.qs_outcomes.specs.estimate.Estimates.{capped, most_from, most_orders, past_told}
use Rattle.qs_outcomes.proofs.estimate.ways.most_orders.Given as goal

abbrev pub invariant-loop-blocks : goal.invariant-loop-blocks
invariant-loop-blocks l = record {
  product : capped (l.most * most_from l.others (drop l.blocks-index l.left)) ≡ capped (most_orders l.left);
  small : l.most ≤ past_told;
  few : l.others ≤ 64 * l.blocks-index;
}
