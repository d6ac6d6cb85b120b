use Rattle.std.proofs.Common.{◌≡◌, ◌≤◌, ◌*◌, ◌^◌, drop}
use Rattle.qs_outcomes.specs.estimate.Estimates.{least_orders}
use Rattle.qs_outcomes.proofs.estimate.ways.least_orders.Given as goal

abbrev pub invariant-loop-blocks : goal.invariant-loop-blocks
invariant-loop-blocks l = record {
  product : l.least * least_orders (drop l.blocks-index l.left) ≡ least_orders l.left;
  small : l.least ≤ 65 ^ l.blocks-index;
}
