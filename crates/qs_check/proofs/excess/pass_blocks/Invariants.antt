-- The blocks before this one are counted, and keep the limit.
use Rattle.std.proofs.Common.{◌≡◌, ◌≤◌, ◌+◌, sum_by, take}
use Rattle.qs_check.specs.Excess.{counted_by, limit_by}
use Rattle.qs_check.proofs.excess.pass_blocks.Given as goal

abbrev pub invariant-loop-block : goal.invariant-loop-block
invariant-loop-block l = record {
  total : l.total ≡ l.before + sum_by (counted_by l.measure) (take l.block l.blocks);
  keeps : l.total ≤ limit_by l.measure;
}
