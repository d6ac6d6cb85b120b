use Rattle.std.proofs.Common.{◌≡◌, ◌+◌, min, sum_by, take}
use Rattle.qs_program.specs.audit.Limits.{most_steps}
use Rattle.qs_program.specs.audit.Loads.{weight_of}
use Rattle.qs_program.proofs.totals.blocks_weight.Given as goal

abbrev pub invariant-loop-block : goal.invariant-loop-block
invariant-loop-block l = l.weight ≡ min (sum_by (λ b. weight_of b.body) (take l.block-index l.blocks)) (most_steps + 1)
