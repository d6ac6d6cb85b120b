use Rattle.std.proofs.Common.{◌≡◌, ◌+◌, min, sum_by, take}
use Rattle.qs_program.specs.audit.Limits.{most_steps}
use Rattle.qs_program.specs.audit.Loads.{weight_of}
use Rattle.qs_program.proofs.totals.all_weight.Given as goal

abbrev pub invariant-loop-client : goal.invariant-loop-client
invariant-loop-client l = l.weight ≡ min (sum_by (λ c. sum_by (λ b. weight_of b.body) c.blocks) (take l.client-index l.clients)) (most_steps + 1)
