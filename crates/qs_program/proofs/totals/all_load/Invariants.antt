use Rattle.std.proofs.Common.{◌≡◌, ◌+◌, min, sum_by, take}
use Rattle.qs_program.specs.audit.Limits.{most_requests}
use Rattle.qs_program.specs.audit.Program.{block_load}
use Rattle.qs_program.proofs.totals.all_load.Given as goal

abbrev pub invariant-loop-client : goal.invariant-loop-client
invariant-loop-client l = l.load ≡ min (sum_by (λ c. sum_by block_load c.blocks) (take l.client-index l.clients)) (most_requests + 1)
