use Rattle.std.proofs.Common.{◌≡◌, ◌+◌, min, sum_by, take}
use Rattle.qs_program.specs.audit.Limits.{most_requests}
use Rattle.qs_program.specs.audit.Program.{block_load}
use Rattle.qs_program.proofs.totals.blocks_load.Given as goal

abbrev pub invariant-loop-block : goal.invariant-loop-block
invariant-loop-block l = l.load ≡ min (sum_by (block_load) (take l.block-index l.blocks)) (most_requests + 1)
