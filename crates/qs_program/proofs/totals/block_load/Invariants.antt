use Rattle.std.proofs.Common.{◌≡◌, ◌+◌, min, sum_by, take}
use Rattle.qs_program.specs.audit.Limits.{most_requests}
use Rattle.qs_program.specs.audit.Loads.{load_of}
use Rattle.qs_program.proofs.totals.block_load.Given as goal

abbrev pub invariant-loop-object : goal.invariant-loop-object
invariant-loop-object l = l.load ≡ min (sum_by (load_of l.block.body) (take l.object-index l.object-items)) (most_requests + 1)
