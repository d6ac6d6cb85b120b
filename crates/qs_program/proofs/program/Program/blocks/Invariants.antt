use Rattle.std.proofs.Common.{◌≡◌, sum_by, take, length}
use Rattle.qs_program.proofs.program.Program.blocks.Given as goal

abbrev pub invariant-loop-client : goal.invariant-loop-client
invariant-loop-client l = l.count ≡ sum_by (λ c. length c.blocks) (take l.client-index l.client-items)
