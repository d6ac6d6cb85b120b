use Rattle.std.proofs.Common.{◌≤◌}
use Rattle.test_gates.proofs.desks.take_anns.Given as goal

abbrev pub invariant-loop-index : goal.invariant-loop-index
invariant-loop-index g l = l.taken ≤ l.index
