use Rattle.std.proofs.Common.{◌≤◌}
use Rattle.test_gates.proofs.crowd.replies_of.Given as goal

abbrev pub invariant-loop-place : goal.invariant-loop-place
invariant-loop-place l = l.replies ≤ l.place
