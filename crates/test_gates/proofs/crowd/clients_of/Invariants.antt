use Rattle.std.proofs.Common.{◌≤◌}
use Rattle.test_gates.proofs.crowd.clients_of.Given as goal

abbrev pub invariant-loop-client : goal.invariant-loop-client
invariant-loop-client l = l.clients ≤ l.client-counter
