-- The warnings of the clients before this one are there.
use Rattle.std.proofs.Common.{◌≡◌, ◌++◌, flat_map}
use Rattle.qs_messages.specs.Warnings.{below, client_warnings}
use Rattle.qs_messages.proofs.warned.finding.add_clients.Given as goal

abbrev pub invariant-loop-client : goal.invariant-loop-client
invariant-loop-client l = l.out.items ≡ l.initial.out.items ++ flat_map (client_warnings l.program) (below l.client)
