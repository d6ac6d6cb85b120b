-- The greatest of the clients before this one.
use Rattle.std.proofs.Common.{◌≡◌}
use Rattle.qs_messages.specs.Greatest.{client_use, greater, nobody, up_to}
use Rattle.qs_messages.proofs.limit_use.greatest.most_of_clients.Given as goal

abbrev pub invariant-loop-client : goal.invariant-loop-client
invariant-loop-client l = l.most ≡ up_to l.client (λ most c. greater most (client_use l.what l.program c)) nobody
