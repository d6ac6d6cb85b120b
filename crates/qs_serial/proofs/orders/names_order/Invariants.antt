use Rattle.std.specs.Prelude.{drop}
use Rattle.qs_serial.proofs.NamedOrders.{IsReadSoFar}
use Rattle.qs_serial.proofs.orders.names_order.Given as goal

abbrev pub invariant-loop-client : goal.invariant-loop-client
invariant-loop-client l = IsReadSoFar l.program l.clients (drop l.client-index l.clients) l.begun
