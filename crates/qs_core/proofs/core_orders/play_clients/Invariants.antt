use Rattle.std.proofs.Common.{drop}
use Rattle.qs_core.proofs.CoreBlocks.{ArePlayed}
use Rattle.qs_core.proofs.core_orders.play_clients.Given as goal

abbrev pub invariant-loop-client : goal.invariant-loop-client
invariant-loop-client l = ArePlayed l.program l.fn.mode l.fn.size l.clients (drop l.client-index l.clients) l.core
