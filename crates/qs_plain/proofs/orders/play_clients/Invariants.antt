use Rattle.std.proofs.Common.{drop}
use Rattle.qs_plain.proofs.Blocks.{ArePlayed}
use Rattle.qs_plain.proofs.orders.play_clients.Given as goal

abbrev pub invariant-loop-client : goal.invariant-loop-client
invariant-loop-client l = ArePlayed l.program l.clients (drop l.client-index l.clients) l.rules
