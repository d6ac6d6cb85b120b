-- The clients before this one are there.
use Rattle.qs_svg.proofs.Common.{shapes_up_to, Draws, client_shapes}
use Rattle.qs_svg.proofs.legend.put_clients.Given as goal

abbrev pub invariant-loop-client : goal.invariant-loop-client
invariant-loop-client l = Draws (shapes_up_to l.client (client_shapes l.program)) l.initial.out.items l.out.items
