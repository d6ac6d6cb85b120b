-- The edges before this one are there.
use Rattle.qs_dot.proofs.Common.{◌≡◌, ◌++◌, place_at, texts_up_to, edge_line}
use Rattle.qs_dot.proofs.nodes.put_edges.Given as goal

abbrev pub invariant-loop-place : goal.invariant-loop-place
invariant-loop-place l = l.out.items ≡ l.initial.out.items ++ texts_up_to l.place (edge_line l.block.ticket.client l.block.ticket.index l.n (place_at l.block.graph.now.nodes l.n))
