use Rattle.std.proofs.Common.{arith}
use Rattle.qs_graph.proofs.Bindings.{bound_all}
use Rattle.qs_graph.proofs.binding.bind_places.Goals as goal

pub returns : goal.returns
returns c = record {
  value = bound_all _ _ _ _ (omega (arith, c.loop-place-test.false)) c.loop-place.invariant.bound;
}
