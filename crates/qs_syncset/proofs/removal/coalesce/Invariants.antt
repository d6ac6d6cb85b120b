use Rattle.std.proofs.Common.{◌≡◌}
use Rattle.qs_syncset.proofs.Removing.{IsDone}
use Rattle.qs_syncset.proofs.removal.coalesce.Given as goal

abbrev pub invariant-loop-n : goal.invariant-loop-n
invariant-loop-n l = record {
  done : IsDone l.fn.graph l.graph.nodes l.n;
  names : l.graph.names ≡ l.fn.graph.names;
  aliases : l.graph.aliases ≡ l.fn.graph.aliases;
}
