-- Of the names before the next one, those that may be the called one are out; the others are as they were.
use Rattle.qs_graph.specs.audit.Names.{may_be_one}
use Rattle.qs_syncset.proofs.held.Bits.{AreOutBelow}
use Rattle.qs_syncset.proofs.held.dataflow.without_called.Given as goal

abbrev pub invariant-loop-name : goal.invariant-loop-name
invariant-loop-name l = record { out : AreOutBelow (may_be_one l.graph l.called) l.set l.left l.name }
