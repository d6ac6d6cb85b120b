use Rattle.std.proofs.Common.{◌≡◌, drop}
use Rattle.qs_check.specs.audit.fault_places.Operators.{called}
use Rattle.qs_check.proofs.fault_places.operators.find_op.Given as goal

abbrev pub invariant-loop-op : goal.invariant-loop-op
invariant-loop-op l = called l.asks l.word l.op-items ≡ called l.asks l.word (drop l.op-index l.op-items)
