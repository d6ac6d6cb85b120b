use Rattle.std.proofs.Common.{◌≡◌, ◌++◌, drop}
use Rattle.qs_check.specs.audit.fault_places.Places.{formal_kinds}
use Rattle.qs_check.proofs.fault_places.scope.kinds_of_formals.Given as goal

abbrev pub invariant-loop-formal : goal.invariant-loop-formal
invariant-loop-formal l = formal_kinds l.formals ≡ l.kinds.items ++ formal_kinds (drop l.formal-index l.formals)
