use Rattle.std.proofs.Common.{◌≡◌, drop}
use Rattle.qs_check.specs.audit.fault_places.Places.{scope_or_fault, formals_places}
use Rattle.qs_check.proofs.fault_places.walk.check_formals.Given as goal

abbrev pub invariant-loop-formal : goal.invariant-loop-formal
invariant-loop-formal l = scope_or_fault l.initial.scope (formals_places l.formals) ≡ scope_or_fault l.scope (formals_places (drop l.formal-index l.formals))
