use Rattle.std.proofs.Common.{◌≡◌, drop}
use Rattle.qs_check.specs.audit.fault_places.Places.{scope_or_fault, listed_places}
use Rattle.qs_check.proofs.fault_places.walk.check_list.Given as goal

abbrev pub invariant-loop-name : goal.invariant-loop-name
invariant-loop-name l = scope_or_fault l.initial.scope (listed_places l.names) ≡ scope_or_fault l.scope (listed_places (drop l.name-index l.names))
