use Rattle.std.proofs.Common.{◌≡◌, drop}
use Rattle.qs_check.specs.audit.fault_places.Places.{scope_or_fault, given_places}
use Rattle.qs_check.proofs.fault_places.walk.check_given.Given as goal

abbrev pub invariant-loop-object : goal.invariant-loop-object
invariant-loop-object l = record {
  place : l.place ≡ l.object-index;
  walk : scope_or_fault l.scope (given_places l.template 0 l.objects) ≡ scope_or_fault l.scope (given_places l.template l.object-index (drop l.object-index l.objects));
}
