use Rattle.std.proofs.Common.{◌≡◌, ◌++◌, drop}
use Rattle.qs_check.specs.audit.fault_places.Places.{scope_or_fault, script_places}
use Rattle.qs_check.specs.fault_places.Places.{over}
use Rattle.qs_check.specs.resolution.Resolve.{variable_lists}
use Rattle.qs_check.proofs.checker.check_items.Given as goal

abbrev pub invariant-loop-item : goal.invariant-loop-item
invariant-loop-item l = record {
  walk : over (scope_or_fault l.initial.scope (script_places l.items)) ≡ over (scope_or_fault l.scope (script_places (drop l.item-index l.items)));
  lists : l.initial.variables.items ++ variable_lists l.items ≡ l.variables.items ++ variable_lists (drop l.item-index l.items);
}
