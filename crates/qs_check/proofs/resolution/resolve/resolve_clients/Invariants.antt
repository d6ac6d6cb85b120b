use Rattle.std.proofs.Common.{◌≡◌, ◌≤◌, ◌++◌, drop, length}
use Rattle.std.specs.List.{AllByRecursion}
use Rattle.qs_program.specs.audit.Limits.{most_variables}
use Rattle.qs_check.specs.audit.resolution.Resolve.{clients_of, templates_in}
use Rattle.qs_check.specs.resolution.Resolve.{variable_lists}
use Rattle.qs_check.proofs.resolution.resolve.resolve_clients.Given as goal

abbrev pub invariant-loop-item : goal.invariant-loop-item
invariant-loop-item l = record {
  clients : clients_of (templates_in l.items) l.objects l.kinds l.items ≡ l.clients.items ++ clients_of (templates_in l.items) l.objects l.kinds (drop l.item-index l.items);
  variables : l.variables.items ≡ variable_lists (drop l.item-index l.items);
  limit : AllByRecursion (λ v. length v ≤ most_variables) l.variables.items;
}
