use Rattle.std.proofs.Common.{◌≡◌, ◌++◌, drop}
use Rattle.qs_check.specs.audit.resolution.Resolve.{objects_of}
use Rattle.qs_check.proofs.resolution.resolve.resolve_objects.Given as goal

abbrev pub invariant-loop-item : goal.invariant-loop-item
invariant-loop-item l = objects_of l.items ≡ l.objects.items ++ objects_of (drop l.item-index l.items)
