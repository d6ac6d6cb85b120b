use Rattle.std.proofs.Common.{◌≡◌, ◌++◌, drop, map}
use Rattle.qs_program.specs.audit.Numbering.{found_at}
use Rattle.qs_check.proofs.resolution.resolve.resolve_list.Given as goal

abbrev pub invariant-loop-name : goal.invariant-loop-name
invariant-loop-name l = map (found_at l.objects) l.names ≡ l.reserved.items ++ map (found_at l.objects) (drop l.name-index l.names)
