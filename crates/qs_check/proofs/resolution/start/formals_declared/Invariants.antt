use Rattle.std.proofs.Common.{◌≡◌, ◌++◌, drop}
use Rattle.qs_check.specs.audit.resolution.Resolve.{declared_formals}
use Rattle.qs_check.proofs.resolution.start.formals_declared.Given as goal

abbrev pub invariant-loop-formal : goal.invariant-loop-formal
invariant-loop-formal l = declared_formals l.formals ≡ l.all.items ++ declared_formals (drop l.formal-index l.formals)
