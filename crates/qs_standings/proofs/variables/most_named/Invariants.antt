use Rattle.std.proofs.Common.{◌≤◌}
use Rattle.qs_program.specs.audit.Limits.{most_variables}
use Rattle.qs_standings.proofs.variables.most_named.Given as goal

abbrev pub invariant-loop-client : goal.invariant-loop-client
invariant-loop-client l = l.most ≤ most_variables
