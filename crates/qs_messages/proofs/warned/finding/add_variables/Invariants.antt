-- The warnings of the variables before this one are there.
use Rattle.std.proofs.Common.{◌≡◌, ◌++◌, flat_map}
use Rattle.qs_messages.specs.Warnings.{below, variable_warnings}
use Rattle.qs_messages.proofs.warned.finding.add_variables.Given as goal

abbrev pub invariant-loop-variable : goal.invariant-loop-variable
invariant-loop-variable l = l.out.items ≡ l.initial.out.items ++ flat_map (variable_warnings l.program l.client) (below l.variable)
