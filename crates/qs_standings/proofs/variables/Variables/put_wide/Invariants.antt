use Rattle.std.proofs.Common.{◌≡◌, ◌*◌, length, take}
use Rattle.qs_program.specs.audit.Limits.{most_variables}
use Rattle.qs_standings.specs.Variables.{spread}
use Rattle.qs_standings.proofs.variables.Variables.put_wide.Given as goal

abbrev pub invariant-loop-client : goal.invariant-loop-client
invariant-loop-client l = record {
  long : length l.numbers.items ≡ l.client * most_variables;
  same : spread most_variables l.client l.numbers.items ≡ take l.client l.self;
}
