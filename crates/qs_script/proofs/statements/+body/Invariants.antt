use Rattle.std.proofs.Common.{◌≤◌, ◌+◌, ◌*◌, length}
use Rattle.qs_script.specs.audit.tree.Tree.{end}
use Rattle.qs_script.specs.grammar.Reading.{body_loop}
use Rattle.qs_script.proofs.Loops.{Continues}
use Rattle.qs_script.proofs.statements.+body.Given as goal

abbrev pub decreases-body : goal.decreases-body
decreases-body l = 6 * l.levels + 1

abbrev pub decreases-statement : goal.decreases-statement
decreases-statement l = 6 * l.levels

abbrev pub decreases-statement_over : goal.decreases-statement_over
decreases-statement_over l = 6 * l.levels + 5

abbrev pub decreases-choice : goal.decreases-choice
decreases-choice l = 6 * l.levels + 4

abbrev pub decreases-other : goal.decreases-other
decreases-other l = 6 * l.levels + 3

abbrev pub decreases-repeat : goal.decreases-repeat
decreases-repeat l = 6 * l.levels + 4

abbrev pub decreases-braced : goal.decreases-braced
decreases-braced l = 6 * l.levels + 2

abbrev pub invariant-body-each : goal.invariant-body-each
invariant-body-each l = record {
  whole : Continues (body_loop l.levels) end l.tokens l.rest l.stmts;
  shorter : length l.rest ≤ length l.tokens;
}

abbrev pub decreases-body-each : goal.decreases-body-each
decreases-body-each l = length l.rest
