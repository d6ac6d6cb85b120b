use Rattle.std.proofs.Common.{◌≡◌, ◌+◌, ◌*◌, drop}
use Rattle.qs_program.specs.audit.Binding.{bound_statements}
use Rattle.qs_program.specs.Statements.{join_statements}
use Rattle.qs_program.specs.Views.{single, size_of, statements_of}
use Rattle.qs_check.proofs.binding.bind.+bind.Given as goal

abbrev pub decreases-bind_body : goal.decreases-bind_body
decreases-bind_body l = 2 * size_of l.body.now + 1

abbrev pub decreases-bind_stmt : goal.decreases-bind_stmt
decreases-bind_stmt l = 2 * size_of (single l.stmt.now)

abbrev pub invariant-bind_body-loop-stmt : goal.invariant-bind_body-loop-stmt
invariant-bind_body-loop-stmt l =
    bound_statements l.binding (statements_of l.stmt-items) ≡ join_statements l.code (bound_statements l.binding (statements_of (drop l.stmt-index l.stmt-items)))
