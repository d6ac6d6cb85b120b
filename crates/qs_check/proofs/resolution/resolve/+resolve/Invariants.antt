use Rattle.std.proofs.Common.{◌≡◌, ◌+◌, ◌*◌, drop}
use Rattle.qs_script.specs.tree.Views as views
use Rattle.qs_program.specs.Statements.{join_statements}
use Rattle.qs_check.specs.audit.resolution.Resolve.{body_of}
use Rattle.qs_check.proofs.resolution.resolve.+resolve.Given as goal

abbrev pub decreases-resolve_body : goal.decreases-resolve_body
decreases-resolve_body l = 3 * views.size_of l.body.now + 2

abbrev pub decreases-resolve_stmt : goal.decreases-resolve_stmt
decreases-resolve_stmt l = 3 * views.size_of (views.single l.stmt.now) + 1

abbrev pub decreases-add_if : goal.decreases-add_if
decreases-add_if l = 3 * views.size_of l.first.now + 3

abbrev pub decreases-add_if_else : goal.decreases-add_if_else
decreases-add_if_else l = 3 * (views.size_of l.first.now + views.size_of l.other.now) + 3

abbrev pub decreases-add_repeat : goal.decreases-add_repeat
decreases-add_repeat l = 3 * views.size_of l.body.now + 3

abbrev pub invariant-resolve_body-loop-stmt : goal.invariant-resolve_body-loop-stmt
invariant-resolve_body-loop-stmt l =
    body_of l.numbering.objects.now l.numbering.kinds.now l.numbering.variables.now (views.stmts_of l.stmts)
    ≡ join_statements l.code (body_of l.numbering.objects.now l.numbering.kinds.now l.numbering.variables.now (views.stmts_of (drop l.stmt-index l.stmts)))
