use Rattle.std.proofs.Common.{◌≡◌, ◌+◌, ◌*◌, drop}
use Rattle.qs_script.specs.tree.Views.{single, size_of, stmts_of}
use Rattle.qs_check.specs.audit.fault_places.Places.{scope_or_fault, places}
use Rattle.qs_check.proofs.fault_places.walk.+check.Given as goal

abbrev pub decreases-check_body : goal.decreases-check_body
decreases-check_body l = 2 * size_of l.body.now + 1

abbrev pub decreases-check_stmt : goal.decreases-check_stmt
decreases-check_stmt l = 2 * size_of (single l.stmt.now)

abbrev pub invariant-check_body-loop-stmt : goal.invariant-check_body-loop-stmt
invariant-check_body-loop-stmt l =
    scope_or_fault l.initial.scope (places l.inside (stmts_of l.stmt-items)) ≡ scope_or_fault l.scope (places l.inside (stmts_of (drop l.stmt-index l.stmt-items)))
