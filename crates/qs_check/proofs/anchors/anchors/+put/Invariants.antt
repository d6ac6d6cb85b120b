-- With the anchors of the statements that are left, all anchors are there. A statement is at most as large as the list
-- that it stands in.
use Rattle.std.proofs.Common.{◌≡◌, ◌+◌, ◌*◌, ◌++◌, drop}
use Rattle.qs_script.specs.tree.Views.{single, size_of, stmts_of}
use Rattle.qs_check.specs.anchors.Anchors.{anchors}
use Rattle.qs_check.proofs.anchors.anchors.+put.Given as goal

abbrev pub decreases-put_body : goal.decreases-put_body
decreases-put_body l = 2 * size_of l.body.now + 1

abbrev pub decreases-put_stmt : goal.decreases-put_stmt
decreases-put_stmt l = 2 * size_of (single l.stmt.now)

abbrev pub invariant-put_body-loop-stmt : goal.invariant-put_body-loop-stmt
invariant-put_body-loop-stmt l =
    l.out.items ++ anchors l.inside (stmts_of (drop l.stmt-index l.stmt-items)) ≡ l.initial.out.items ++ anchors l.inside (stmts_of l.stmt-items)
