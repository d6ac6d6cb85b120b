-- After the statements that are left comes what comes after all of them. A statement is at most as large as the list
-- that it stands in.
use Rattle.qs_dot.proofs.Common.{◌≡◌, ◌+◌, ◌*◌, drop, single, size_of, stmts_of, anchor_count}
use Rattle.qs_dot.proofs.node_lines.skipping.+skipped.Given as goal

abbrev pub decreases-skip_body : goal.decreases-skip_body
decreases-skip_body l = 2 * size_of l.body.now + 1

abbrev pub decreases-skip_stmt : goal.decreases-skip_stmt
decreases-skip_stmt l = 2 * size_of (single l.stmt.now)

abbrev pub invariant-skip_body-loop-stmt : goal.invariant-skip_body-loop-stmt
invariant-skip_body-loop-stmt l =
    drop (anchor_count (stmts_of (drop l.stmt-index l.stmt-items))) l.rest ≡ drop (anchor_count (stmts_of l.stmt-items)) l.entries
