-- With the nodes of the statements that are left, all nodes are there; and after the statements that are left comes
-- what comes after all of them. A statement is at most as large as the list that it stands in.
use Rattle.qs_dot.proofs.Common.{◌≡◌, ◌+◌, ◌*◌, ◌++◌, drop, single, size_of, stmts_of, anchor_count, statement_nodes}
use Rattle.qs_dot.proofs.node_lines.nodes.+put.Given as goal

abbrev pub decreases-put_body : goal.decreases-put_body
decreases-put_body l = 2 * size_of l.body.now + 1

abbrev pub decreases-put_stmt : goal.decreases-put_stmt
decreases-put_stmt l = 2 * size_of (single l.stmt.now)

abbrev pub invariant-put_body-loop-stmt : goal.invariant-put_body-loop-stmt
invariant-put_body-loop-stmt l = record {
  nodes : l.out.items ++ statement_nodes l.rest (stmts_of (drop l.stmt-index l.stmt-items))
      ≡ l.initial.out.items ++ statement_nodes l.entries (stmts_of l.stmt-items);
  after : drop (anchor_count (stmts_of (drop l.stmt-index l.stmt-items))) l.rest ≡ drop (anchor_count (stmts_of l.stmt-items)) l.entries;
}
