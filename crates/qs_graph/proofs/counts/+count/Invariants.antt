use Rattle.std.proofs.Common.{◌≡◌, ◌+◌, ◌-◌, ◌*◌, ◌^◌, ◌≤◌, min, drop}
use Rattle.qs_program.specs.Views.{statements_of, single}
use Rattle.qs_graph.specs.audit.Graphs.{node_count}
use Rattle.qs_graph.proofs.counts.+count.Given as goal

abbrev pub decreases-nodes_of : goal.decreases-nodes_of
decreases-nodes_of l = 2 * node_count l.body.now + 1

abbrev pub decreases-nodes_of_stmt : goal.decreases-nodes_of_stmt
decreases-nodes_of_stmt l = 2 * node_count (single l.stmt.now)

abbrev pub invariant-nodes_of-loop-stmt : goal.invariant-nodes_of-loop-stmt
invariant-nodes_of-loop-stmt l = record {
  small : l.count ≤ 2 ^ 64 - 1;
  whole : min (l.count + node_count (statements_of (drop l.stmt-index l.stmt-items))) (2 ^ 64 - 1)
      ≡ min (node_count (statements_of l.stmt-items)) (2 ^ 64 - 1);
}
