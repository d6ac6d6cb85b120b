use Rattle.std.proofs.Common.{arith, ap}
use Rattle.qs_program.specs.Views.{single}
use Rattle.qs_graph.specs.audit.Graphs.{node_count}
use Rattle.qs_graph.proofs.Counting.{count_at, count_past}
use Rattle.qs_graph.proofs.counts.+count.Goals as goal

pub nodes_of-nodes_of_stmt-requires : goal.nodes_of-nodes_of_stmt-requires
nodes_of-nodes_of_stmt-requires t c =
    let item = c.stmt-item.result in (
      omega (
        arith,
        c.decreases,
        count_at c.as_slice-stmt-items.result.now c.loop-stmt.stmt-index item c.loop-stmt-test.true,
        ap (λ s. node_count (single s)) c.stmt-item.is,
        ap node_count c.as_slice-stmt-items.ensures.value,
      ),
      tt,
    )

pub nodes_of-returns : goal.nodes_of-returns
nodes_of-returns t c =
    record {
      capped = omega (
        arith,
        c.loop-stmt.invariant.whole,
        count_past c.as_slice-stmt-items.result.now c.loop-stmt.stmt-index c.loop-stmt-test.false,
        ap node_count c.as_slice-stmt-items.ensures.value,
      );
    }
