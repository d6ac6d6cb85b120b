use Rattle.std.proofs.Common.{◌≡◌, ◌+◌, ◌*◌, ◌++◌, length, drop, vec_capacity}
use Rattle.qs_program.specs.Views.{statements_of, single}
use Rattle.qs_graph.specs.audit.Graphs.{node_count, places_of}
use Rattle.qs_graph.proofs.build.+add.Given as goal

abbrev pub decreases-add_body : goal.decreases-add_body
decreases-add_body l = 2 * node_count l.body.now + 1

abbrev pub decreases-add_stmt : goal.decreases-add_stmt
decreases-add_stmt l = 2 * node_count (single l.stmt.now)

abbrev pub invariant-add_body-loop-i : goal.invariant-add_body-loop-i
invariant-add_body-loop-i l = record {
  long : length l.places.items + node_count (statements_of (drop l.i l.stmts))
      ≡ length l.initial.places.items + node_count (statements_of l.stmts);
  added : l.places.items ++ places_of (length l.places.items) l.next l.out (statements_of (drop l.i l.stmts))
      ≡ l.initial.places.items ++ places_of (length l.initial.places.items) l.next l.out (statements_of l.stmts);
  room : vec_capacity l.places ≡ vec_capacity l.initial.places;
}
