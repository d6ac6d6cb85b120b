use Rattle.std.proofs.Common.{◌≡◌, ◌+◌, ◌^◌, ◌<◌, [], ◌∷◌, ◌++◌, vec_len, length, length-append, drop, sym, ◌∙◌, ap, arith}
use Rattle.qs_program.specs.Views.{statements_of, single}
use Rattle.qs_graph.specs.declared.node.Node.TheVariants.{Branch}
use Rattle.qs_graph.specs.declared.node.Choice.TheVariants.{If}
use Rattle.qs_graph.specs.audit.Nodes.{to_either}
use Rattle.qs_graph.specs.audit.Graphs.{node_count, first_node, places_of}
use Rattle.qs_graph.proofs.Counting.{count_at, count_drop, after_more, after_last, goes_on, longer, if_done}
use Rattle.qs_graph.proofs.build.+add.Goals as goal
use Rattle.qs_graph.proofs.build.+add.Goals.{add_body-then-i-stmts, add_body-else-i-stmts}

pub add_body-add_stmt-requires : goal.add_body-add_stmt-requires
add_body-add_stmt-requires t c =
    let stmts = c.as_slice-stmts.result.now in
    let item = c.index-stmts-i.result in
    let split = count_drop stmts c.loop-i.i item c.loop-i-test.true in
    let same = ap (λ s. node_count (single s)) c.index-stmts-i.is in
    let body = ap node_count c.as_slice-stmts.ensures.value in (
      omega (arith, count_at stmts c.loop-i.i item c.loop-i-test.true, same, body, c.decreases),
      omega (arith, split, same, body, c.loop-i.invariant.long, c.loop-i.invariant.room, c.requires.room),
    )

pub add_body-loop-i-preserved : goal.add_body-loop-i-preserved
add_body-loop-i-preserved t c =
    let stmts = c.as_slice-stmts.result.now in
    let now = c.loop-i.places.items in
    let item = c.index-stmts-i.result in
    let long : vec_len c.loop-i.places ≡ length now = omega (arith, c.loop-i.places.ok.0) in
    let at_rest = length now + node_count (single item) in
    let split = count_drop stmts c.loop-i.i item c.loop-i-test.true in
    let same = ap (λ s. node_count (single s)) c.index-stmts-i.is in
    let body = ap node_count c.as_slice-stmts.ensures.value in
    let fits : at_rest < 2 ^ 63 =
    omega (arith, split, same, body, c.loop-i.invariant.long, c.loop-i.invariant.room, c.requires.room, c.loop-i.places.small) in
    let after_is : c.if-i-stmts.after ≡ first_node at_rest c.args.next (statements_of (drop (c.loop-i.i + 1) stmts)) =
    elim c.if-i-stmts.branch [
      | add_body-then-i-stmts w ↦
          let there : w.len.result + w.nodes_of_stmt.result ≡ at_rest =
          omega (arith, w.len.ensures, long, w.nodes_of_stmt.ensures.capped, fits) in
          w.after-is ∙ there ∙ sym (after_more stmts c.loop-i.i at_rest c.args.next w.if-i-stmts.true)
      | add_body-else-i-stmts w ↦ w.after-is ∙ sym (after_last stmts c.loop-i.i at_rest c.args.next w.if-i-stmts.false)
    ] in
    let m = goes_on stmts now c.loop-i.i c.args.next c.args.out _ _ c.loop-i.invariant.long c.loop-i.invariant.added
    c.add_stmt.new.places.items c.if-i-stmts.after item c.loop-i-test.true c.index-stmts-i.is after_is c.in_ok-add_stmt.ensures.added in
    record { long = m.long; added = m.added; room = c.in_ok-add_stmt.ensures.room ∙ c.loop-i.invariant.room }

pub add_stmt-add_body-requires-in-If : goal.add_stmt-add_body-requires-in-If
add_stmt-add_body-requires-in-If t c =
    let count = ap (λ s. node_count (single s)) c.in-If.is in
    let one = longer c.add_branch.new.places.items _ c.args.next c.args.out c.in-If.first c.in_ok-add_body-in-If.ensures.added in (
      omega (arith, c.decreases, count),
      omega (
        arith,
        one,
        count,
        ap length c.add_branch.ensures.added,
        length-append c.args.places.now.items ((to_either (Branch (If c.in-If.test)) c.first_node-inside.result c.first_node-otherwise.result) ∷ []),
        c.in_ok-add_body-in-If.ensures.room,
        c.add_branch.ensures.room,
        c.requires.room,
      ),
    )

pub add_stmt-returns-in_ok-add_body-in-If-2-clause-added : goal.add_stmt-returns-in_ok-add_body-in-If-2-clause-added
add_stmt-returns-in_ok-add_body-in-If-2-clause-added t c =
    let at = length c.args.places.now.items in
    let first = c.in-If.first in
    let other = c.in-If.other in
    let long : c.len-at.result ≡ at = omega (arith, c.len-at.ensures, c.args.places.now.ok.0) in
    let fits : node_count first < 2 ^ 63 =
    omega (arith, ap (λ s. node_count (single s)) c.in-If.is, c.requires.room, c.args.places.now.small) in
    let at_other : c.len-at.result + 1 + c.nodes_of.result ≡ at + 1 + node_count first =
    omega (arith, long, c.nodes_of.ensures.capped, fits) in
    let first_is : c.first_node-inside.result ≡ first_node (at + 1) c.args.next first =
    c.first_node-inside.ensures.value ∙ ap (λ n. first_node (n + 1) c.args.next first) long in
    let other_is : c.first_node-otherwise.result ≡ first_node (at + 1 + node_count first) c.args.next other =
    c.first_node-otherwise.ensures.value ∙ ap (λ n. first_node n c.args.next other) at_other in
    let made = to_either (Branch (If c.in-If.test)) c.first_node-inside.result c.first_node-otherwise.result in
    let branch : made ≡ to_either (Branch (If c.in-If.test)) (first_node (at + 1) c.args.next first)
    (first_node (at + 1 + node_count first) c.args.next other) =
    (λ i. to_either (Branch (If c.in-If.test)) (first_is i) (other_is i)) in
    if_done c.args.places.now.items _ _ _ _ c.in-If.test c.in-If.has_else first other c.args.next c.args.out c.add_branch.ensures.added
    c.in_ok-add_body-in-If.ensures.added c.in_ok-add_body-in-If-2.ensures.added branch
    ∙ ap (λ s. c.args.places.now.items ++ places_of at c.args.next c.args.out (single s)) (sym c.in-If.is)
