use Rattle.qs_dot.proofs.Common.{◌≡◌, ◌∙◌, ap, drop, sym, IfOk-weaker, single, size_at, anchor_count, rules}
use Rattle.qs_dot.proofs.node_lines.Counts.{after_more, after_repeat}
use Rattle.qs_dot.proofs.node_lines.StatementNodes.{nodes_more}
use Rattle.qs_dot.proofs.node_lines.nodes.+put.Goals as goal

pub put_body-put_stmt-requires : goal.put_body-put_stmt-requires
put_body-put_stmt-requires t c = search (rules, size_at)

pub put_body-loop-stmt-preserved : goal.put_body-loop-stmt-preserved
put_body-loop-stmt-preserved t c =
    let stmts = c.as_slice-stmt-items.result.now in
    record {
      nodes = nodes_more stmts c.loop-stmt.stmt-index c.stmt-item.result c.loop-stmt.rest.now c.in_ok-rest.rest.now c.loop-stmt.out.items
          c.put_stmt.new.out.items _ c.loop-stmt.invariant.nodes c.loop-stmt-test.true c.stmt-item.is c.in_ok-rest.ensures.added c.in_ok-rest.ensures.rest;
      after = after_more stmts c.loop-stmt.stmt-index c.stmt-item.result c.loop-stmt.rest.now c.in_ok-rest.rest.now _
          c.loop-stmt.invariant.after c.loop-stmt-test.true c.stmt-item.is c.in_ok-rest.ensures.rest;
    }

pub put_stmt-returns-in_ok-put_first-in-Repeat-clause-rest : goal.put_stmt-returns-in_ok-put_first-in-Repeat-clause-rest
put_stmt-returns-in_ok-put_first-in-Repeat-clause-rest t c =
    IfOk-weaker c.put_body-in-Repeat.result
    (λ rest. rest.now ≡ drop (anchor_count c.in-Repeat.body) c.skip-in-Repeat.result.now)
    (λ rest. rest.now ≡ drop (anchor_count (single c.args.stmt.now)) c.args.entries.now)
    (λ rest h. h ∙ ap (λ es. drop (anchor_count c.in-Repeat.body) es) c.skip-in-Repeat.ensures.rest
    ∙ after_repeat c.in-Repeat.field-0 c.in-Repeat.body c.args.entries.now
    ∙ ap (λ s. drop (anchor_count (single s)) c.args.entries.now) (sym c.in-Repeat.is))
    c.put_body-in-Repeat.ensures.rest
