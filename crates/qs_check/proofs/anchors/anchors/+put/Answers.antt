use Rattle.std.proofs.Common.{ap, arith}
use Rattle.qs_script.specs.tree.Views.{single, size_of}
use Rattle.qs_script.proofs.tree.Sizes.{size_at}
use Rattle.qs_check.proofs.anchors.Statements.{goes_on}
use Rattle.qs_check.proofs.anchors.anchors.+put.Goals as goal

pub put_body-put_stmt-requires : goal.put_body-put_stmt-requires
put_body-put_stmt-requires t c =
    (omega (arith, size_at c.as_slice-stmt-items.result.now c.loop-stmt.stmt-index c.stmt-item.result c.loop-stmt-test.true, ap size_of c.as_slice-stmt-items.ensures.same, ap (λ s. size_of (single s)) c.stmt-item.is, c.decreases), tt)

pub put_body-loop-stmt-preserved : goal.put_body-loop-stmt-preserved
put_body-loop-stmt-preserved t c =
    goes_on c.args.inside c.as_slice-stmt-items.result.now c.loop-stmt.stmt-index c.stmt-item.result c.loop-stmt.out.items
    c.put_stmt.new.out.items _ c.loop-stmt.invariant c.loop-stmt-test.true c.stmt-item.is c.in_ok-put_stmt.ensures.added
