use Rattle.std.proofs.Common.{ap, arith, ◌∙◌, sym}
use Rattle.qs_program.specs.Views.{single, size_of}
use Rattle.qs_program.proofs.StatementLists.{size_at}
use Rattle.qs_messages.specs.Doings.{does}
use Rattle.qs_messages.proofs.Does.{found, none, passed}
use Rattle.qs_messages.proofs.warned.doings.+does.Goals as goal

pub body_does-stmt_does-requires : goal.body_does-stmt_does-requires
body_does-stmt_does-requires t c = (
  omega (arith, size_at c.as_slice-stmt-items.result.now c.loop-stmt.stmt-index c.stmt-item.result c.loop-stmt-test.true, ap size_of c.as_slice-stmt-items.ensures.value, ap (λ s. size_of (single s)) c.stmt-item.is, c.decreases),
  tt,
)

pub body_does-loop-stmt-preserved : goal.body_does-loop-stmt-preserved
body_does-loop-stmt-preserved t c =
    passed c.args.doing c.as_slice-stmt-items.result.now c.loop-stmt.stmt-index c.stmt-item.result c.loop-stmt-test.true c.stmt-item.is c.loop-stmt.invariant
    (sym c.stmt_does.ensures.exact ∙ c.if-stmt_does.false)

pub body_does-returns-then-stmt_does : goal.body_does-returns-then-stmt_does
body_does-returns-then-stmt_does t c = record {
  exact =
      found c.args.doing c.as_slice-stmt-items.result.now c.loop-stmt.stmt-index c.stmt-item.result c.loop-stmt-test.true c.stmt-item.is c.loop-stmt.invariant
      (sym c.stmt_does.ensures.exact ∙ c.if-stmt_does.true)
      ∙ ap (does c.args.doing) (sym c.as_slice-stmt-items.ensures.value);
}

pub body_does-returns : goal.body_does-returns
body_does-returns t c = record {
  exact =
      none c.args.doing c.as_slice-stmt-items.result.now c.loop-stmt.stmt-index c.loop-stmt-test.false c.loop-stmt.invariant
      ∙ ap (does c.args.doing) (sym c.as_slice-stmt-items.ensures.value);
}
