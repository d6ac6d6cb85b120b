use Rattle.std.proofs.Common.{ap, arith}
use Rattle.qs_program.specs.Views.{single, size_of}
use Rattle.qs_program.proofs.StatementLists.{size_at}
use Rattle.qs_messages.proofs.limit_use.extents.+levels.Goals as goal

pub body_levels-stmt_levels-requires : goal.body_levels-stmt_levels-requires
body_levels-stmt_levels-requires t c = (
  omega (arith, size_at c.as_slice-stmt-items.result.now c.loop-stmt.stmt-index c.stmt-item.result c.loop-stmt-test.true, ap size_of c.as_slice-stmt-items.ensures.value, ap (λ s. size_of (single s)) c.stmt-item.is, c.decreases),
  tt,
)
