use Rattle.std.proofs.Common.{ap, arith, ◌∙◌, sym}
use Rattle.qs_program.specs.audit.Binding.{bound_statements}
use Rattle.qs_program.specs.Sound.{levels_of}
use Rattle.qs_program.specs.Views.{single, size_of}
use Rattle.qs_program.proofs.StatementLists.{size_at}
use Rattle.qs_check.proofs.binding.Binds.{goes_on, all_done, levels_at}
use Rattle.qs_check.proofs.binding.BoundTexts.{levels_bound}
use Rattle.qs_check.proofs.binding.bind.+bind.Goals as goal

pub bind_body-bind_stmt-requires : goal.bind_body-bind_stmt-requires
bind_body-bind_stmt-requires t c = (
  omega (arith, size_at c.as_slice-stmt-items.result.now c.loop-stmt.stmt-index c.stmt-item.result c.loop-stmt-test.true, ap size_of c.as_slice-stmt-items.ensures.value, ap (λ s. size_of (single s)) c.stmt-item.is, c.decreases),
  omega (arith, levels_at c.as_slice-stmt-items.result.now c.loop-stmt.stmt-index c.stmt-item.result c.loop-stmt-test.true, ap levels_of c.as_slice-stmt-items.ensures.value, ap (λ s. levels_of (single s)) c.stmt-item.is, c.requires.levels),
)

pub bind_body-push-requires : goal.bind_body-push-requires
bind_body-push-requires t c = record {
  shallow =
      omega (
        arith,
        ap levels_of c.in_ok-bind_stmt.ensures.stmt,
        levels_bound c.args.binding.now (single c.stmt-item.result),
        levels_at c.as_slice-stmt-items.result.now c.loop-stmt.stmt-index c.stmt-item.result c.loop-stmt-test.true,
        ap levels_of c.as_slice-stmt-items.ensures.value,
        ap (λ s. levels_of (single s)) c.stmt-item.is,
        c.requires.levels,
      );
}

pub bind_body-loop-stmt-preserved : goal.bind_body-loop-stmt-preserved
bind_body-loop-stmt-preserved t c =
    goes_on c.args.binding.now c.as_slice-stmt-items.result.now c.loop-stmt.stmt-index c.loop-stmt.code c.loop-stmt.invariant c.stmt-item.result c.push.new.self c.in_ok-bind_stmt.field-0 c.loop-stmt-test.true c.stmt-item.is c.in_ok-bind_stmt.ensures.stmt c.in_ok-push.ensures.ok

pub bind_body-returns : goal.bind_body-returns
bind_body-returns t c = record {
  body =
      all_done c.args.binding.now c.as_slice-stmt-items.result.now c.loop-stmt.stmt-index c.loop-stmt.code c.loop-stmt.invariant c.loop-stmt-test.false
      ∙ ap (bound_statements c.args.binding.now) (sym c.as_slice-stmt-items.ensures.value);
}
