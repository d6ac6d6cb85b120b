use Rattle.std.proofs.Common.{ap, arith, ◌∙◌, sym}
use Rattle.qs_script.specs.tree.Form as form
use Rattle.qs_script.specs.tree.Views as views
use Rattle.qs_script.proofs.tree.Sizes.{size_at}
use Rattle.qs_check.specs.audit.resolution.Resolve.{body_of}
use Rattle.qs_program.specs.Sound.{levels_of}
use Rattle.qs_check.proofs.resolution.Resolving.{goes_on, all_done, levels_at, levels_same}
use Rattle.qs_check.proofs.resolution.resolve.+resolve.Goals as goal

pub resolve_body-resolve_stmt-requires : goal.resolve_body-resolve_stmt-requires
resolve_body-resolve_stmt-requires t c = (
  omega (arith, size_at c.as_slice-stmts.result.now c.loop-stmt.stmt-index c.stmt-item.result c.loop-stmt-test.true, ap views.size_of c.as_slice-stmts.ensures.same, ap (λ s. views.size_of (views.single s)) c.stmt-item.is, c.decreases),
  omega (arith, levels_at c.as_slice-stmts.result.now c.loop-stmt.stmt-index c.stmt-item.result c.loop-stmt-test.true, ap form.levels_of c.as_slice-stmts.ensures.same, ap (λ s. form.levels_of (views.single s)) c.stmt-item.is, c.requires.levels),
)

pub resolve_body-loop-stmt-preserved : goal.resolve_body-loop-stmt-preserved
resolve_body-loop-stmt-preserved t c =
    goes_on c.args.numbering.now.objects.now c.args.numbering.now.kinds.now c.args.numbering.now.variables.now c.as_slice-stmts.result.now c.loop-stmt.stmt-index c.loop-stmt.code c.loop-stmt.invariant c.stmt-item.result c.resolve_stmt.new.code c.loop-stmt-test.true c.stmt-item.is c.in_ok-resolve_stmt.ensures.added

pub resolve_body-returns : goal.resolve_body-returns
resolve_body-returns t c = record {
  body =
      all_done c.args.numbering.now.objects.now c.args.numbering.now.kinds.now c.args.numbering.now.variables.now c.as_slice-stmts.result.now c.loop-stmt.stmt-index c.loop-stmt.code c.loop-stmt.invariant c.loop-stmt-test.false
      ∙ ap (body_of c.args.numbering.now.objects.now c.args.numbering.now.kinds.now c.args.numbering.now.variables.now) (sym c.as_slice-stmts.ensures.same);
}

pub resolve_stmt-add_if-requires : goal.resolve_stmt-add_if-requires
resolve_stmt-add_if-requires t c = (
  omega (arith, ap (λ s. views.size_of (views.single s)) c.in-If.is, c.decreases),
  omega (arith, ap (λ s. form.levels_of (views.single s)) c.in-If.is, c.requires.levels),
)

pub resolve_stmt-add_if_else-requires : goal.resolve_stmt-add_if_else-requires
resolve_stmt-add_if_else-requires t c =
    let levels = ap (λ s. form.levels_of (views.single s)) c.in-IfElse.is in (
      omega (arith, ap (λ s. views.size_of (views.single s)) c.in-IfElse.is, c.decreases),
      (omega (arith, levels, c.requires.levels), omega (arith, levels, c.requires.levels)),
    )

pub resolve_stmt-add_repeat-requires : goal.resolve_stmt-add_repeat-requires
resolve_stmt-add_repeat-requires t c = (
  omega (arith, ap (λ s. views.size_of (views.single s)) c.in-Repeat.is, c.decreases),
  omega (arith, ap (λ s. form.levels_of (views.single s)) c.in-Repeat.is, c.requires.levels),
)

pub add_if-add_choice-requires-clause-levels : goal.add_if-add_choice-requires-clause-levels
add_if-add_choice-requires-clause-levels t c =
    omega (arith, ap levels_of c.in_ok-first.ensures.body, levels_same c.args.numbering.now.objects.now c.args.numbering.now.kinds.now c.args.numbering.now.variables.now c.args.first.now, ap levels_of c.new.ensures.empty, c.requires.levels)

pub add_if_else-add_choice-requires-clause-levels :
    goal.add_if_else-add_choice-requires-clause-levels
add_if_else-add_choice-requires-clause-levels t c =
    omega (arith, ap levels_of c.in_ok-first.ensures.body, levels_same c.args.numbering.now.objects.now c.args.numbering.now.kinds.now c.args.numbering.now.variables.now c.args.first.now, ap levels_of c.in_ok-other.ensures.body, levels_same c.args.numbering.now.objects.now c.args.numbering.now.kinds.now c.args.numbering.now.variables.now c.args.other.now, c.requires.first_levels, c.requires.other_levels)

pub add_repeat-add_turns-requires : goal.add_repeat-add_turns-requires
add_repeat-add_turns-requires t c = record {
  levels =
      omega (arith, ap levels_of c.in_ok-body.ensures.body, levels_same c.args.numbering.now.objects.now c.args.numbering.now.kinds.now c.args.numbering.now.variables.now c.args.body.now, c.requires.levels);
}
