use Rattle.std.proofs.Common.{◌<◌, length, get_or, cond, ap, ◌∙◌, arith, rules, ℤ, pos, ◌-ℤ◌, FitsSigned, to_z, w64}
use Rattle.std.specs.Int.{w128}
use Rattle.qs_questions.proofs.Common.{configuration_in, ints, outcome_in, to_z-of_z}
use Rattle.qs_questions.specs.Questions.{value_at}
use Rattle.qs_questions.proofs.Totals.{one_more}
use Rattle.qs_questions.proofs.values.sum_at.Goals as goal

pub loop-summand-preserved : goal.loop-summand-preserved
loop-summand-preserved c =
    let xs = c.args.sum.now in
    let i = c.loop-summand.summand-index in
    let same = c.as_slice-summand-items.ensures.same in
    let inside : i < length xs = omega (arith, ap length same) in
    let n : ℤ = c.in_ok-value.value in
    let fits : FitsSigned w64 n = search rules in
    let whole = one_more (value_at c.args.program.now (outcome_in (configuration_in c.args.standing.now))) xs i
    c.summand-item.result (to_z w128 c.loop-summand.total-bits) c.signed-total.result c.in_ok-value.value inside
    (c.summand-item.is ∙ ap (λ t. get_or t i c.summand-item.result) same) c.in_ok-value.ensures.value
    (c.signed-total.ensures.signed
    ∙ ap (λ (m : ℤ). cond c.summand-item.result.negative (pos 0 -ℤ m) m)
    (to_z-of_z w64 n fits)) c.loop-summand.invariant.whole in
    record { whole = omega (arith, ints); above = omega (arith, ints); below = omega (arith, ints) }
