use Rattle.std.proofs.Common.{◌≡◌, ◌∙◌, arith, rules, get_or, pos, ℤ, FitsSigned, w64}
use Rattle.std.proofs.lemmas.Int.{ints, to_z-of_z}
use Rattle.qs_objects.proofs.Sums.{exact_sum_drop}
use Rattle.qs_objects.proofs.grid.clamped_sum.Goals as goal

pub loop-value-preserved : goal.loop-value-preserved
loop-value-preserved c =
    let value : ℤ = get_or c.args.values.now c.loop-value.value-index (pos 0) in
    let fits : FitsSigned w64 value = search rules in
    let same : c.from-sum.result ≡ value = c.from-sum.ensures ∙ to_z-of_z w64 value fits in
    let parts = exact_sum_drop c.args.values.now c.loop-value.value-index (omega arith) in
    record { whole = omega (arith, ints); above = omega (arith, ints); below = omega (arith, ints) }
