use Rattle.std.proofs.Common.{◌-◌, arith, drop, sym, take, ◌∙◌}
use Rattle.std.specs.Cmp.Rules.{signed_items}
use Rattle.qs_standings.proofs.Common.{most_variables, zeros}
use Rattle.qs_standings.proofs.Spread.{rest_zeros}
use Rattle.qs_standings.proofs.variables.is_zero_from.Goals as goal

pub returns : goal.returns
returns c =
    let n = most_variables - c.args.place in
    let same = signed_items (take n (drop c.args.place c.args.values.now)) (take n (drop c.args.place zeros)) in
    record { rest = λ t. rest_zeros c.args.place n c.args.values.now c.told-values (omega arith) (same.0 (sym c.eq.ensures ∙ t)) }
