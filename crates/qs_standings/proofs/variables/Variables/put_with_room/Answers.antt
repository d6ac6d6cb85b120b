use Rattle.std.proofs.Common.{◌*◌, ◌++◌, ap, arith, length, ◌∙◌}
use Rattle.qs_standings.specs.Variables.{spread}
use Rattle.qs_standings.proofs.Spread.{all_are}
use Rattle.qs_standings.proofs.variables.Variables.put_with_room.Goals as goal

pub returns-then-is_zero_from-clause-long : goal.returns-then-is_zero_from-clause-long
returns-then-is_zero_from-clause-long c =
    let n = ap (λ n. n * c.self.inside.width) (all_are c.self.inside.width c.self.inside.clients c.self.inside.numbers.items c.args.self.now c.self.view_is) in
    let same = ap length (c.in_ok-extend_from_slice.ensures.items ∙ (λ i. c.clear.ensures.items i ++ c.as_slice.ensures.value i)) in
    omega (arith, n, c.self.invariant.all, same)

pub returns-then-is_zero_from-clause-same : goal.returns-then-is_zero_from-clause-same
returns-then-is_zero_from-clause-same c =
    let n = all_are c.self.inside.width c.self.inside.clients c.self.inside.numbers.items c.args.self.now c.self.view_is in
    let same = c.in_ok-extend_from_slice.ensures.items ∙ (λ i. c.clear.ensures.items i ++ c.as_slice.ensures.value i) in
    (λ i. spread c.self.inside.width (n i) (same i)) ∙ c.self.view_is
