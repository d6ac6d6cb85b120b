use Rattle.std.proofs.Common.{◌≡◌, ◌≤◌, ◌<◌, ◌+◌, ◌*◌, length, get_or, drop, ap, arith, sym, subst}
use Rattle.qs_outcomes.specs.estimate.Estimates.{capped, insertions, most_from, most_orders}
use Rattle.qs_outcomes.proofs.estimate.Rows.{most_done, most_on}
use Rattle.qs_outcomes.proofs.estimate.ways.most_orders.Goals as goal

pub loop-blocks-preserved : goal.loop-blocks-preserved
loop-blocks-preserved c =
    let left = c.args.left.now in
    let i = c.loop-blocks.blocks-index in
    let most = c.loop-blocks.most in
    let others = c.loop-blocks.others in
    let here : c.from-others.result ≡ get_or left i 0 = c.from-others.ensures in
    let few : get_or left i 0 ≤ 64 = c.requires.left.blocks i in
    let ways : c.insertions.result ≡ capped (insertions (get_or left i 0) others) = c.insertions.ensures.ways in
    let next : c.min-most.result ≡ capped (most * capped (insertions (get_or left i 0) others)) =
    (let m = c.min-most.ensures in let s = c.saturating_mul.ensures in let p : most * c.insertions.result ≡ most * capped (insertions (get_or left i 0) others) = ap (λ n. most * n) ways in omega (arith, m, s, p)) in
    record {
      product = subst (λ n. capped (c.min-most.result * most_from (others + n) (drop (i + 1) left)) ≡ capped (most_orders left)) (sym here)
          (most_on left i most others c.min-most.result (let l : i < length left = omega arith in l) next c.loop-blocks.invariant.product);
      small = (let m = c.min-most.ensures in omega (arith, m));
      few = (let so_far = c.loop-blocks.invariant.few in omega (arith, here, few, so_far));
    }

pub returns : goal.returns
returns c = record { most = most_done c.args.left.now c.loop-blocks.blocks-index c.loop-blocks.most c.loop-blocks.others c.loop-blocks-test.false c.loop-blocks.invariant.small c.loop-blocks.invariant.product }
