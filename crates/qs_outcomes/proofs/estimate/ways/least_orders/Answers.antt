use Rattle.std.proofs.Common.{◌≡◌, ◌≤◌, ◌<◌, ◌+◌, ◌*◌, length, get_or, ap, arith}
use Rattle.qs_outcomes.proofs.estimate.Rows.{least_fits, least_on, least_small}
use Rattle.qs_outcomes.proofs.estimate.ways.least_orders.Goals as goal

pub overflow_mul-least : goal.overflow_mul-least
overflow_mul-least c =
    let left = c.args.left.now in
    let i = c.loop-blocks.blocks-index in
    let here : c.from.result ≡ get_or left i 0 = c.from.ensures in
    let few : get_or left i 0 ≤ 64 = c.requires.left.blocks i in
    let small = least_small i c.loop-blocks.least c.from.result c.loop-blocks.invariant.small (omega (arith, here, few)) in
    let fits = least_fits i (length left) (let l : i < length left = omega arith in l) c.requires.left.clients in
    omega (arith, small, fits)

pub loop-blocks-preserved : goal.loop-blocks-preserved
loop-blocks-preserved c =
    let left = c.args.left.now in
    let i = c.loop-blocks.blocks-index in
    let here : c.from.result ≡ get_or left i 0 = c.from.ensures in
    let few : get_or left i 0 ≤ 64 = c.requires.left.blocks i in
    record {
      product = least_on left i c.loop-blocks.least (c.loop-blocks.least * (c.from.result + 1)) (let l : i < length left = omega arith in l) (ap (λ n. c.loop-blocks.least * (n + 1)) here) c.loop-blocks.invariant.product;
      small = least_small i c.loop-blocks.least c.from.result c.loop-blocks.invariant.small (omega (arith, here, few));
    }
