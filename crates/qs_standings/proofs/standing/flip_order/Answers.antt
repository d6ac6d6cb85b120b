use Rattle.std.proofs.Common.{arith}
use Rattle.qs_standings.proofs.Flips.{flipped_all}
use Rattle.qs_standings.proofs.standing.flip_order.Goals as goal

pub returns : goal.returns
returns c = record {
  flipped = flipped_all c.args.one c.args.other c.loop-place.order c.args.order.now c.loop-place.invariant.long
      (λ i less. c.loop-place.invariant.done i
      (let past = c.loop-place-test.false in let end = c.loop-place.auto.place-end in let long = c.loop-place.invariant.long in omega (arith, less, past, end, long)));
}
