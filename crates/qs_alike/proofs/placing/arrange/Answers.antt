use Rattle.std.proofs.Common.{arith}
use Rattle.qs_standings.specs.Standings.{configuration_in}
use Rattle.qs_alike.specs.Texts.{classes_in}
use Rattle.qs_alike.proofs.Composing.{becomes_itself, becomes_then}
use Rattle.qs_alike.proofs.Exchanging.{all_below, nothing_below}
use Rattle.qs_alike.proofs.placing.arrange.Goals as goal

pub loop-place-init : goal.loop-place-init
loop-place-init c = record {
  standing = c.requires.standing;
  becomes = becomes_itself (classes_in c.args.classes.now) (configuration_in c.args.standing.now);
  below = nothing_below (classes_in c.args.classes.now) (configuration_in c.args.standing.now);
}

pub loop-place-preserved : goal.loop-place-preserved
loop-place-preserved c = record {
  standing = c.settle.ensures.standing;
  becomes = becomes_then (classes_in c.args.classes.now) (configuration_in c.args.standing.now) (configuration_in c.loop-place.standing) (configuration_in c.settle.new.standing)
      c.loop-place.invariant.becomes c.settle.ensures.becomes;
  below = c.settle.ensures.below;
}

pub returns-clause-placed : goal.returns-clause-placed
returns-clause-placed c = record {
  standing = c.loop-place.invariant.standing;
  arranged = all_below c.args.program.now (classes_in c.args.classes.now) c.requires.classes (configuration_in c.loop-place.standing) c.loop-place.place
      (let past = c.loop-place-test.false in let e = c.clients-place-end.ensures.value in omega (arith, past, e))
      c.loop-place.invariant.below;
}
