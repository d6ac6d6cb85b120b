use Rattle.std.proofs.Common.{◌==◌, ◌-◌, ◌∙◌, count_by, length-set, arith}
use Rattle.qs_program.specs.audit.Program.{blocks_of}
use Rattle.qs_outcomes.proofs.estimate.BlocksLeft.{all_left_is, each_on}
use Rattle.qs_outcomes.proofs.estimate.estimate.all_left.Goals as goal

pub returns : goal.returns
returns c =
    let p = c.args.program.now in
    record {
      left = all_left_is p c.args.front.now c.loop-client.left c.keeps_sound.ensures.sound.clients c.loop-client.invariant.long
          (λ i less. c.loop-client.invariant.done i (let e = c.clients-client-end.ensures.value in let past = c.loop-client-test.false in omega (arith, less, e, past)));
    }

pub loop-client-preserved : goal.loop-client-preserved
loop-client-preserved c =
    let p = c.args.program.now in
    let xs = c.loop-client.left in
    record {
      long = length-set xs c.from.result c.blocks_left.result ∙ c.loop-client.invariant.long;
      done = each_on (λ i. blocks_of p i - count_by (λ c. c == i) c.args.front.now) xs c.loop-client.client c.from.result c.blocks_left.result c.from.ensures
          (let few = c.keeps_sound.ensures.sound.clients in let e = c.clients-client-end.ensures.value in let less = c.loop-client-test.true in let long = c.loop-client.invariant.long in
          omega (arith, few, e, less, long))
          c.blocks_left.ensures.left c.loop-client.invariant.done;
    }
