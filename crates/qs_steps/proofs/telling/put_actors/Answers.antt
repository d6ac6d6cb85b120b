use Rattle.std.proofs.Common.{◌≡◌, ◌+◌, arith, length, subst, sym, take}
use Rattle.qs_steps.proofs.Names.{AreTold, length-take-le, take_more}
use Rattle.qs_steps.proofs.TellingRuns.{one_more_told}
use Rattle.qs_steps.proofs.telling.put_actors.Goals as goal

pub loop-actor-preserved : goal.loop-actor-preserved
loop-actor-preserved g c =
    let v = g.M.Machine.view in
    let p = c.args.program.now in
    let asked = c.args.asked in
    let actors = c.args.actors.now in
    let i = c.loop-actor.actor-index in
    let it = c.in_ok-_stepped in
    let number : c.loop-actor.number + 1 ≡ (1 + asked.before) + length (take i actors) = omega (arith, c.loop-actor.invariant.number, c.loop-actor-test.true, length-take-le i actors (omega (arith, c.loop-actor-test.true))) in
    record {
      number = omega (arith, c.loop-actor.invariant.number);
      told = subst (λ xs. AreTold v asked.form p asked.is_pick (1 + asked.before) xs c.args.out.now.items c.args.machine.now c.put_step.new.out.items c.put_step.new.self) (sym (take_more actors i _ c.loop-actor-test.true))
          (one_more_told v asked.form p asked.is_pick (1 + asked.before) (c.loop-actor.number + 1) (take i actors) _ _ _ _ _ _ _ _ c.loop-actor.invariant.told it.ensures.asked it.ensures.line number);
    }
