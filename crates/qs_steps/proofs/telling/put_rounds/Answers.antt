use Rattle.std.proofs.Common.{◌≡◌, ◌+◌, ◌-◌, false, ap, add-one, arith, subst, sym}
use Rattle.qs_steps.proofs.Names.{AreTold, actors_of, rounds_of}
use Rattle.qs_steps.proofs.TellingRuns.{more_told, number_after, rest_told}
use Rattle.qs_steps.proofs.telling.put_rounds.Goals as goal

pub returns-then-not-branch : goal.returns-then-not-branch
returns-then-not-branch g c =
    let v = g.M.Machine.view in
    let p = c.args.program.now in
    let i = c.loop-round.round in
    let it = c.in_ok-put_round in
    let number = number_after p c.args.picks i c.from.result c.clients.result c.objects.result c.from.ensures c.clients.ensures.value c.objects.ensures.value in
    let all : i + (c.args.rounds - i) ≡ c.args.rounds = omega (arith, c.loop-round-test.true) in
    record {
      told = subst (λ n. AreTold v c.args.form p false (c.args.picks + 1) (rounds_of n (actors_of p)) c.args.out.now.items c.args.machine.now c.put_round.new.out.items c.put_round.new.machine) all
          (rest_told v c.args.form p (c.args.picks + 1) _ i (c.args.rounds - i) _ _ _ _ _ _ c.loop-round.invariant it.ensures.told (it.ensures.still c.if-not-branch.true) number);
    }

pub loop-round-preserved : goal.loop-round-preserved
loop-round-preserved g c =
    let v = g.M.Machine.view in
    let p = c.args.program.now in
    let i = c.loop-round.round in
    let it = c.in_ok-put_round in
    let number = number_after p c.args.picks i c.from.result c.clients.result c.objects.result c.from.ensures c.clients.ensures.value c.objects.ensures.value in
    subst (λ xs. AreTold v c.args.form p false (c.args.picks + 1) xs c.args.out.now.items c.args.machine.now c.put_round.new.out.items c.put_round.new.machine) (sym (ap (λ n. rounds_of n (actors_of p)) (add-one i)))
    (more_told v c.args.form p false (c.args.picks + 1) _ (rounds_of i (actors_of p)) (actors_of p) _ _ _ _ _ _ c.loop-round.invariant it.ensures.told number)
