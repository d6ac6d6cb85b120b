use Rattle.std.proofs.Common.{ℕ, ◌≡◌, ◌<◌, ◌≤◌, ◌+◌, ◌-◌, ◌*◌, ◌/◌, arith, length, subst}
use Rattle.qs_outcomes.proofs.Common.{Classes, classes_in, div-le_self, OrderOutcome}
use Rattle.qs_outcomes.specs.Outcomes.{outcome_at}
use Rattle.qs_outcomes.specs.alike.AlikeOutcomes.{StandsFor}
use Rattle.qs_outcomes.proofs.alike.Counting.{CountsFrom, counts_none, stands}
use Rattle.qs_outcomes.proofs.alike.Shares.{counts_back, product_few, product_fits}
use Rattle.qs_outcomes.proofs.alike.counts.stands_for.Goals as goal

pub loop-done-init : goal.loop-done-init
loop-done-init c =
    let many = length c.args.program.now.clients in
    let k = classes_in c.args.classes.now in
    let o = outcome_at c.args.standing.now in
    let e : many ≡ many - 0 = omega arith in
    record { counted = subst (λ m. CountsFrom k m o 1) e (counts_none c.args.program.now k c.requires.classes o); few = omega arith }

pub overflow_mul-count : goal.overflow_mul-count
overflow_mul-count c =
    let many = length c.args.program.now.clients in
    let small : many ≤ 8 = c.keeps_sound.ensures.sound.clients in
    let less : c.loop-done.done < many = let l = c.loop-done-test.true in let value = c.clients-clients.ensures.value in omega (arith, l, value) in
    let fits =
    product_fits c.loop-done.done many (c.loop-done.count * c.alike_from.result) less small
    (product_few c.loop-done.done c.loop-done.count c.alike_from.result c.loop-done.invariant.few c.alike_from.ensures.few) in
    omega (arith, fits)

pub loop-done-preserved : goal.loop-done-preserved
loop-done-preserved c =
    let many = length c.args.program.now.clients in
    let k = classes_in c.args.classes.now in
    let o = outcome_at c.args.standing.now in
    let done = c.loop-done.done in
    let place = c.clients-clients.result - 1 - done in
    let next = c.loop-done.count * c.alike_from.result / c.same_from-same.result in
    let value = c.clients-clients.ensures.value in
    let less : done < many = let l = c.loop-done-test.true in omega (arith, l, value) in
    let here : many - done ≡ place + 1 = omega (arith, less, value) in
    let there : place ≡ many - (done + 1) = omega (arith, less, value) in
    record {
      counted = subst (λ m. CountsFrom k m o next) there
          (counts_back c.args.program.now k c.requires.classes o place (omega (arith, less, value)) c.loop-done.count c.alike_from.result c.same_from-same.result
          (subst (λ m. CountsFrom k m o c.loop-done.count) here c.loop-done.invariant.counted) c.alike_from.ensures.count c.same_from-same.ensures.count c.same_from-same.ensures.some);
      few = (let part = div-le_self (c.loop-done.count * c.alike_from.result) c.same_from-same.result in
          let few = product_few done c.loop-done.count c.alike_from.result c.loop-done.invariant.few c.alike_from.ensures.few in omega (arith, part, few));
    }

all_counted : (k : Classes) (o : OrderOutcome) (many done count : ℕ) → many ≤ done → CountsFrom k (many - done) o count → StandsFor k o count
all_counted k o many done count past counted =
    let e : many - done ≡ 0 = omega (arith, past) in
    stands k o count (subst (λ m. CountsFrom k m o count) e counted)

pub returns : goal.returns
returns c =
    let many = length c.args.program.now.clients in
    let past = c.loop-done-test.false in
    let value = c.clients-clients.ensures.value in
    record {
      count = all_counted (classes_in c.args.classes.now) (outcome_at c.args.standing.now) many c.loop-done.done c.loop-done.count (omega (arith, past, value))
          c.loop-done.invariant.counted;
    }
