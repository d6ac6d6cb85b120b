use Rattle.std.proofs.Common.{◌-◌, ◌+◌, ◌∙◌, ap, arith, inr, subst, sym, true≢false}
use Rattle.qs_outcomes.proofs.Common.{classes_in, rows_in}
use Rattle.qs_outcomes.specs.Search.{IsLonger, IsPushed}
use Rattle.qs_outcomes.proofs.Exploring.{pushed_on}
use Rattle.qs_outcomes.proofs.depth.push_next.Goals as goal
use Rattle.qs_outcomes.proofs.depth.push_next.Goals.{Joined-follows, then-follows+in_ok-push_one, else-follows}

pushed : (c : Joined-follows) → IsPushed c.args.search.now.program.now (classes_in c.args.search.now.classes.now) c.args.search.now.front.now
    (rows_in c.args.seen.now.keys) c.args.standing.now (c.clients-clients.result - 1 - c.loop-back.back) c.loop-back.stack.items c.if-follows.stack.items
pushed c =
    let Pushed = IsPushed c.args.search.now.program.now (classes_in c.args.search.now.classes.now) c.args.search.now.front.now
    (rows_in c.args.seen.now.keys) c.args.standing.now (c.clients-clients.result - 1 - c.loop-back.back) in
    elim c.if-follows.branch [
      | then-follows+in_ok-push_one w ↦ subst (λ s. Pushed c.loop-back.stack.items s) (ap (λ s. s.items) (sym w.stack-is)) w.in_ok-push_one.ensures.pushed
      | else-follows w ↦
          inr (
            inr (λ goes. true≢false (sym (c.follows.ensures.follows.1 goes) ∙ w.if-follows.false)),
            ap (λ s. s.items) w.stack-is,
          )
    ]

pub loop-back-preserved : goal.loop-back-preserved
loop-back-preserved c =
    let p = c.args.search.now.program.now in
    let k = classes_in c.args.search.now.classes.now in
    let front = c.args.search.now.front.now in
    let rows = rows_in c.args.seen.now.keys in
    let s = c.args.standing.now in
    let e = c.clients-clients.ensures.value in
    let less = c.loop-back-test.true in
    record {
      longer = pushed_on p k front rows s (c.clients-clients.result - (c.loop-back.back + 1)) c.args.stack.now.items c.loop-back.stack.items c.if-follows.stack.items
          (omega (arith, e, less))
          (subst (λ n. IsLonger p k front rows s n c.args.stack.now.items c.loop-back.stack.items) (omega (arith, less)) c.loop-back.invariant.longer)
          (subst (λ n. IsPushed p k front rows s n c.loop-back.stack.items c.if-follows.stack.items) (omega arith) (pushed c));
      base = elim c.if-follows.branch [
        | then-follows+in_ok-push_one w ↦ ap (λ s. s.base) w.scratch-is ∙ (w.in_ok-push_one.ensures.base ∙ c.loop-back.invariant.base)
        | else-follows w ↦ ap (λ s. s.base) w.scratch-is ∙ c.loop-back.invariant.base
      ];
      copy = elim c.if-follows.branch [
        | then-follows+in_ok-push_one w ↦ ap (λ s. s.copy) w.scratch-is ∙ (w.in_ok-push_one.ensures.copy ∙ c.loop-back.invariant.copy)
        | else-follows w ↦ ap (λ s. s.copy) w.scratch-is ∙ c.loop-back.invariant.copy
      ];
    }
