use Rattle.std.proofs.Common.{◌+◌, arith, subst, sym, ◌∙◌, true≢false}
use Rattle.qs_outcomes.specs.alike.AlikeCounts.{CountsThose, IsAlikeFrom}
use Rattle.qs_alike.specs.Texts.{classes_in}
use Rattle.qs_outcomes.proofs.alike.Shares.{those_more, those_skip}
use Rattle.qs_outcomes.proofs.alike.counts.alike_from.Goals as goal
use Rattle.qs_outcomes.proofs.alike.counts.alike_from.Goals.{then-are_alike, else-are_alike}

pub loop-other-preserved : goal.loop-other-preserved
loop-other-preserved c =
    let k = classes_in c.args.classes.now in
    let n = c.args.place in
    let to = c.loop-other.other in
    let i = c.loop-other.invariant in
    let from = c.loop-other.auto.other in
    elim c.if-are_alike.branch [
      | then-are_alike w ↦
          record {
            counted = subst (CountsThose (IsAlikeFrom k n) (to + 1)) (sym w.count-is)
                (those_more (IsAlikeFrom k n) to c.loop-other.count i.counted (from, c.are_alike.ensures.alike.0 w.if-are_alike.true));
            few = (let e = w.count-is in let few = i.few in omega (arith, e, few));
          }
      | else-are_alike w ↦
          record {
            counted = subst (CountsThose (IsAlikeFrom k n) (to + 1)) (sym w.count-is)
                (those_skip (IsAlikeFrom k n) to c.loop-other.count i.counted (λ h. true≢false (sym (c.are_alike.ensures.alike.1 h.1) ∙ w.if-are_alike.false)));
            few = (let e = w.count-is in let few = i.few in omega (arith, e, few));
          }
    ]
