use Rattle.std.proofs.Common.{◌+◌, arith, subst, sym, ◌∙◌, true≢false}
use Rattle.qs_outcomes.specs.alike.AlikeCounts.{CountsThose, IsSameFrom}
use Rattle.qs_alike.specs.Texts.{classes_in}
use Rattle.qs_outcomes.specs.Outcomes.{outcome_at}
use Rattle.qs_outcomes.proofs.alike.Shares.{those_more, those_skip}
use Rattle.qs_outcomes.proofs.alike.counts.same_from.Goals as goal
use Rattle.qs_outcomes.proofs.alike.counts.same_from.Goals.{then-are_alike+then-have_same, else-are_alike, else-are_alike-via-then-are_alike+else-have_same, else-are_alike-via-else-are_alike}

pub loop-other-preserved : goal.loop-other-preserved
loop-other-preserved c =
    let k = classes_in c.args.classes.now in
    let o = outcome_at c.args.standing.now in
    let n = c.args.place in
    let to = c.loop-other.other in
    let i = c.loop-other.invariant in
    let from = c.loop-other.auto.other in
    elim c.if-are_alike.branch [
      | then-are_alike+then-have_same w ↦
          record {
            counted = subst (CountsThose (IsSameFrom k o n) (to + 1)) (sym w.count-is) (those_more (IsSameFrom k o n) to c.loop-other.count i.counted
                (from, c.are_alike.ensures.alike.0 w.if-are_alike.true, w.have_same.ensures.same.0 w.if-have_same.true));
            few = (let e = w.count-is in let few = i.few in omega (arith, e, few));
          }
      | else-are_alike w ↦
          let not : IsSameFrom k o n to → ⊥ =
          elim w.else-are_alike.branch [
            | else-are_alike-via-then-are_alike+else-have_same v ↦ λ h. true≢false (sym (v.have_same.ensures.same.1 h.2) ∙ v.if-have_same.false)
            | else-are_alike-via-else-are_alike v ↦ λ h. true≢false (sym (c.are_alike.ensures.alike.1 h.1) ∙ v.if-are_alike.false)
          ] in
          record {
            counted = subst (CountsThose (IsSameFrom k o n) (to + 1)) (sym w.count-is) (those_skip (IsSameFrom k o n) to c.loop-other.count i.counted not);
            few = (let e = w.count-is in let few = i.few in omega (arith, e, few));
          }
    ]
