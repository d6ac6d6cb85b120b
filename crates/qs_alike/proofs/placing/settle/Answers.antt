use Rattle.std.proofs.Common.{◌≡◌, ◌<◌, ◌+◌, arith, length, subst, sym, ◌∙◌, true≢false, Less}
use Rattle.qs_standings.specs.Standings.{IsStanding, StandingShape, configuration_in, exchanged}
use Rattle.qs_alike.specs.Changes.{Becomes}
use Rattle.qs_alike.specs.Arranged.{IsArrangedBelow, compared}
use Rattle.qs_alike.specs.Texts.{classes_in}
use Rattle.qs_alike.proofs.Composing.{becomes_itself}
use Rattle.qs_alike.proofs.Exchanging.{IsLeastUpTo, becomes_further, below_more, below_now, least_kept, least_now, none_before, standing_exchanged}
use Rattle.qs_alike.proofs.placing.settle.Goals as goal
use Rattle.qs_alike.proofs.placing.settle.Goals.{Joined-are_alike, then-are_alike+then-is_less, else-are_alike, else-are_alike-via-then-are_alike+else-is_less, else-are_alike-via-else-are_alike}

pub loop-other-init : goal.loop-other-init
loop-other-init c = record {
  standing = c.requires.standing;
  becomes = becomes_itself (classes_in c.args.classes.now) (configuration_in c.args.standing.now);
  below = c.requires.below;
  least = none_before (classes_in c.args.classes.now) (configuration_in c.args.standing.now) c.args.place;
}

within : (c : Joined-are_alike) → c.loop-other.other < length c.args.program.now.clients
within c =
    let e = c.clients-other-end.ensures.value in omega (arith, c.loop-other-test.true, e)

behind : (c : Joined-are_alike) → c.args.place < c.loop-other.other
behind c = let from = c.loop-other.auto.other in omega (arith, from)

pub loop-other-preserved : goal.loop-other-preserved
loop-other-preserved c =
    elim c.if-are_alike.branch [
      | then-are_alike+then-is_less w ↦
          let p = c.args.program.now in
          let k = classes_in c.args.classes.now in
          let s = c.loop-other.standing in
          let i = c.loop-other.invariant in
          let same : k c.args.place ≡ k c.loop-other.other = c.are_alike.ensures.alike.0 w.if-are_alike.true in
          let e : c.if-are_alike.standing ≡ exchanged c.args.place c.loop-other.other s = w.standing-is ∙ w.exchange.ensures.exchanged in
          record {
            standing = standing_exchanged p k c.requires.classes s c.if-are_alike.standing i.standing c.args.place c.loop-other.other (behind c) (within c) same e;
            becomes = becomes_further p k c.requires.classes s c.if-are_alike.standing i.standing c.args.place c.loop-other.other (behind c) (within c) same e
                (configuration_in c.args.standing.now) i.becomes;
            below = below_now p k c.requires.classes s c.if-are_alike.standing i.standing c.args.place c.loop-other.other (behind c) (within c) same e i.below;
            least = least_now p k c.requires.classes s c.if-are_alike.standing i.standing c.args.place c.loop-other.other (behind c) (within c) same e
                (w.is_less.ensures.less.0 w.if-is_less.true) i.least;
          }
      | else-are_alike w ↦
          let k = classes_in c.args.classes.now in
          let s = c.loop-other.standing in
          let t = c.if-are_alike.standing in
          let i = c.loop-other.invariant in
          let not : k c.args.place ≡ k c.loop-other.other → compared (configuration_in s) c.loop-other.other c.args.place ≡ Less → ⊥ =
          elim w.else-are_alike.branch [
            | else-are_alike-via-then-are_alike+else-is_less v ↦ λ _ less. true≢false (sym (v.is_less.ensures.less.1 less) ∙ v.if-is_less.false)
            | else-are_alike-via-else-are_alike v ↦ λ same _. true≢false (sym (c.are_alike.ensures.alike.1 same) ∙ v.if-are_alike.false)
          ] in
          let e : s ≡ t = sym w.standing-is in
          record {
            standing = subst (λ (t : StandingShape). IsStanding c.args.program.now t.order t) e i.standing;
            becomes = subst (λ t. Becomes k (configuration_in c.args.standing.now) (configuration_in t)) e i.becomes;
            below = subst (λ t. IsArrangedBelow k (configuration_in t) c.args.place) e i.below;
            least = subst (λ t. IsLeastUpTo k (configuration_in t) c.args.place (c.loop-other.other + 1)) e
                (least_kept k (configuration_in s) c.args.place c.loop-other.other not i.least);
          }
    ]

pub returns-clause-below : goal.returns-clause-below
returns-clause-below c =
    below_more c.args.program.now (classes_in c.args.classes.now) c.requires.classes (configuration_in c.loop-other.standing) c.args.place c.loop-other.other c.requires.place
    (let past = c.loop-other-test.false in let e = c.clients-other-end.ensures.value in omega (arith, past, e))
    c.loop-other.invariant.below c.loop-other.invariant.least
