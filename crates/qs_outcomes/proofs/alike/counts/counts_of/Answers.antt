use Rattle.std.proofs.Common.{ℕ, List, ◌<◌, length, get_or, ◌≡◌, ◌++◌, ◌∷◌, [], ap, subst, sym, take, ◌∙◌, ◌+◌}
use Rattle.qs_outcomes.proofs.Common.{AllZip-push, classes_in, StandingShape}
use Rattle.qs_outcomes.specs.Outcomes.{outcome_at}
use Rattle.qs_standings.proofs.RowSteps.{take_more}
use Rattle.qs_outcomes.specs.alike.AlikeOutcomes.{AreCounted, StandsFor}
use Rattle.qs_outcomes.proofs.alike.counts.counts_of.Goals as goal

one_more : (found : List StandingShape) (i : ℕ) (s : StandingShape) → i < length found → s ≡ get_or found i s → take (i + 1) found ≡ take i found ++ s ∷ []
one_more found i s within is = take_more found i s within ∙ ap (λ t. take i found ++ t ∷ []) (sym is)

pub loop-standing-preserved : goal.loop-standing-preserved
loop-standing-preserved c =
    let k = classes_in c.args.classes.now in
    let found = c.args.found.now in
    let i = c.loop-standing.standing-index in
    let s = c.standing-item.result in
    subst (AreCounted k (take (i + 1) found)) (sym {A = List ℕ} c.in_ok-push.ensures.items)
    (subst (λ ss. AreCounted k ss (c.loop-standing.counts.items ++ c.stands_for.result ∷ [])) (sym (one_more found i s c.loop-standing-test.true c.standing-item.is))
    (AllZip-push (λ s count. StandsFor k (outcome_at s) count) (take i found) c.loop-standing.counts.items s c.stands_for.result
    c.loop-standing.invariant c.stands_for.ensures.count))
