-- What the search for all ends lists where clients may change places: each end is one of a complete order, what each
-- complete order comes to becomes one that was found, and none of these becomes another, since at an end all clients have
-- begun all their blocks.
use Rattle.std.proofs.Common.{◌≡◌, ℕ, List, [], ap, get_or, sym, ◌∙◌}
use Rattle.qs_outcomes.proofs.Common.{AllByRecursion, AreClasses, as_many, Becomes, changed_outcome, Classes, configuration_after, configuration_in, configurations_follow_orders, each_map, has_map, IsSound, outcome_in, ProgramShape, RowShape, StandingShape}
use Rattle.qs_outcomes.specs.Answers.{IsEndAfter}
use Rattle.qs_outcomes.specs.Outcomes.{outcome_at}
use Rattle.qs_outcomes.specs.Search.{IsExplored, IsFound}
use Rattle.qs_outcomes.specs.alike.AlikeOutcomes.{AreAllBecoming, BecomesOutcome, IsEnd, NoneBecome}
use Rattle.qs_outcomes.proofs.Explored.{all_begun, all_ends, all_found}
use Rattle.qs_outcomes.proofs.Listed.{two_map}

module _ {p : ProgramShape} {k : Classes} (sound : IsSound p) (are : AreClasses p k) {rows : List RowShape} {found : List StandingShape}
    (explored : IsExplored p k [] rows [] found) where
  pub each_end : AllByRecursion (IsEnd p) found
  each_end = each_map (λ s (e : IsEndAfter p k [] s). record { complete = e.complete; outcome = e.outcome; places = e.places }) found
      (all_ends sound are explored)

  pub all_becoming : AreAllBecoming p k found
  all_becoming o (order, complete, same) =
      has_map
      (λ t (b : Becomes k (configuration_after p order) (configuration_in t)).
      (b.0, b.1, ap outcome_in b.2 ∙ ap (changed_outcome b.0) (configurations_follow_orders p order complete.legal ∙ same)))
      found (all_found sound are explored order complete)

  -- ends of which the outcome of one becomes that of the other become one another
  ends_become : (s t : StandingShape) → IsFound p k [] rows s → IsFound p k [] rows t → BecomesOutcome k (outcome_at s) (outcome_at t)
      → Becomes k (configuration_in s) (configuration_in t)
  ends_become s t a b (x, is, e) =
      let begun : (c : ℕ) → get_or t.begun c 0 ≡ get_or s.begun (x.old c) 0 =
      λ c. all_begun p t.order t b.to.standing b.over c ∙ (sym (as_many p k are x is c) ∙ sym (all_begun p s.order s a.to.standing a.over (x.old c))) in
      (x, is, λ i. record { begun = λ c. begun c i; locals = (e i).locals; states = (e i).states })

  pub none_become : NoneBecome k found
  none_become = two_map (λ s t. Becomes k (configuration_in s) (configuration_in t)) (λ s t. BecomesOutcome k (outcome_at s) (outcome_at t)) ends_become
      found explored.found explored.apart
