-- Where the top of the stack is what is asked for, and nothing was before: an order before the top leads to what was
-- seen, but for a change, and at the end of a complete one this was found, so it is not what is asked for. The question
-- says the same of what becomes one another.
use Rattle.std.proofs.Common.{◌≡◌, ◌<◌, ℕ, Bool, true, false, List, [], ◌∷◌, ◌++◌, refl, sym, ap, ◌∙◌, arith, true≢false, Option, Some, None}
use Rattle.qs_outcomes.proofs.Common.{AreClasses, Becomes, becomes_then, blocks_of, Classes, complete_orders_leave_none, Configuration, configuration_after, configuration_in, configurations_follow_orders, has_map, has_some, HasOne, IfSome, IsComplete, IsFollowedAfter, IsSound, NoneNext, only_reduced, OrderOutcome, outcome_in, outcome_of, ProgramShape, RowShape, StandingShape, Ticket}
use Rattle.qs_outcomes.specs.Answers.{AreUnmet, IsBlind, IsWitnessAfter, NoneMeets}
use Rattle.qs_outcomes.specs.LeastOrders.{IsBefore, IsSeenAfter}
use Rattle.qs_outcomes.specs.Outcomes.{outcome_at}
use Rattle.qs_outcomes.specs.Search.{IsExplored}
use Rattle.qs_outcomes.proofs.Explored.{end_after, ends_changed, met}
use Rattle.qs_outcomes.proofs.Exploring.{taken}
use Rattle.qs_outcomes.proofs.LeastFirst.{seen_before}

-- of what becomes one another the question says the same
pub asked_alike : (k : Classes) (asked : OrderOutcome → Bool) → IsBlind k asked → (g h : Configuration) → Becomes k g h → asked (outcome_in h) ≡ asked (outcome_in g)
asked_alike k asked blind g h (x, is, e) = ap (λ q. asked (outcome_in q)) e ∙ blind x is (outcome_in g)

module _ {p : ProgramShape} {k : Classes} {front : List Ticket} (sound : IsSound p) (are : AreClasses p k) {rows : List RowShape}
    (stack : List StandingShape) {found : List StandingShape} (s : StandingShape) (explored : IsExplored p k front rows (stack ++ s ∷ []) found)
    (asked : OrderOutcome → Bool) (blind : IsBlind k asked) (unmet : AreUnmet asked found) where
  -- what a complete order leads to becomes what was found
  found_there : (order : List Ticket) → IsComplete p order → (t : StandingShape) → IsSeenAfter p k front rows order t
      → HasOne (λ x. Becomes k (configuration_after p order) (configuration_in x)) found
  found_there order complete t seen =
      let m = met sound explored t seen.key {g = configuration_after p order} seen.there in
      let ends : (c : ℕ) → (configuration_after p order).begun c ≡ blocks_of p c = (complete_orders_leave_none p order complete.legal).0 complete in
      let none : NoneNext p m.standing = λ c left.
      (let over : (configuration_in m.standing).begun c ≡ blocks_of p c = ends_changed p k are m.becomes.0 m.becomes.1 (configuration_after p order) (configuration_in m.standing) m.becomes.2 ends c in
      let has : (configuration_in m.standing).begun c < blocks_of p c = left in
      omega (arith, over, has)) in
      has_map (λ x. becomes_then k (configuration_after p order) (configuration_in m.standing) (configuration_in x) m.becomes) found (m.seen.found none)

  -- nothing that was found is what is asked for
  none_before : (order : List Ticket) → IsComplete p order → IsFollowedAfter p k only_reduced front order → asked (outcome_of p order) ≡ true → IsBefore order s.order → ⊥
  none_before order complete followed is before =
      let seen = seen_before sound are stack s (taken sound are stack s explored) explored.least order complete.legal followed before in
      has_some
      (λ x (there : Becomes k (configuration_after p order) (configuration_in x)) (not : asked (outcome_at x) ≡ false).
      true≢false (sym is ∙ (ap asked (sym (configurations_follow_orders p order complete.legal))
      ∙ (sym (asked_alike k asked blind (configuration_after p order) (configuration_in x) there) ∙ not))))
      found (found_there order complete seen.0 seen.1) unmet

  pub is_witness : NoneNext p s → asked (outcome_at s) ≡ true → IsWitnessAfter p k front asked s
  is_witness over is = record {
    end = end_after (taken sound are stack s explored) over;
    met = is;
    least = none_before;
  }

-- where what all complete orders lead to becomes what was found, and none of these is what is asked for
pub none_meets : {p : ProgramShape} {k : Classes} (front : List Ticket) {asked : OrderOutcome → Bool} → IsBlind k asked → (found : List StandingShape)
    → ((rest : List Ticket) → IsComplete p (front ++ rest) → HasOne (λ t. Becomes k (configuration_after p (front ++ rest)) (configuration_in t)) found)
    → AreUnmet asked found → NoneMeets p front asked
none_meets {p} {k} front {asked} blind found all unmet rest complete =
    has_some
    (λ x (there : Becomes k (configuration_after p (front ++ rest)) (configuration_in x)) (not : asked (outcome_at x) ≡ false).
    ap asked (sym (configurations_follow_orders p (front ++ rest) complete.legal))
    ∙ (sym (asked_alike k asked blind (configuration_after p (front ++ rest)) (configuration_in x) there) ∙ not))
    found (all rest complete) unmet

-- nothing is asked for
pub nothing_met : (p : ProgramShape) (k : Classes) (front : List Ticket) (w : Option StandingShape) → IfSome w (IsWitnessAfter p k front (λ _. false)) → w ≡ None
nothing_met p k front None h = refl
nothing_met p k front (Some s) h = absurd (true≢false (sym h.met))
