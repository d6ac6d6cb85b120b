-- Where nobody changes places, the search for all ends lists all outcomes, each by its least order, and counts all
-- configurations to which reduced orders lead: who is followed is who goes on, and what becomes another is the same. Two
-- ends that come to the same are of one configuration.
use Rattle.std.proofs.Common.{◌≡◌, ℕ, List, [], ◌∷◌, ◌++◌, length, sym, ap, ◌∙◌, subst}
use Rattle.qs_outcomes.proofs.Common.{AllByRecursion, AreAlone, AreClasses, Becomes, becomes_alone, becomes_same, Classes, complete_orders_leave_none, configuration_after, configuration_in, configurations_follow_orders, each_both, each_map, followed_reduced_after, has_map, IsLegal, IsSound, IsStanding, NoTwo, only_reduced, outcome_in, ProgramShape, reduced_followed, reduced_followed_after, RowShape, StandingShape, Ticket}
use Rattle.qs_outcomes.specs.LeastOrders.{IsLeastUpTo}
use Rattle.qs_outcomes.specs.Outcomes.{AreAllOutcomesAfter, AreApart, AreDifferent, AreOutcomesAfter, HasConfigurationsAfter, HasMoreThanAfter, IsLeastAfter, outcome_at}
use Rattle.qs_outcomes.specs.Reached.{AreUnlike, HasMore, HasReached, IsFollowedTo}
use Rattle.qs_outcomes.specs.Search.{IsExplored, IsFound}
use Rattle.qs_outcomes.proofs.Explored.{all_begun, all_found, has_reached, listed_end}

all_but : {X : Type 0} {Q : X → Type 0} (R S : X → X → Type 0) → ((x y : X) → Q x → Q y → S x y → R x y) → (x : X) → Q x → (ys : List X) → AllByRecursion Q ys
    → AllByRecursion (λ y. R x y → ⊥) ys → AllByRecursion (λ y. S x y → ⊥) ys
all_but R S f x q [] each h = tt
all_but R S f x q (y ∷ ys) each h = (λ s. h.0 (f x y q each.0 s), all_but R S f x q ys each.1 h.1)

-- no two are related by what implies a relation in which no two are
pub two_map : {X : Type 0} {Q : X → Type 0} (R S : X → X → Type 0) → ((x y : X) → Q x → Q y → S x y → R x y) → (xs : List X) → AllByRecursion Q xs → NoTwo R xs → NoTwo S xs
two_map R S f [] each h = tt
two_map R S f (x ∷ xs) each h = (all_but R S f x each.0 xs each.1 h.0, two_map R S f xs each.1 h.1)

module _ (p : ProgramShape) (k : Classes) (front : List Ticket) (alone : AreAlone k) where
  standing_after : (s : StandingShape) → IsFollowedTo p k only_reduced front s → IsStanding p front s
  standing_after s to = record {
    begun = to.standing.begun;
    locals = to.standing.locals;
    states = to.standing.states;
    legal = to.standing.legal;
    reduced = followed_reduced_after p k alone front s.order to.followed;
    stands = to.standing.stands;
  }

  different : (ss : List StandingShape) (many : ℕ) → AreUnlike p k only_reduced front ss many → AreDifferent p front ss many
  different ss many are = record {
    count = are.count;
    reached = each_map standing_after ss are.reached;
    different = two_map (λ s t. Becomes k (configuration_in s) (configuration_in t)) (λ s t. configuration_in s ≡ configuration_in t)
        (λ s t (a : IsFollowedTo p k only_reduced front s) (b : IsFollowedTo p k only_reduced front t) e. becomes_same k (configuration_in s) (configuration_in t) (sym e))
        ss are.reached are.unlike;
  }

  configurations : (many : ℕ) → HasReached p k only_reduced front many → HasConfigurationsAfter p front many
  configurations many (ss, are, all) = (
    ss,
    different ss many are,
    λ rest legal reduced.
        has_map (λ s. becomes_alone k alone (configuration_after p (front ++ rest)) (configuration_in s)) ss
        (all rest legal (reduced_followed p k alone (configuration_after p front) rest reduced)),
  )

  pub more_than : (limit : ℕ) → HasMore p k only_reduced front limit → HasMoreThanAfter p front limit
  more_than limit (ss, are) = (ss, different ss _ are)

  module _ (sound : IsSound p) (are : AreClasses p k) {rows : List RowShape} {found : List StandingShape} (explored : IsExplored p k front rows [] found) where
    all_outcomes : AreAllOutcomesAfter p front found
    all_outcomes rest complete =
        has_map
        (λ t (b : Becomes k (configuration_after p (front ++ rest)) (configuration_in t)).
        ap outcome_in (becomes_alone k alone (configuration_after p (front ++ rest)) (configuration_in t) b) ∙ configurations_follow_orders p (front ++ rest) complete.legal)
        found (all_found sound are explored rest complete)

    all_least : AllByRecursion (IsLeastAfter p front) found
    all_least = each_both {R = IsLeastAfter p front} (λ s (f : IsFound p k front rows s) (l : IsLeastUpTo p k front s). λ order complete reduced same before.
        (let e : outcome_in (configuration_after p order) ≡ outcome_in (configuration_in s) = configurations_follow_orders p order complete.legal ∙ same in
        let begun : ◌≡◌ {A = ℕ → ℕ} (configuration_after p order).begun (configuration_in s).begun =
        λ i c. ((complete_orders_leave_none p order complete.legal).0 complete c ∙ sym (all_begun p s.order s f.to.standing f.over c)) i in
        let here : configuration_after p order ≡ configuration_in s = λ i. record { begun = begun i; locals = (e i).locals; states = (e i).states } in
        l order complete.legal (reduced_followed_after p k alone front order reduced) (becomes_same k (configuration_after p order) (configuration_in s) (sym here)) before))
        found explored.found explored.least.least

    all_apart : AreApart found
    all_apart = two_map (λ s t. Becomes k (configuration_in s) (configuration_in t)) (λ s t. outcome_at s ≡ outcome_at t)
        (λ s t (a : IsFound p k front rows s) (b : IsFound p k front rows t) e.
        (let begun : ◌≡◌ {A = ℕ → ℕ} (configuration_in s).begun (configuration_in t).begun =
        λ i c. (all_begun p s.order s a.to.standing a.over c ∙ sym (all_begun p t.order t b.to.standing b.over c)) i in
        let here : configuration_in s ≡ configuration_in t = λ i. record { begun = begun i; locals = (e i).locals; states = (e i).states } in
        becomes_same k (configuration_in s) (configuration_in t) (sym here)))
        found explored.found explored.apart

    pub all_listed : IsLegal p front → (many : ℕ) → many ≡ length rows → AreOutcomesAfter p front (record { found = found; configurations = many })
    all_listed legal many same = record {
      legal = legal;
      sound = each_map (λ s (f : IsFound p k front rows s). listed_end p front s (standing_after s f.to) f.over) found explored.found;
      complete = all_outcomes;
      least = all_least;
      sorted = explored.least.sorted;
      once = all_apart;
      counted = subst (HasConfigurationsAfter p front) (sym same) (configurations (length rows) (has_reached sound are explored));
    }
