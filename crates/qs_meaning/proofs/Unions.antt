-- The outcomes after a front of an order are a union: those after the front and the next block of one who goes on
-- there, over all of these. By it a search is cut into parts that any machine can do. A complete order after the front
-- has the outcome of a reduced one, whose first block is that of one who goes on.
use Rattle.std.proofs.Common.{◌≡◌, ◌<◌, ℕ, List, [], ◌∷◌, ◌++◌, length, refl, sym, ap, ◌∙◌, subst, arith, append_assoc}
use Rattle.qs_meaning.proofs.Common.{blocks_of, IsSound, ProgramShape, Ticket}
use Rattle.qs_meaning.specs.audit.Configurations.{Configuration, IsComplete, configuration_after, configuration_from, first_configuration}
use Rattle.qs_meaning.specs.Configurations.{OrderOutcome, outcome_in, outcome_of}
use Rattle.qs_meaning.specs.Reduced.{GoesOnTo, IsOutcomeAfter, IsReducedFrom, OutcomesAreUnion, with_next}
use Rattle.qs_meaning.specs.audit.Serial.{IsLegal, LegalFrom}
use Rattle.qs_meaning.proofs.Orders.{complete_orders_leave_none, configuration-append, configurations_follow_orders, legal-front, legal-join, legal-rest}
use Rattle.qs_meaning.proofs.Reductions.{ReducedFrom, reduced_from}

module _ (p : ProgramShape) (sound : IsSound p) (front : List Ticket) (c : ℕ) (left : (configuration_after p front).begun c < blocks_of p c) (x : OrderOutcome) where
  abbrev there : Configuration
  there = configuration_after p front

  module _ (rest : List Ticket) (complete : IsComplete p (front ++ rest)) (is : outcome_of p (front ++ rest) ≡ x) where
    whole : (ts : List Ticket) → configuration_after p (front ++ ts) ≡ configuration_from p there ts
    whole ts = configuration-append p (first_configuration p) front ts

    ends : (d : ℕ) → (configuration_from p there rest).begun d ≡ blocks_of p d
    ends d = ap (λ (g : Configuration). g.begun d) (sym (whole rest)) ∙ (complete_orders_leave_none p (front ++ rest) complete.legal).0 complete d

    found : ReducedFrom p there rest
    found = reduced_from p sound (length rest) there rest (omega arith) (legal-rest p (first_configuration p) front rest complete.legal) ends

    legal : IsLegal p (front ++ found.reduced)
    legal = legal-join p (first_configuration p) front found.reduced (legal-front p (first_configuration p) front rest complete.legal) found.legal

    same : configuration_after p (front ++ found.reduced) ≡ configuration_after p (front ++ rest)
    same = whole found.reduced ∙ (found.same ∙ sym (whole rest))

    outcome : outcome_of p (front ++ found.reduced) ≡ x
    outcome = sym (configurations_follow_orders p (front ++ found.reduced) legal) ∙ (ap outcome_in same ∙ (configurations_follow_orders p (front ++ rest) complete.legal ∙ is))

    is_complete : IsComplete p (front ++ found.reduced)
    is_complete =
        (complete_orders_leave_none p (front ++ found.reduced) legal).1
        (λ d. ap (λ (g : Configuration). g.begun d) same ∙ (complete_orders_leave_none p (front ++ rest) complete.legal).0 complete d)

    by_first : (r : ReducedFrom p there rest) → IsComplete p (front ++ r.reduced) → outcome_of p (front ++ r.reduced) ≡ x → GoesOnTo p front x
    by_first r complete_too is_too = by_list r.reduced r.legal r.is_reduced (λ e. ap (λ ts. configuration_from p there ts) (sym e) ∙ r.same) complete_too is_too
      where
        by_list : (ts : List Ticket) → LegalFrom p there.begun ts → IsReducedFrom p there ts → (ts ≡ [] → configuration_from p there [] ≡ configuration_from p there rest)
            → IsComplete p (front ++ ts) → outcome_of p (front ++ ts) ≡ x → GoesOnTo p front x
        by_list [] l red none k e =
            let over : there.begun c ≡ blocks_of p c = ap (λ (g : Configuration). g.begun c) (none refl) ∙ ends c in absurd (omega (arith, left, over))
        by_list (t ∷ ts) l red none k e =
            let ticket : ◌≡◌ {A = Ticket} t (record { client = t.client; index = there.begun t.client }) = λ i. record { client = t.client; index = l.0 i } in
            let order : front ++ (t ∷ ts) ≡ with_next p front t.client ++ ts =
            ap (λ u. front ++ (u ∷ ts)) ticket ∙ sym (append_assoc front (record { client = t.client; index = there.begun t.client } ∷ []) ts) in
            record {
              client = t.client;
              goes = red.0;
              outcome = (ts, subst (IsComplete p) order k, subst (λ o. outcome_of p o ≡ x) order e);
            }

  pub to_one : IsOutcomeAfter p front x → GoesOnTo p front x
  to_one (rest, complete, is) = by_first rest complete is (found rest complete is) (is_complete rest complete is) (outcome rest complete is)

  pub from_one : GoesOnTo p front x → IsOutcomeAfter p front x
  from_one g =
      let t : Ticket = record { client = g.client; index = there.begun g.client } in
      let order = append_assoc front (t ∷ []) g.outcome.0 in
      (t ∷ g.outcome.0, subst (IsComplete p) order g.outcome.1, subst (λ o. outcome_of p o ≡ x) order g.outcome.2)

pub outcomes_are_union : OutcomesAreUnion
outcomes_are_union p sound front c left x = (to_one p sound front c left x, from_one p sound front c left x)
