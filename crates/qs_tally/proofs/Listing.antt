-- All outcomes as ends that count: each stands again after the order that it shows, one after another, so what is said
-- of all outcomes is said of the ends. No two outcomes are equal, so each is added.
use Rattle.std.proofs.Common.{◌≡◌, ◌≤◌, ℕ, suc, true, false, Some, List, [], ◌∷◌, ◌++◌, take, slice_get, refl, sym, ap, ◌∙◌, subst, inl, inr, option_map}
use Rattle.qs_tally.proofs.Common.{all_zipped_more, AllByRecursion, AllZip, AreApart, AreOutcomes, each_map, each_snoc, HasMoreThan, IsComplete, IsLeastAfter, IsListedAfter, IsReducedAfter, map-append, outcome_at, outcome_of, OutcomesShape, ProgramShape, RowShape, slice_get-map, StandingShape}
use Rattle.qs_outcomes.specs.LeastOrders.{IsBefore}
use Rattle.qs_tally.specs.Counting.{AreTabled, HasNotCome, IsBegun, IsPlaced, IsSameEnd, not_yet}
use Rattle.qs_tally.specs.Tallies.{CountedShape, IsCountOf, standings_in}
use Rattle.qs_outcomes.proofs.Zips.{zip_each, zip_has, zip_two}
use Rattle.qs_tally.proofs.Counts.{standing_of}
use Rattle.qs_tally.proofs.Ends.{is_end}
use Rattle.qs_tally.proofs.Places.{before_at, each_at, take_one, zip_at}

pub all_again : (p : ProgramShape) (all : OutcomesShape) (ends : List StandingShape) → AreOutcomes p all → AllZip (IsSameEnd p) all.found ends
    → AreOutcomes p (record { found = ends; configurations = all.configurations })
all_again p all ends a same = record {
  legal = a.legal;
  sound = zip_each (IsSameEnd p) {P = IsListedAfter p []} {Q = IsListedAfter p []}
      (λ s t (r : IsSameEnd p s t) (l : IsListedAfter p [] s). record {
        complete = subst (IsComplete p) (sym r.along) l.complete;
        reduced = subst (IsReducedAfter p []) (sym r.along) l.reduced;
        outcome = r.same ∙ l.outcome ∙ ap (outcome_of p) (sym r.along);
        places = r.places;
      })
      all.found ends same a.sound;
  complete = λ rest complete. zip_has (IsSameEnd p) (λ s t (r : IsSameEnd p s t) (e : outcome_at s ≡ outcome_of p rest). r.same ∙ e) all.found ends same (a.complete rest complete);
  least = zip_each (IsSameEnd p) {P = IsLeastAfter p []} {Q = IsLeastAfter p []}
      (λ s t (r : IsSameEnd p s t) (l : IsLeastAfter p [] s). λ order complete reduced comes before. l order complete reduced (comes ∙ r.same) (subst (IsBefore order) r.along before))
      all.found ends same a.least;
  sorted = zip_two (IsSameEnd p) {S = λ s u. IsBefore s.order u.order} {T = λ t v. IsBefore t.order v.order}
      (λ s t u v (r : IsSameEnd p s t) (q : IsSameEnd p u v) (b : IsBefore s.order u.order). subst (λ ts. IsBefore ts v.order) (sym r.along) (subst (IsBefore s.order) (sym q.along) b))
      all.found ends same a.sorted;
  once = zip_two (IsSameEnd p) {S = λ s u. outcome_at s ≡ outcome_at u → ⊥} {T = λ t v. outcome_at t ≡ outcome_at v → ⊥}
      (λ s t u v (r : IsSameEnd p s t) (q : IsSameEnd p u v) (other : outcome_at s ≡ outcome_at u → ⊥) e. other (sym r.same ∙ e ∙ q.same))
      all.found ends same a.once;
  counted = a.counted;
}

-- one more of them
module _ (p : ProgramShape) (found : List StandingShape) (apart : AreApart found) (i : ℕ) (s : StandingShape) (at : slice_get found i ≡ Some s) (listed : IsListedAfter p [] s)
    (before after : List CountedShape) (place : ℕ) (same : AllZip (IsSameEnd p) (take i found) (standings_in before)) (placed : IsPlaced p s.order place before after) where
  not_known : after ≡ before → ⊥
  not_known is =
      let came = placed.came in
      let got : slice_get (standings_in before) place ≡ Some came.0.standing =
      slice_get-map standing_of before place ∙ ap (λ es. option_map standing_of (slice_get es place)) (sym is) ∙ ap (option_map standing_of) came.1 in
      let x = zip_at (IsSameEnd p) (take i found) (standings_in before) place came.0.standing same got in
      each_at (λ t. outcome_at t ≡ outcome_at s → ⊥) (take i found) place x.0 x.1 (before_at (λ t u. outcome_at t ≡ outcome_at u → ⊥) found i s at apart)
      (sym x.2.same ∙ came.2 ∙ sym listed.outcome)

  pub same_on : AllZip (IsSameEnd p) (take (suc i) found) (standings_in after)
  same_on = elim placed.either [
    | inl is ↦ absurd (not_known is)
    | inr a ↦ subst (λ ts. AllZip (IsSameEnd p) ts (standings_in after)) (sym (take_one found i s at))
        (subst (AllZip (IsSameEnd p) (take i found ++ s ∷ [])) (sym (ap standings_in a.longer ∙ map-append standing_of before (not_yet a.standing ∷ [])))
        (all_zipped_more (IsSameEnd p) (take i found) (standings_in before) s a.standing same
        (record { along = a.along; same = a.is_end.outcome ∙ ap (outcome_of p) a.along ∙ sym listed.outcome; places = a.is_end.places })))
  ]

  pub none_on : AllByRecursion HasNotCome before → AllByRecursion HasNotCome after
  none_on none = elim placed.either [
    | inl is ↦ subst (AllByRecursion HasNotCome) (sym is) none
    | inr a ↦ subst (AllByRecursion HasNotCome) (sym a.longer) (each_snoc HasNotCome before (not_yet a.standing) none refl)
  ]

-- before the first run

pub counted_none : (p : ProgramShape) (kept : List RowShape) (ends : List CountedShape) → AreTabled p kept ends → AreApart (standings_in ends) → AllByRecursion HasNotCome ends → IsCountOf p [] ends
counted_none p kept ends tabled apart none = record {
  places = [];
  met = tt;
  times = λ k e at. each_at HasNotCome ends k e at none;
  apart = apart;
  sound = each_map (is_end p) (standings_in ends) tabled.at_end;
}

pub begun_listed : (p : ProgramShape) (limit : ℕ) (kept : List RowShape) (all : OutcomesShape) (ends : List CountedShape) → AreOutcomes p all → all.configurations ≤ limit → AreTabled p kept ends
    → AllZip (IsSameEnd p) all.found (standings_in ends) → AllByRecursion HasNotCome ends → IsBegun p limit true ends
begun_listed p limit kept all ends outcomes within tabled same none =
    let again = all_again p all (standings_in ends) outcomes same in
    record {
      counted = counted_none p kept ends tabled again.once none;
      listed_all = λ _. (record { found = standings_in ends; configurations = all.configurations }, again, refl, within);
      unlisted = λ e. absurd (cc);
    }

pub begun_unlisted : (p : ProgramShape) (limit : ℕ) (kept : List RowShape) → AreTabled p kept [] → HasMoreThan p limit → IsBegun p limit false []
begun_unlisted p limit kept tabled more = record {
  counted = counted_none p kept [] tabled tt tt;
  listed_all = λ e. absurd (cc);
  unlisted = λ _. (more, tt);
}
