-- One more run of a program whose ends were counted so far. Where all outcomes are listed its order comes to one of
-- them, so nothing is added; and where they are not, an end that is added is the one that has now come.
use Rattle.std.proofs.Common.{◌≡◌, ◌<◌, ℕ, suc, Some, List, [], ◌∷◌, length, slice_get, slice_set, sym, ap, ◌∙◌, subst, arith, inl, inr}
use Rattle.qs_tally.proofs.Common.{AllByRecursion, apart_eqb, has_some, IsComplete, num_cases, outcome_at, outcome_of, ProgramShape, Ticket}
use Rattle.qs_tally.specs.Counting.{ComesToNone, IsAdded, IsCounted, not_yet, once_more}
use Rattle.qs_tally.specs.Tallies.{AreListed, AreUnlisted, CountedShape, HasCome, standings_in}
use Rattle.qs_tally.proofs.Counts.{same_standings}
use Rattle.qs_tally.proofs.Places.{each_at, each_by, get_set_other, get_set_same, get_snoc}

module _ (p : ProgramShape) (order : List Ticket) (before after : List CountedShape) (c : IsCounted p order before after) where
  e : CountedShape
  e = c.placed.came.0

  at : slice_get c.between c.place ≡ Some e
  unfolding e
  at = c.placed.came.1

  now : after ≡ slice_set c.between c.place (once_more e)
  unfolding e
  now = c.more c.placed.came.0 c.placed.came.1

  pub listed_on : (limit : ℕ) → IsComplete p order → AreListed p limit before → AreListed p limit after
  listed_on limit complete l = elim c.placed.either [
    | inl is ↦ (l.0, l.1, ap standings_in now ∙ same_standings c.between c.place e at ∙ ap standings_in is ∙ l.2, l.3)
    | inr a ↦ absurd (has_some (λ s (same : outcome_at s ≡ outcome_of p order) (other : outcome_at s ≡ outcome_of p order → ⊥). other same)
        l.0.found (l.1.complete order complete) (subst (ComesToNone p order) l.2 a.new))
  ]

  -- an end that was added is at the place that has now come
  added_there : (a : IsAdded p order before c.between) → c.place ≡ length before
  unfolding e
  added_there a = elim (get_snoc before (not_yet a.standing) c.place e (subst (λ es. slice_get es c.place ≡ Some e) a.longer at)) [
    | inl h ↦ absurd (each_at (λ (x : CountedShape). outcome_at x.standing ≡ outcome_of p order → ⊥) before c.place e h (none_of_ends before a.new) c.placed.came.2)
    | inr h ↦ h.0
  ]
    where
      none_of_ends : (es : List CountedShape) → ComesToNone p order (standings_in es) → AllByRecursion (λ (x : CountedShape). outcome_at x.standing ≡ outcome_of p order → ⊥) es
      none_of_ends [] h = tt
      none_of_ends (x ∷ xs) h = (h.0, none_of_ends xs h.1)

  come_between : AllByRecursion HasCome before → (k : ℕ) (x : CountedShape) → (k ≡ c.place → ⊥) → slice_get c.between k ≡ Some x → HasCome x
  come_between come k x other h = elim c.placed.either [
    | inl is ↦ each_at HasCome before k x (subst (λ es. slice_get es k ≡ Some x) is h) come
    | inr a ↦ elim (get_snoc before (not_yet a.standing) k x (subst (λ es. slice_get es k ≡ Some x) a.longer h)) [
      | inl g ↦ each_at HasCome before k x g come
      | inr g ↦ absurd (other (g.0 ∙ sym (added_there a)))
    ]
  ]

  come_at : AllByRecursion HasCome before → (k : ℕ) (x : CountedShape) → slice_get (slice_set c.between c.place (once_more e)) k ≡ Some x → HasCome x
  come_at come k x h = elim (num_cases k c.place) [
    | inl is ↦ (let both : Some x ≡ Some (once_more e) = sym (subst (λ j. slice_get (slice_set c.between c.place (once_more e)) j ≡ Some x) is h) ∙ get_set_same c.between c.place e (once_more e) at in
        let this : x ≡ once_more e = cc in subst HasCome (sym this) (let fits : 0 < suc e.times = omega arith in fits))
    | inr other ↦ (let apart = apart_eqb k c.place other in come_between come k x apart (sym (get_set_other c.between c.place k (once_more e) apart) ∙ h))
  ]

  pub unlisted_on : (limit : ℕ) → AreUnlisted p limit before → AreUnlisted p limit after
  unlisted_on limit u = (u.0, subst (AllByRecursion HasCome) (sym now) (each_by HasCome (slice_set c.between c.place (once_more e)) (come_at u.1)))
