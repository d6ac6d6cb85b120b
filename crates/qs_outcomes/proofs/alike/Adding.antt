-- The counts add up to the number of all outcomes. What those that are listed become, all in one list, is each outcome
-- once: each outcome becomes one of those that are listed, and so that one becomes it, since a change can be undone;
-- and what two of them become is never the same, since one of the two would become the other. Two lists of the same,
-- each once, are equally long.
use Rattle.std.proofs.Common.{◌≡◌, ◌≤◌, ◌+◌, ℕ, List, [], ◌∷◌, ◌++◌, length, refl, sym, ap, ◌∙◌, subst, arith, inl, inr, length-append}
use Rattle.qs_outcomes.proofs.Common.{AllByRecursion, AllZip, at_most, changed_outcome, changes_keep_outcomes, Classes, each_join, each_map, has_back, has_front, has_map, has_some, HasOne, NoTwo, OrderOutcome, outcome_of, pairs_join, StandingShape, sum, sum_by-cons, then_changed, then_is, undone, undone_is}
use Rattle.qs_outcomes.specs.Outcomes.{IsListed, outcome_at}
use Rattle.qs_outcomes.specs.alike.AlikeOutcomes.{AreChangesOf, BecomesOutcome, CountsAreAll, IsEnd, StandsFor}

pub undone_becomes : (k : Classes) (a b : OrderOutcome) → BecomesOutcome k a b → BecomesOutcome k b a
undone_becomes k a b (x, is, e) = (
  undone x,
  undone_is k x is,
  sym (ap (changed_outcome (undone x)) e ∙ (λ i. record { locals = λ c. a.locals (is.there c i); states = a.states })),
)

pub becomes_then : (k : Classes) (a b c : OrderOutcome) → BecomesOutcome k a b → BecomesOutcome k b c → BecomesOutcome k a c
becomes_then k a b c (x, f, e) (y, g, i) = (then_changed x y, then_is k x y f g, i ∙ ap (changed_outcome y) e)

-- what is told of one of these becomes the outcome
abbrev pub Comes : (StandingShape → OrderOutcome) → Classes → List StandingShape → OrderOutcome → Type 0
Comes f k found o = HasOne (λ s. BecomesOutcome k (f s) o) found

-- what each of these becomes, in one list
pub record AreGathered (f : StandingShape → OrderOutcome) (k : Classes) (found : List StandingShape) (counts : List ℕ)
    (all : List OrderOutcome) : Type 0 where
  pub long : length all ≡ sum counts
  pub sound : AllByRecursion (Comes f k found) all
  pub complete : (o : OrderOutcome) → Comes f k found o → HasOne (λ b. b ≡ o) all
  pub once : NoTwo ◌≡◌ all

module _ (f : StandingShape → OrderOutcome) (k : Classes) where
  -- the list of the first and that of those behind it
  pub joined : (s : StandingShape) (ss : List StandingShape) (n : ℕ) (ns : List ℕ) (mine others : List OrderOutcome)
      → AreChangesOf k (f s) mine → length mine ≡ n → AllByRecursion (λ t. BecomesOutcome k (f s) (f t) → ⊥) ss
      → AreGathered f k ss ns others → AreGathered f k (s ∷ ss) (n ∷ ns) (mine ++ others)
  joined s ss n ns mine others are long apart rest = record {
    long = length-append mine others ∙ (ap (λ m. m + length others) long ∙ (ap (λ m. n + m) rest.long ∙ sym (sum_by-cons (λ m. m) n ns)));
    sound = each_join (Comes f k (s ∷ ss)) mine others
        (each_map {Q = Comes f k (s ∷ ss)} (λ b (w : BecomesOutcome k (f s) b). inl w) mine are.sound)
        (each_map {Q = Comes f k (s ∷ ss)} (λ b (w : Comes f k ss b). inr w) others rest.sound);
    complete = complete;
    once = pairs_join (λ a b. a ≡ b → ⊥) mine others are.once rest.once
        (each_map {Q = λ a. AllByRecursion (λ b. a ≡ b → ⊥) others}
        (λ a (w : BecomesOutcome k (f s) a). each_map {Q = λ b. a ≡ b → ⊥} (λ b (h : Comes f k ss b). differs a b w h) others rest.sound)
        mine are.sound);
  }
    where
      complete : (o : OrderOutcome) → Comes f k (s ∷ ss) o → HasOne (λ b. b ≡ o) (mine ++ others)
      complete o (inl (x, is, e)) =
          has_front (λ b. b ≡ o) mine others
          (has_map (λ b (i : b ≡ changed_outcome x (f s)). i ∙ sym e) mine (are.complete x is))
      complete o (inr h) = has_back (λ b. b ≡ o) mine others (rest.complete o h)

      -- what the first becomes no other one becomes
      differs : (a b : OrderOutcome) → BecomesOutcome k (f s) a → Comes f k ss b → a ≡ b → ⊥
      differs a b w h same =
          has_some
          (λ t (c : BecomesOutcome k (f t) b) (not : BecomesOutcome k (f s) (f t) → ⊥).
          not (becomes_then k (f s) b (f t) (subst (BecomesOutcome k (f s)) same w) (undone_becomes k (f t) b c)))
          ss h apart

  pub gathered : (found : List StandingShape) (counts : List ℕ) → NoTwo (λ s t. BecomesOutcome k (f s) (f t)) found
      → AllZip (λ s n. StandsFor k (f s) n) found counts → (all : List OrderOutcome) × AreGathered f k found counts all
  gathered [] [] once stand = ([], record { long = refl; sound = tt; complete = λ o h. absurd h; once = tt })
  gathered (s ∷ ss) (n ∷ ns) once stand =
      let mine = stand.0 in
      let rest = gathered ss ns once.1 stand.1 in
      (mine.0 ++ rest.0, joined s ss n ns mine.0 rest.0 mine.1 mine.2 once.0 rest.1)
  gathered _ _ once stand = absurd stand

pub counts_are_all : CountsAreAll
counts_are_all p k are full every alike listed =
    let g = gathered outcome_at k alike.found alike.counts listed.once listed.counted in
    let less : length full.found ≤ length g.0 =
    at_most (λ (s : StandingShape) (b : OrderOutcome). b ≡ outcome_at s) (λ s t. outcome_at s ≡ outcome_at t) (λ s t b e i. sym e ∙ i)
    full.found g.0 every.once (each_map (into g.0 g.1) full.found every.sound) in
    let more : length g.0 ≤ length full.found =
    at_most (λ (b : OrderOutcome) (s : StandingShape). outcome_at s ≡ b) ◌≡◌ (λ a b s e i. sym e ∙ i)
    g.0 full.found g.1.once (each_map back g.0 g.1.sound) in
    let long = g.1.long in omega (arith, less, more, long)
  where
    into : (all : List OrderOutcome) → AreGathered outcome_at k alike.found alike.counts all → (s : StandingShape) → IsListed p s → HasOne (λ b. b ≡ outcome_at s) all
    into all g s is =
        g.complete (outcome_at s)
        (has_map (λ t (b : BecomesOutcome k (outcome_at s) (outcome_at t)). undone_becomes k (outcome_at s) (outcome_at t) b) alike.found
        (listed.complete (outcome_at s) (s.order, is.complete, sym is.outcome)))

    back : (b : OrderOutcome) → Comes outcome_at k alike.found b → HasOne (λ s. outcome_at s ≡ b) full.found
    back b h =
        has_some
        (λ t (c : BecomesOutcome k (outcome_at t) b) (end : IsEnd p t).
        let made = changes_keep_outcomes p k are c.0 c.1 (outcome_at t) (t.order, end.complete, sym end.outcome) in
        has_map (λ s (e : outcome_at s ≡ outcome_of p made.0). e ∙ (made.2 ∙ sym c.2)) full.found (every.complete made.0 made.1))
        alike.found h listed.sound
