-- Where a block is left somebody goes on, and then a lead begins there; and who leads on has a block left.
use Rattle.qs_dot.proofs.Common.{arith, ◌≡◌, ℕ, Bool, true, false, ◌||◌, nat_eq, Some, List, [], ◌∷◌, slice_get, refl, sym, ap, ◌∙◌, subst, inl, inr, true≢false, AllByRecursion, list_any, nat_tests}
use Rattle.qs_dot.proofs.Common.{ProgramShape, Lead, HasOne, NoneNext, HasNext, StandingShape, configuration_in, goes_left, IsLead, IsLeadOf, EndsAreOutcomes}
use Rattle.qs_meaning.proofs.Groups.{some_go_on}

same_number : (m n : ℕ) → m ≡ n → nat_eq m n ≡ true
same_number m n e = grind (arith, nat_tests)

number_same : (m n : ℕ) → nat_eq m n ≡ true → m ≡ n
number_same m n e = grind (arith, nat_tests)

module _ (i : ℕ) where
  abbrev begins : Lead → Bool
  begins l = nat_eq l.from i

  any_of : (c : ℕ) (leads : List Lead) → HasOne (IsLeadOf i c) leads → list_any begins leads ≡ true
  any_of c [] h = absurd h
  any_of c (l ∷ ls) (inl h) = ap (λ b. b || list_any begins ls) (same_number l.from i h.0)
  any_of c (l ∷ ls) (inr h) = (λ k. begins l || any_of c ls h k) ∙ or_true (begins l)
    where
      or_true : (b : Bool) → (b || true) ≡ true
      or_true true = refl
      or_true false = refl

  one_of : (leads : List Lead) → list_any begins leads ≡ true → HasOne (λ (l : Lead). l.from ≡ i) leads
  one_of [] h = absurd (true≢false (sym h))
  one_of (l ∷ ls) h = by_case (begins l) refl h (one_of ls)
    where
      by_case : (b : Bool) → begins l ≡ b → (b || list_any begins ls) ≡ true → (list_any begins ls ≡ true → HasOne (λ (m : Lead). m.from ≡ i) ls) → HasOne (λ (m : Lead). m.from ≡ i) (l ∷ ls)
      by_case true e any later = inl (number_same l.from i e)
      by_case false e any later = inr (later any)

  left_there : (p : ProgramShape) (places : List StandingShape) (s : StandingShape) → slice_get places i ≡ Some s → (leads : List Lead) → HasOne (λ (l : Lead). l.from ≡ i) leads
      → AllByRecursion (IsLead p places) leads → (c : ℕ) × HasNext p s c
  left_there p places s here [] h all = absurd h
  left_there p places s here (l ∷ ls) (inl e) all =
      let both : Some all.0.standing ≡ Some s = sym all.0.begins ∙ (ap (slice_get places) e ∙ here) in
      let from : all.0.standing ≡ s = cc in
      (l.client, subst (λ t. HasNext p t l.client) from (goes_left p all.0.standing l.client all.0.goes))
  left_there p places s here (l ∷ ls) (inr h) all = left_there p places s here ls h all.1

pub ends_are_outcomes : EndsAreOutcomes
ends_are_outcomes p places leads are i s here = (
  λ none c left.
      (let on = (some_go_on p (configuration_in s).begun).some c left in
      true≢false (sym (any_of i on.0 leads (are.all i on.0 s here on.1)) ∙ none)),
  λ none. by_case none (list_any (begins i) leads) refl,
)
  where
    by_case : NoneNext p s → (b : Bool) → list_any (begins i) leads ≡ b → b ≡ false
    by_case none false e = refl
    by_case none true e = let left = left_there i p places s here leads (one_of i leads e) are.each in absurd (none left.0 left.1)
