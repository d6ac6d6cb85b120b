-- The part with the least first lead, as parts come up one after another. Leads are in one order, so what is no more
-- than one lead is no more than all that this one is no more than.
use Rattle.qs_levels.proofs.Common.{◌≡◌, ◌<◌, ◌+◌, ℕ, List, [], ◌∷◌, Option, None, Some, length, slice_index_or, refl, sym, subst, arith, inl, inr, cases_eq, IsBetter, IsLeastPart, IsLeastTo, IsLess}
use Rattle.qs_levels.proofs.Common.{IsNoMore, IsNoMoreThanFirst, first_lead, Found, rules}
use Rattle.qs_levels.specs.declared.merging.Candidate.{Candidate}
use Rattle.qs_levels.specs.declared.table.Lead.{Lead}

no_more_both : (l k m : Lead) → IsLess l k → IsNoMore k m → IsNoMore l m
no_more_both l k m less no_more = grind arith

no_more_first : (l k : Lead) (first : Option Lead) → IsLess l k → IsNoMoreThanFirst k first → IsNoMoreThanFirst l first
no_more_first l k None less no_more = tt
no_more_first l k (Some m) less no_more = no_more_both l k m less no_more

module _ (parts : List (List Found)) (n : ℕ) where
  abbrev at : ℕ → Option Lead
  at i = first_lead (slice_index_or parts i [])

  -- what holds of the parts below n and of this one holds of one part more
  one_more : (P : ℕ → Type 0) → ((i : ℕ) → i < n → P i) → P n → (i : ℕ) → i < n + 1 → P i
  one_more P before here i less = elim (cases_eq i n) [ inl same ↦ subst P (sym same) here | inr other ↦ before i (let o : i ≡ n → ⊥ = other in omega (arith, less, o)) ]

  -- the best so far stays, or this part is the best
  old_best : (b : Candidate) → IsLeastTo parts n (Some b) → IsNoMoreThanFirst b.lead (at n) → IsLeastTo parts (n + 1) (Some b)
  old_best b least here = ((let l = least.0 in omega (arith, l)), least.1, one_more (λ i. IsNoMoreThanFirst b.lead (at i)) least.2 here)

  new_best : (l : Lead) → at n ≡ Some l → ((i : ℕ) → i < n → IsNoMoreThanFirst l (at i)) → IsLeastTo parts (n + 1) (Some (record { number = n; lead = l }))
  new_best l e least = (omega arith, e, one_more (λ i. IsNoMoreThanFirst l (at i)) least (subst (IsNoMoreThanFirst l) (sym e) (inr (refl, refl))))

  pub least_on : (best better : Option Candidate) → IsLeastTo parts n best → IsBetter best n (first_lead (slice_index_or parts n [])) better → IsLeastTo parts (n + 1) better
  least_on best better least is = search (rules, no_more_first, one_more, old_best, new_best)

-- a part without a first lead is empty
pub none_first : (fs : List Found) → first_lead fs ≡ None → fs ≡ []
none_first [] e = refl
none_first (f ∷ fs) e = absurd cc

pub least_none : (parts : List (List Found)) → IsLeastTo parts (length parts) None → IsLeastPart parts None
least_none parts least i less = none_first (slice_index_or parts i []) (least i less)

pub least_some : (parts : List (List Found)) (b : Candidate) → IsLeastTo parts (length parts) (Some b) → IsLeastPart parts (Some b.number)
least_some parts b least = search (rules)
