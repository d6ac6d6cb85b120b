-- What holds of the first jobs of a list and of the others holds of all.
use mathlib.Core.Logic.{⊎_elim}
use denote.Param.Members.{Shared}
use Rattle.std.proofs.Common.{◌≡◌, ◌++◌, ◌-◌, ◌+◌, List, ap, arith, drop, length, length-append, refl, slice_index_or, subst, sym, take, ℕ, ◌∙◌}
use Rattle.qs_levels.proofs.Common.{cases_lt, get_or-append_right, get_or-drop, get_or-take, get_or_append_left, GivesFor, length-drop, length-take, take-append-drop, rules}
use Rattle.std.specs.Fn.{FnReturns}
use Rattle.std.specs.Fork.{AcceptsJobs, GivesJob}

module _ {F J R : Type 0} (g : Shared F (J × Unit {0}) R) (f : F) where
  job_moved : (js ks : List J) (i k : ℕ) (r s : R) → ((d : J) → slice_index_or ks k d ≡ slice_index_or js i d) → r ≡ s
      → GivesJob g f js i r → GivesJob g f ks k s
  job_moved js ks i k r s e w h = search (rules)

  pub accepts_parts : (all js ks : List J) (h : ℕ) → js ≡ take h all → ks ≡ drop h all → AcceptsJobs g f all
      → AcceptsJobs g f js × AcceptsJobs g f ks
  accepts_parts all js ks h front back k = search (rules, get_or-drop, get_or-take, length-drop, length-take)

  jobs_both : (js ks : List J) (xs ys zs : List R) → zs ≡ xs ++ ys → GivesFor g f js xs → GivesFor g f ks ys
      → GivesFor g f (js ++ ks) zs
  jobs_both js ks xs ys zs is a b = search (rules, length-append, cases_lt, get_or-append_right, get_or_append_left, job_moved)

  pub given_parts : (all js ks : List J) (h : ℕ) (xs ys zs : List R) → js ≡ take h all → ks ≡ drop h all → zs ≡ xs ++ ys
      → GivesFor g f js xs → GivesFor g f ks ys → GivesFor g f all zs
  given_parts all js ks h xs ys zs front back is a b =
      subst (λ l. GivesFor g f l zs) (ap (λ l. l ++ ks) front ∙ ap (λ l. take h all ++ l) back ∙ take-append-drop h all) (jobs_both js ks xs ys zs is a b)
