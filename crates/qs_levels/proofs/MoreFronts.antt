-- Where a level is more than the limit, and where none is: a level has all configurations after its number of blocks,
-- so no more of them are different than it has standings.
use Rattle.qs_levels.proofs.Common.{◌≡◌, ◌<◌, ◌≤◌, ℕ, suc, List, [], ◌∷◌, ◌++◌, length, refl, sym, ap, ◌∙◌, subst, arith, inl, inr, length-append, AllByRecursion, below_or_past, configuration_after}
use Rattle.qs_levels.proofs.Common.{configuration_in, each_map, has_map, HasMoreThanAfter, HasOne, IsFirst, ProgramShape, StandingShape, Ticket, AreDistinct, IsAfter, IsOnward, IsLevel, HasMoreOnward}
use Rattle.qs_levels.proofs.Common.{StandsFor, HasMoreFronts, rules}
use Rattle.qs_standings.proofs.Pigeonhole.{at_most}
use Rattle.qs_levels.proofs.meaning.Reaching.{level_first, longer_each, none_later, onward_of}

module _ (p : ProgramShape) (front : List Ticket) where
  -- all configurations are more, too
  pub more_than_fronts : (blocks limit : ℕ) → HasMoreFronts p front blocks limit → HasMoreThanAfter p front limit
  more_than_fronts blocks limit more = (more.fronts, record { count = more.count; reached = each_map (λ s (a : IsAfter p front more.done s). a.standing) more.fronts more.each; different = more.different })

  -- there is no room for the first
  pub more_than_no_fronts : (first : StandingShape) (blocks : ℕ) → IsFirst p front first → HasMoreFronts p front blocks 0
  more_than_no_fronts first blocks is = record {
    done = 0;
    within = omega arith;
    fronts = first ∷ [];
    count = refl;
    each = (level_first p front first is).each;
    different = (tt, tt);
  }

  -- there is no room for the next level
  pub more_on : (k blocks limit : ℕ) (level : List StandingShape) → IsLevel p front k level → k < blocks → HasMoreOnward p front level limit → HasMoreFronts p front blocks limit
  more_on k blocks limit level is less more = search (rules, longer_each)

  -- a level has no more standings than there is room for
  in_level : (k : ℕ) (level : List StandingShape) → IsLevel p front k level → (s : StandingShape) → IsAfter p front k s → HasOne (λ t. configuration_in t ≡ configuration_in s) level
  in_level k level is s after = search (rules, length-append, has_map, onward_of)

  no_more : (k limit : ℕ) (level fronts : List StandingShape) → IsLevel p front k level → length level ≤ limit → length fronts ≡ suc limit → AllByRecursion (IsAfter p front k) fronts → AreDistinct fronts → ⊥
  no_more k limit level fronts is small count each different =
      let most : length fronts ≤ length level =
      at_most (λ (s t : StandingShape). configuration_in t ≡ configuration_in s) (λ (s t : StandingShape). configuration_in s ≡ configuration_in t) (λ s t u e f. sym e ∙ f)
      fronts level different (each_map (in_level k level is) fronts each) in
      omega (arith, most, small, count)

  pub few_first : (limit : ℕ) (level : List StandingShape) → IsLevel p front 0 level → length level ≤ limit → HasMoreFronts p front 0 limit → ⊥
  few_first limit level is small more =
      no_more 0 limit level more.fronts is small more.count (subst (λ n. AllByRecursion (IsAfter p front n) more.fronts) (let within = more.within in omega (arith, within)) more.each) more.different

  pub few_next : (k limit : ℕ) (level : List StandingShape) → IsLevel p front (suc k) level → length level ≤ limit → (HasMoreFronts p front k limit → ⊥) → HasMoreFronts p front (suc k) limit → ⊥
  few_next k limit level is small few more = elim (below_or_past k more.done) [
    | inl past ↦ no_more (suc k) limit level more.fronts is small more.count
        (subst (λ n. AllByRecursion (IsAfter p front n) more.fronts) (let within = more.within in omega (arith, within, past)) more.each) more.different
    | inr within ↦ few (record { done = more.done; within = within; fronts = more.fronts; count = more.count; each = more.each; different = more.different })
  ]

  -- once a level has nobody
  pub few_later : (k blocks limit : ℕ) → IsLevel p front k [] → (HasMoreFronts p front k limit → ⊥) → HasMoreFronts p front blocks limit → ⊥
  few_later k blocks limit none few more = elim (below_or_past k more.done) [
    | inl past ↦ no_more more.done limit [] more.fronts (none_later p front k more.done (omega (arith, past)) none) (omega arith) more.count more.each more.different
    | inr within ↦ few (record { done = more.done; within = within; fronts = more.fronts; count = more.count; each = more.each; different = more.different })
  ]
