-- Where the level after a level has nobody, the search is at its end: nobody has a block left there. A complete order
-- is as long as any other, so each comes to one of this level; and no longer order is left. What was noted level by
-- level are all configurations, as those of two levels have begun different numbers of blocks.
use Rattle.qs_levels.proofs.Common.{AllByRecursion, AreApart, AreOutcomesAfter, begun_within, below_or_past, blocks_of, complete_orders_leave_none, Configuration, configuration-append, configuration_after, configuration_in, configurations_follow_orders, each_both, each_join, each_map, first_configuration, goes_left, goes_on, GoesOn, has_back, has_front, has_map, HasConfigurationsAfter, HasMoreThanAfter, HasOne, IsComplete, IsFirst, IsLeastAfter, IsLeastThere, IsLegal, IsListedAfter, IsReducedAfter, IsReducedFrom, IsSound, IsStanding, legal-front, legal-join, legal-rest, NoneNext, OrderOutcome, outcome_at, outcome_in, outcome_of, pairs_join, ProgramShape, reduced_from, reduced_onward, ReducedFrom, StandingShape, Ticket}
use Rattle.qs_levels.proofs.Common.{◌≡◌, ◌<◌, ◌≤◌, ◌+◌, ◌-◌, ℕ, suc, true, List, [], ◌∷◌, ◌++◌, length, refl, sym, ap, ◌∙◌, subst, arith, ◌⊎◌, inl, inr, length-append, IsAfter, IsOnward}
use Rattle.qs_levels.proofs.Common.{HasMoreOnward, StandsFor, AreNotedTo, IsLevel, IsNextOf, IsSearched, rules}
use Rattle.qs_meaning.proofs.Groups.{some_go_on}
use Rattle.qs_outcomes.proofs.Explored.{listed_end}
use Rattle.qs_levels.proofs.meaning.Lists.{two_of}
use Rattle.qs_levels.proofs.meaning.Reaching.{counted, counted_after, equally_long, least_all, level_first, level_on, longer_each, none_later}
use Rattle.qs_levels.proofs.meaning.Weights.{sum_within}

-- ---- what was noted

module _ (p : ProgramShape) (front : List Ticket) (blocks : ℕ) where
  -- those of up to so many blocks and those of one block more
  across : (ss next : List StandingShape) → AllByRecursion (λ s. IsStanding p front s × (length s.order ≤ length front + blocks)) ss → AllByRecursion (IsAfter p front (suc blocks)) next
      → AllByRecursion (λ s. AllByRecursion (λ t. configuration_in s ≡ configuration_in t → ⊥) next) ss
  across ss next each later = search (rules, each_map, counted, equally_long)

  pub notes : (ss next : List StandingShape) → AreNotedTo p front blocks ss → IsLevel p front (suc blocks) next → AreNotedTo p front (suc blocks) (ss ++ next)
  notes ss next noted is = record {
    each = each_join (λ s. IsStanding p front s × (length s.order ≤ length front + suc blocks)) ss next
        (each_map {P = λ s. IsStanding p front s × (length s.order ≤ length front + blocks)} {Q = λ s. IsStanding p front s × (length s.order ≤ length front + suc blocks)}
        (λ s w. (w.0, (let most = w.1 in omega (arith, most)))) ss noted.each)
        (each_map {P = IsAfter p front (suc blocks)} {Q = λ s. IsStanding p front s × (length s.order ≤ length front + suc blocks)}
        (λ s a. (a.standing, (let long = a.long in omega (arith, long)))) next is.each);
    once = pairs_join (λ s t. configuration_in s ≡ configuration_in t → ⊥) ss next noted.once is.once (across ss next noted.each is.each);
    all = λ rest most within on. by_length rest most within on (below_or_past blocks most);
  }
    where
      by_length : (rest : List Ticket) (most : ℕ) → most ≤ suc blocks → IsOnward p front most rest → (blocks < most) ⊎ (most ≤ blocks)
          → HasOne (λ s. configuration_in s ≡ configuration_after p (front ++ rest)) (ss ++ next)
      by_length rest most within on (inl more) =
          has_back (λ s. configuration_in s ≡ configuration_after p (front ++ rest)) ss next
          (has_map (λ s (f : StandsFor p (front ++ rest) s). f.there) next
          (is.reached rest (subst (λ n. IsOnward p front n rest) {x = most} {y = suc blocks} (omega (arith, more, within)) on)))
      by_length rest most within on (inr few) = has_front (λ s. configuration_in s ≡ configuration_after p (front ++ rest)) ss next (noted.all rest most few on)

  -- more than there is room for, with all that was noted before
  pub more_in_all : (ss level : List StandingShape) (room : ℕ) → AreNotedTo p front blocks ss → IsLevel p front blocks level → HasMoreOnward p front level room
      → HasMoreThanAfter p front (length ss + room)
  more_in_all ss level room noted is more =
      let later : AllByRecursion (IsAfter p front (suc blocks)) more.configurations = longer_each p front blocks level more.configurations is.each more.different.reached more.onward in (
        ss ++ more.configurations,
        record {
          count = (let long = length-append ss more.configurations in let count = more.different.count in omega (arith, long, count));
          reached = each_join (IsStanding p front) ss more.configurations (each_map (λ s w. w.0) ss noted.each) more.different.reached;
          different = pairs_join (λ s t. configuration_in s ≡ configuration_in t → ⊥) ss more.configurations noted.once more.different.different (across ss more.configurations noted.each later);
        },
      )

-- the first level alone
pub notes_first : (p : ProgramShape) (front : List Ticket) (level : List StandingShape) → IsLevel p front 0 level → AreNotedTo p front 0 level
notes_first p front level is = search (rules, each_map, has_map)

-- ---- the end

-- complete orders are equally long, and no legal order is longer
complete_long : (p : ProgramShape) (ts us : List Ticket) → IsLegal p ts → IsLegal p us → ((c : ℕ) → (configuration_after p us).begun c ≡ blocks_of p c) → length ts ≤ length us
complete_long p ts us legal other ends =
    let one = counted_after p (first_configuration p) ts legal in
    let two = counted_after p (first_configuration p) us other in
    let most : counted p (configuration_after p ts).begun ≤ counted p (configuration_after p us).begun =
    sum_within (length p.clients) (configuration_after p ts).begun (configuration_after p us).begun
    (λ c less. (let within = begun_within p (first_configuration p) ts c legal (omega arith) in let e = ends c in omega (arith, within, e))) in
    omega (arith, one, two, most)

module _ (p : ProgramShape) (front : List Ticket) (sound : IsSound p) (level : List StandingShape) (count : ℕ) (is : IsSearched p front level [] count) where
  -- whoever goes on leads to the next level
  none_goes : (s : StandingShape) → IsAfter p front is.blocks s → (c : ℕ) → GoesOn p s c → ⊥
  none_goes s a c goes =
      let t : Ticket = record { client = c; index = (configuration_in s).begun c } in
      let index : (configuration_in s).begun c ≡ (configuration_after p s.order).begun c = ap (λ (g : Configuration). g.begun c) a.standing.stands in
      let goes_there : goes_on p (configuration_after p s.order).begun c ≡ true = subst (λ (g : Configuration). goes_on p g.begun c ≡ true) a.standing.stands goes in
      let on : IsReducedAfter p front (s.order ++ t ∷ []) = reduced_onward p front s.order (t ∷ []) a.standing.reduced (goes_there, tt) in
      let legal : IsLegal p (s.order ++ t ∷ []) = legal-join p (first_configuration p) s.order (t ∷ []) a.standing.legal (index, goes_left p s c goes, tt) in
      is.is_next.reached on.rest (record {
        legal = subst (IsLegal p) on.whole legal;
        reduced = on.reduced;
        long = (let whole = ap length on.whole in let long = a.long in let one = length-append s.order (t ∷ []) in let two = length-append front on.rest in omega (arith, whole, long, one, two));
      })

  over : (s : StandingShape) → IsAfter p front is.blocks s → NoneNext p s
  over s a c left = (let on = (some_go_on p (configuration_in s).begun).some c left in none_goes s a on.0 on.1)

  ends_of : (s : StandingShape) → IsAfter p front is.blocks s → (c : ℕ) → (configuration_in s).begun c ≡ blocks_of p c
  ends_of s a c = search (rules, complete_orders_leave_none, listed_end, over)

  listed : AllByRecursion (IsListedAfter p front) level
  listed = each_map (λ s (a : IsAfter p front is.blocks s). listed_end p front s a.standing (over s a)) level is.is_level.each

  -- no reduced order is longer
  not_longer : (rest : List Ticket) → IsLegal p (front ++ rest) → IsReducedFrom p (configuration_after p front) rest → is.blocks < length rest → ⊥
  not_longer rest legal reduced more =
      (none_later p front (suc is.blocks) (length rest) (omega (arith, more)) is.is_next).reached rest (record { legal = legal; reduced = reduced; long = refl })

  complete_all : (rest : List Ticket) → IsComplete p (front ++ rest) → HasOne (λ s. outcome_at s ≡ outcome_of p (front ++ rest)) level
  complete_all rest complete =
      let whole = configuration-append p (first_configuration p) front rest in
      let ends : (c : ℕ) → (configuration_after p (front ++ rest)).begun c ≡ blocks_of p c = (complete_orders_leave_none p (front ++ rest) complete.legal).0 complete in
      let r = reduced_from p sound (length rest) (configuration_after p front) rest (omega arith) (legal-rest p (first_configuration p) front rest complete.legal)
      (λ c. ap (λ (g : Configuration). g.begun c) (sym whole) ∙ ends c) in
      reach rest complete.legal ends r (below_or_past is.blocks (length r.reduced)) (below_or_past (length r.reduced) is.blocks)
    where
      first_of : (ss : List StandingShape) → 0 < length ss → AllByRecursion (IsAfter p front is.blocks) ss → (s : StandingShape) × IsAfter p front is.blocks s
      first_of [] some each = absurd (omega (arith, some))
      first_of (s ∷ ss) some each = (s, each.0)

      reach : (rest : List Ticket) → IsLegal p (front ++ rest) → ((c : ℕ) → (configuration_after p (front ++ rest)).begun c ≡ blocks_of p c)
          → (r : ReducedFrom p (configuration_after p front) rest) → (is.blocks < length r.reduced) ⊎ (length r.reduced ≤ is.blocks) → (length r.reduced < is.blocks) ⊎ (is.blocks ≤ length r.reduced)
          → HasOne (λ s. outcome_at s ≡ outcome_of p (front ++ rest)) level
      reach rest legal ends r more_or_not less_or_not =
          let there : configuration_after p (front ++ r.reduced) ≡ configuration_after p (front ++ rest) =
          configuration-append p (first_configuration p) front r.reduced ∙ r.same ∙ sym (configuration-append p (first_configuration p) front rest) in
          let legal_r : IsLegal p (front ++ r.reduced) = legal-join p (first_configuration p) front r.reduced (legal-front p (first_configuration p) front rest legal) r.legal in
          elim more_or_not [
            | inl more ↦ absurd (not_longer r.reduced legal_r r.is_reduced more)
            | inr few ↦ elim less_or_not [
              | inl less ↦
                  let s = first_of level is.some is.is_level.each in
                  let most = complete_long p s.0.order (front ++ r.reduced) s.1.standing.legal legal_r (λ c. ap (λ (g : Configuration). g.begun c) there ∙ ends c) in
                  let long = s.1.long in
                  let parts = length-append front r.reduced in
                  absurd (omega (arith, less, most, long, parts))
              | inr many ↦
                  has_map (λ s (f : StandsFor p (front ++ r.reduced) s). ap outcome_in (f.there ∙ there) ∙ configurations_follow_orders p (front ++ rest) legal) level
                  (is.is_level.reached r.reduced (record { legal = legal_r; reduced = r.is_reduced; long = omega (arith, few, many) }))
            ]
          ]

  same_whole : (g h : Configuration) → ((c : ℕ) → g.begun c ≡ h.begun c) → ◌≡◌ {A = OrderOutcome} (outcome_in g) (outcome_in h) → g ≡ h
  same_whole g h begun e = λ i. record { begun = λ c. begun c i; locals = (e i).locals; states = (e i).states }

  least : AllByRecursion (IsLeastAfter p front) level
  least = each_both {R = IsLeastAfter p front} (λ s (a : IsAfter p front is.blocks s) (l : IsLeastThere p front s). λ order complete reduced same before.
      l order complete.legal reduced
      (same_whole (configuration_after p order) (configuration_in s) (λ c. (complete_orders_leave_none p order complete.legal).0 complete c ∙ sym (ends_of s a c))
      (configurations_follow_orders p order complete.legal ∙ same)) before) level is.is_level.each (least_all p front is.blocks level is.is_level)

  apart : AreApart level
  apart = two_of {Q = IsAfter p front is.blocks} (λ s t. configuration_in s ≡ configuration_in t → ⊥) (λ s t. outcome_at s ≡ outcome_at t → ⊥)
      (λ s t a b other e. other (same_whole (configuration_in s) (configuration_in t) (λ c. ends_of s a c ∙ sym (ends_of t b c)) e)) level is.is_level.each is.is_level.once

  counted_all : HasConfigurationsAfter p front count
  counted_all = search (rules, below_or_past, each_map, not_longer)

  pub outcomes_of_level : IsLegal p front → AreOutcomesAfter p front (record { found = level; configurations = count })
  outcomes_of_level legal = search (rules, counted, listed, complete_all, least, apart, counted_all)

-- ---- from level to level, by what the code has

module _ (p : ProgramShape) (front : List Ticket) where
  pub search_begins : (first : StandingShape) (level next : List StandingShape) → IsFirst p front first → level ≡ first ∷ [] → IsNextOf p front level next
      → IsSearched p front level next 1
  search_begins first level next is alone led =
      let level_is : IsLevel p front 0 level = subst (IsLevel p front 0) (sym alone) (level_first p front first is) in
      record {
        blocks = 0;
        is_level = level_is;
        some = (let one = ap length alone in omega (arith, one));
        is_next = level_on p front 0 level level_is next led;
        noted = level;
        are_noted = notes_first p front level level_is;
        counted = ap length alone;
      }

  pub search_goes_on : (level next later : List StandingShape) (count : ℕ) → IsSearched p front level next count → 0 < length next → IsNextOf p front next later
      → IsSearched p front next later (count + length next)
  search_goes_on level next later count is some led = record {
    blocks = suc is.blocks;
    is_level = is.is_next;
    some = some;
    is_next = level_on p front (suc is.blocks) next is.is_next later led;
    noted = is.noted ++ next;
    are_noted = notes p front is.blocks is.noted next is.are_noted is.is_next;
    counted = (let long = length-append is.noted next in let count = is.counted in omega (arith, long, count));
  }

-- where there is no room for the next level
pub no_room : (p : ProgramShape) (front : List Ticket) (level next : List StandingShape) (count limit : ℕ) → IsSearched p front level next count → count + length next ≤ limit
    → HasMoreOnward p front next (limit - (count + length next)) → HasMoreThanAfter p front limit
no_room p front level next count limit is small more =
    subst (HasMoreThanAfter p front)
    (let long = length-append is.noted next in let count = is.counted in omega (arith, long, count, small))
    (more_in_all p front (suc is.blocks) (is.noted ++ next) next (limit - (count + length next)) (notes p front is.blocks is.noted next is.are_noted is.is_next) is.is_next more)

pub no_room_first : (p : ProgramShape) (front : List Ticket) (first : StandingShape) (level : List StandingShape) (limit : ℕ) → IsFirst p front first → level ≡ first ∷ [] → 1 ≤ limit
    → HasMoreOnward p front level (limit - 1) → HasMoreThanAfter p front limit
no_room_first p front first level limit is alone some more =
    let level_is : IsLevel p front 0 level = subst (IsLevel p front 0) (sym alone) (level_first p front first is) in
    subst (HasMoreThanAfter p front) (let one = ap length alone in omega (arith, one, some)) (more_in_all p front 0 level level (limit - 1) (notes_first p front level level_is) level_is more)
