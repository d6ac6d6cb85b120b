-- A table into which a whole level was led on, or a part of one, keeps all to which this leads. It is sorted, so each
-- order that comes up is after all that are kept.
use Rattle.std.proofs.Common.{◌≡◌, ◌<◌, ◌+◌, ℕ, zero, suc, ◌%◌, ◌==◌, Bool, true, false, if◌then◌else◌, List, [], ◌∷◌, ◌++◌, length, get_or, take, drop, slice_index_or, refl, sym, ap, ◌∙◌, subst, arith, inl, inr}
use Rattle.qs_levels.proofs.Common.{AllByRecursion, and_cases, AreSorted, before_onward, cases_eq, configuration_in, each_back, each_front, each_join, each_map, each_snoc, goes_on, GoesOn, has_map, has_some, HasOne, IsBefore, IsLongerBy, IsSound, IsStanding, length-map, pairs_front, pairs_last, ProgramShape, row_of, same_configurations, StandingShape, take_more, Ticket}
use Rattle.qs_levels.proofs.Common.{AreDistinct, found_in, no_standing, HasMoreOnward, IsOneLonger, order_on, AreKept, IsLedUpTo, IsOverfull, IsTableOf, TableShape, leads, leads_below, is_taken}
use Rattle.qs_levels.proofs.Common.{mark_of, weight, rules}
use Rattle.qs_levels.proofs.Keeping.{up_to}
use Rattle.qs_levels.proofs.meaning.Lists.{all_among, cut_at, flat_map_snoc, two_of}

-- who leads to a configuration of a share goes on
pub taken_goes : (p : ProgramShape) (number count : ℕ) (s : StandingShape) (c : ℕ) → is_taken p number count s c ≡ true → GoesOn p s c
taken_goes p number count s c taken = (and_cases (goes_on p (configuration_in s).begun c) ((mark_of p (configuration_in s).begun + weight c) % count == number) taken).0

-- what holds of the orders by which a standing leads on
module _ (P : List Ticket → Type 0) (p : ProgramShape) (number count : ℕ) where
  each_below : (s : StandingShape) → ((c : ℕ) → GoesOn p s c → P (order_on s c)) → (c : ℕ) → AllByRecursion P (leads_below p number count s c)
  each_below s each zero = tt
  each_below s each (suc c) = by_case (is_taken p number count s c) refl (each_below s each c)
    where
      by_case : (b : Bool) → is_taken p number count s c ≡ b → AllByRecursion P (leads_below p number count s c)
          → AllByRecursion P (if b then leads_below p number count s c ++ order_on s c ∷ [] else leads_below p number count s c)
      by_case true e rest = each_snoc P (leads_below p number count s c) (order_on s c) rest (each c (taken_goes p number count s c e))
      by_case false e rest = rest

  pub each_lead : (ss : List StandingShape) → AllByRecursion (λ s. (c : ℕ) → GoesOn p s c → P (order_on s c)) ss → AllByRecursion P (leads p number count ss)
  each_lead [] each = tt
  each_lead (s ∷ ss) each = each_join P (leads_below p number count s (length p.clients)) (leads p number count ss) (each_below s each.0 (length p.clients)) (each_lead ss each.1)

  -- and the other way
  pub among_below : (s : StandingShape) (c n : ℕ) → c < n → is_taken p number count s c ≡ true → AllByRecursion P (leads_below p number count s n) → P (order_on s c)
  among_below s c zero less taken each = absurd (omega (arith, less))
  among_below s c (suc n) less taken each = elim (cases_eq c n) [
    | inl same ↦
        subst (λ k. P (order_on s k)) (sym same)
        (each_back P (leads_below p number count s n) (order_on s n ∷ [])
        (subst (λ b. AllByRecursion P (if b then leads_below p number count s n ++ order_on s n ∷ [] else leads_below p number count s n)) (ap (is_taken p number count s) (sym same) ∙ taken) each)).0
    | inr other ↦ among_below s c n (let o : c ≡ n → ⊥ = other in omega (arith, less, o)) taken (front_of (is_taken p number count s n) each)
  ]
    where
      front_of : (b : Bool) → AllByRecursion P (if b then leads_below p number count s n ++ order_on s n ∷ [] else leads_below p number count s n) → AllByRecursion P (leads_below p number count s n)
      front_of true h = each_front P (leads_below p number count s n) (order_on s n ∷ []) h
      front_of false h = h

  pub lead_each : (ss : List StandingShape) → AllByRecursion P (leads p number count ss) → AllByRecursion (λ s. AllByRecursion P (leads_below p number count s (length p.clients))) ss
  lead_each [] each = tt
  lead_each (s ∷ ss) each = (
    each_front P (leads_below p number count s (length p.clients)) (leads p number count ss) each,
    lead_each ss (each_back P (leads_below p number count s (length p.clients)) (leads p number count ss) each),
  )

-- each of these orders is longer by one block than one of the standings
pub one_longer : (p : ProgramShape) (level : List StandingShape)
    → AllByRecursion (λ s. (c : ℕ) → GoesOn p s c → HasOne (λ d. (ticket : Ticket) × IsLongerBy d.order (ticket ∷ []) (order_on s c)) level) level
one_longer p level =
    each_map {Q = λ s. (c : ℕ) → GoesOn p s c → HasOne (λ d. (ticket : Ticket) × IsLongerBy d.order (ticket ∷ []) (order_on s c)) level} (λ s (h : HasOne (λ d. d ≡ s) level) c goes.
    has_map (λ d (e : d ≡ s). (record { client = c; index = (configuration_in s).begun c }, ap (λ (x : StandingShape). x.order ++ record { client = c; index = (configuration_in s).begun c } ∷ []) (sym e))) level h)
    level (all_among level)

module _ (p : ProgramShape) (front : List Ticket) where
  pub kept_onward : (level : List StandingShape) (orders : List (List Ticket)) (kept_ones : List StandingShape) → AllByRecursion (λ o. HasOne (λ d. (ticket : Ticket) × IsLongerBy d.order (ticket ∷ []) o) level) orders
      → AreKept p front orders kept_ones → AllByRecursion (λ n. HasOne (λ s. IsOneLonger s n) level) kept_ones
  kept_onward level orders kept_ones each kept =
      each_map (λ n (by : HasOne (λ o. n.order ≡ o) orders).
      has_some (λ o (e : n.order ≡ o) (h : HasOne (λ d. (ticket : Ticket) × IsLongerBy d.order (ticket ∷ []) o) level).
      has_map (λ d (w : (ticket : Ticket) × IsLongerBy d.order (ticket ∷ []) o). (w.0, e ∙ w.1)) level h) orders by each)
      kept_ones kept.by_order

  pub kept_distinct : (orders : List (List Ticket)) (kept_ones : List StandingShape) → AreKept p front orders kept_ones → AreDistinct kept_ones
  kept_distinct orders kept_ones kept = search (rules, same_configurations, two_of)

module _ (p : ProgramShape) (front : List Ticket) (sound : IsSound p) (number count : ℕ) where
  -- all that are kept are before the next standing
  kept_before : (done : List StandingShape) (s : StandingShape) (kept_ones : List StandingShape) → AreSorted (done ++ s ∷ []) → AreKept p front (leads p number count done) kept_ones
      → AllByRecursion (λ m. IsBefore m.order s.order) kept_ones
  kept_before done s kept_ones sorted kept =
      each_map (λ m (by : HasOne (λ o. m.order ≡ o) (leads p number count done)).
      has_some (λ o (e : m.order ≡ o) (b : IsBefore o s.order). subst (λ ts. IsBefore ts s.order) (sym e) b) (leads p number count done) by
      (each_lead (λ o. IsBefore o s.order) p number count done
      (each_map {Q = λ d. (c : ℕ) → GoesOn p d c → IsBefore (order_on d c) s.order} (λ d (b : IsBefore d.order s.order) c goes.
      before_onward d.order s.order (record { client = c; index = (configuration_in d).begun c } ∷ []) b) done
      (pairs_last (λ d e. IsBefore d.order e.order) done s sorted)))) kept_ones kept.by_order

  sorted_to : (level : List StandingShape) (i : ℕ) (s : StandingShape) → i < length level → s ≡ get_or level i s → AreSorted level → AreSorted (take i level ++ s ∷ [])
  sorted_to level i s less is sorted =
      pairs_front (λ d e. IsBefore d.order e.order) (take i level ++ s ∷ []) (drop (suc i) level) (subst AreSorted (sym (cut_at level i s less is)) sorted)

  -- one place more
  pub led_at : (level : List StandingShape) (i : ℕ) (s : StandingShape) → i < length level → s ≡ get_or level i s → s ≡ slice_index_or level i no_standing → AreSorted level → (t after : TableShape)
      → IsTableOf p front number count level (leads p number count (take i level)) t → IsLedUpTo p front number count s i (length p.clients) t after
      → IsTableOf p front number count level (leads p number count (take (i + 1) level)) after
  led_at level i s less is at sorted t after table led =
      let now : leads p number count (take i level) ++ leads_below p number count s (length p.clients) ≡ leads p number count (take (i + 1) level) =
      sym (flat_map_snoc (λ s. leads_below p number count s (length p.clients)) (take i level) s) ∙ ap (leads p number count) (ap (λ x. take i level ++ x ∷ []) is ∙ sym (take_more level i s less)) in
      subst (λ os. IsTableOf p front number count level os after) now
      (up_to p front sound number count level i s less at (leads p number count (take i level)) t table
      (kept_before (take i level) s (found_in t.found) (sorted_to level i s less is sorted) table.kept) (length p.clients) after led).far

  -- where there was no room
  pub too_many : (level : List StandingShape) (i : ℕ) (s : StandingShape) → i < length level → s ≡ get_or level i s → s ≡ slice_index_or level i no_standing → AreSorted level → (t : TableShape)
      → IsTableOf p front number count level (leads p number count (take i level)) t → (room c : ℕ) (after : TableShape) → IsLedUpTo p front number count s i c t after → IsOverfull room after
      → HasMoreOnward p front level room
  too_many level i s less is at sorted t table room c after led full =
      let whole : (take i level ++ s ∷ []) ++ drop (suc i) level ≡ level = cut_at level i s less is in
      let now : IsTableOf p front number count level (leads p number count (take i level) ++ leads_below p number count s c) after =
      (up_to p front sound number count level i s less at (leads p number count (take i level)) t table
      (kept_before (take i level) s (found_in t.found) (sorted_to level i s less is sorted) table.kept) c after led).far in
      let R : StandingShape → Type 0 = λ s. (c : ℕ) → GoesOn p s c → HasOne (λ d. (ticket : Ticket) × IsLongerBy d.order (ticket ∷ []) (order_on s c)) level in
      let longer : AllByRecursion R (take i level ++ s ∷ []) = each_front R (take i level ++ s ∷ []) (drop (suc i) level) (subst (AllByRecursion R) (sym whole) (one_longer p level)) in
      let P : List Ticket → Type 0 = λ o. HasOne (λ d. (ticket : Ticket) × IsLongerBy d.order (ticket ∷ []) o) level in
      record {
        configurations = found_in after.found;
        different = record {
          count = sym (length-map (found_in after.found) (row_of p)) ∙ ap length (sym now.are_rows) ∙ full;
          reached = now.kept.standing;
          different = kept_distinct p front (leads p number count (take i level) ++ leads_below p number count s c) (found_in after.found) now.kept;
        };
        onward = kept_onward p front level (leads p number count (take i level) ++ leads_below p number count s c) (found_in after.found)
            (each_join P (leads p number count (take i level)) (leads_below p number count s c) (each_lead P p number count (take i level) (each_front R (take i level) (s ∷ []) longer))
            (each_below P p number count s (each_back R (take i level) (s ∷ []) longer).0 c)) now.kept;
      }

-- nothing was led on yet
pub no_table : (p : ProgramShape) (front : List Ticket) (number count : ℕ) (ss : List StandingShape) → IsTableOf p front number count ss [] (record { rows = []; found = [] })
no_table p front number count ss = search (rules)
