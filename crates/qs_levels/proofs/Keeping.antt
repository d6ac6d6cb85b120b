-- What a table keeps, as orders come up one after another, each after all that are kept: where a row is new, its
-- lead is added; where it is there, the lead there came by an order that is before. So of all orders that lead to one
-- configuration the least is kept.
use Rattle.std.proofs.Common.{◌≡◌, ◌<◌, ℕ, zero, suc, Bool, true, false, true≢false, if◌then◌else◌, List, [], ◌∷◌, ◌++◌, length, map, slice_index_or, refl, sym, ap, ◌∙◌, subst, arith, ◌⊎◌, inl, inr, append_assoc, append-nil}
use Rattle.qs_levels.proofs.Common.{AllByRecursion, before_both, before_longer, cases_Bool, configuration_after, configuration_in, each_both, each_map, each_snoc, fork, has_back, has_front, has_of, HasOne, IsBefore, IsNext, IsSound, IsStanding, none_of, pairs_join, ProgramShape, row_of, row_tells, StandingShape, Ticket, two_snoc}
use Rattle.qs_levels.proofs.Common.{Found, found_in, no_standing, IsReached, StandsFor, order_on, AreKept, IsLead, IsLedOn, IsLedUpTo, IsTableOf, TableShape, leads_below, with_lead, is_taken}
use Rattle.qs_levels.proofs.meaning.Lists.{has_mapped, map_snoc, mapped_has}

module _ (p : ProgramShape) (front : List Ticket) (sound : IsSound p) where
  -- of an order that is after all that are kept, and the standing to which it leads
  module _ (orders : List (List Ticket)) (kept_ones : List StandingShape) (n : StandingShape) (order : List Ticket) (is : IsStanding p front n) (by_it : n.order ≡ order)
      (before : AllByRecursion (λ m. IsBefore m.order order) kept_ones) (kept : AreKept p front orders kept_ones) where
    there : configuration_in n ≡ configuration_after p order
    there = is.stands ∙ ap (configuration_after p) by_it

    keeps_new : (HasOne (λ m. row_of p n ≡ row_of p m) kept_ones → ⊥) → AreKept p front (orders ++ order ∷ []) (kept_ones ++ n ∷ [])
    keeps_new new = record {
      standing = each_snoc (IsStanding p front) kept_ones n kept.standing is;
      by_order = each_snoc (λ s. HasOne (λ o. s.order ≡ o) (orders ++ order ∷ [])) kept_ones n
          (each_map (λ s h. has_front (λ o. s.order ≡ o) orders (order ∷ []) h) kept_ones kept.by_order)
          (has_back (λ o. n.order ≡ o) orders (order ∷ []) (inl by_it));
      once = two_snoc (λ s t. row_of p s ≡ row_of p t) kept_ones n kept.once
          (each_map {Q = λ m. row_of p m ≡ row_of p n → ⊥} (λ m (other : row_of p n ≡ row_of p m → ⊥) e. other (sym e)) kept_ones (none_of (λ m. row_of p n ≡ row_of p m) kept_ones new));
      sorted = pairs_join (λ s m. IsBefore s.order m.order) kept_ones (n ∷ []) kept.sorted (tt, tt)
          (each_map (λ m (b : IsBefore m.order order). (subst (IsBefore m.order) (sym by_it) b, tt)) kept_ones before);
      reached = each_snoc (IsReached p (kept_ones ++ n ∷ [])) orders order
          (each_map (λ o h. has_front (StandsFor p o) kept_ones (n ∷ []) h) orders kept.reached)
          (has_back (StandsFor p order) kept_ones (n ∷ []) (inl (record { there = there; early = inl by_it })));
    }

    keeps_old : HasOne (λ m. row_of p n ≡ row_of p m) kept_ones → AreKept p front (orders ++ order ∷ []) kept_ones
    keeps_old old = record {
      standing = kept.standing;
      by_order = each_map (λ s h. has_front (λ o. s.order ≡ o) orders (order ∷ []) h) kept_ones kept.by_order;
      once = kept.once;
      sorted = kept.sorted;
      reached = each_snoc (IsReached p kept_ones) orders order kept.reached
          (has_of
          (λ m (e : row_of p n ≡ row_of p m) (w : IsStanding p front m × IsBefore m.order order).
          (let far : StandsFor p order m = record { there = row_tells p front sound m n w.0 is (sym e) ∙ there; early = inr w.1 } in far))
          kept_ones old (each_both (λ m a b. (a, b)) kept_ones kept.standing before));
    }

  -- the standing at a place, whose order is after all that are kept, is led on by the clients below a number
  module _ (number count : ℕ) (ss : List StandingShape) (place : ℕ) (s : StandingShape) (within : place < length ss) (at_place : s ≡ slice_index_or ss place no_standing)
      (orders : List (List Ticket)) (t : TableShape) (table : IsTableOf p front number count ss orders t) (before : AllByRecursion (λ m. IsBefore m.order s.order) (found_in t.found)) where
    pub record IsFarOn (c : ℕ) (after : TableShape) : Type 0 where
      pub far : IsTableOf p front number count ss (orders ++ leads_below p number count s c) after
      pub ahead : AllByRecursion (λ m. IsBefore m.order (order_on s c)) (found_in after.found)

    next_client : (c : ℕ) → IsBefore (order_on s c) (order_on s (suc c))
    next_client c = fork s.order (record { client = c; index = (configuration_in s).begun c }) (record { client = suc c; index = (configuration_in s).begun (suc c) }) (omega arith)

    abbrev found_by : ℕ → StandingShape → ℕ → Found
    found_by c n going = record { lead = record { source = place; client = c }; standing = n; going = going }

    lead_is : (c : ℕ) (n : StandingShape) (going : ℕ) → is_taken p number count s c ≡ true → IsNext p front s c n → IsLead p front number count ss (found_by c n going)
    lead_is c n going taken next = record { within = within; taken = subst (λ s. is_taken p number count s c ≡ true) at_place taken; next = subst (λ s. IsNext p front s c n) at_place next }

    -- one client more, who leads on
    leads_one : (c : ℕ) (middle after : TableShape) → is_taken p number count s c ≡ true → IsFarOn c middle → IsLedOn p front s (record { source = place; client = c }) middle after
        → IsFarOn (suc c) after
    leads_one c middle after taken so_far (n, next, either) = by_row either
      where
        now : (orders ++ leads_below p number count s c) ++ order_on s c ∷ [] ≡ orders ++ leads_below p number count s (suc c)
        now =
            append_assoc orders (leads_below p number count s c) (order_on s c ∷ [])
            ∙ ap (λ os. orders ++ os) (sym (ap (λ (b : Bool). if b then leads_below p number count s c ++ order_on s c ∷ [] else leads_below p number count s c) taken))

        behind : AllByRecursion (λ m. IsBefore m.order (order_on s (suc c))) (found_in middle.found)
        behind = each_map (λ m b. before_both m.order (order_on s c) (order_on s (suc c)) b (next_client c)) (found_in middle.found) so_far.ahead

        longer : (going : ℕ) → found_in (middle.found ++ found_by c n going ∷ []) ≡ found_in middle.found ++ n ∷ []
        longer going = map_snoc (λ (f : Found). f.standing) middle.found (found_by c n going)

        by_row : ((HasOne (λ r. row_of p n ≡ r) middle.rows → ⊥) × (going : ℕ) × (after ≡ with_lead p middle (record { source = place; client = c }) n going))
            ⊎ (HasOne (λ r. row_of p n ≡ r) middle.rows × (after ≡ middle)) → IsFarOn (suc c) after
        by_row (inl (new, going, same)) = subst (IsFarOn (suc c)) (sym same) (record {
          far = record {
            are_rows = ap (λ rs. rs ++ row_of p n ∷ []) so_far.far.are_rows ∙ (sym (map_snoc (row_of p) (found_in middle.found) n) ∙ ap (map (row_of p)) (sym (longer going)));
            kept = subst (λ ns. AreKept p front (orders ++ leads_below p number count s (suc c)) ns) (sym (longer going)) (subst (λ os. AreKept p front os (found_in middle.found ++ n ∷ [])) now
                (keeps_new _ (found_in middle.found) n (order_on s c) next.standing next.order so_far.ahead so_far.far.kept
                (λ h. new (rw so_far.far.are_rows (mapped_has (row_of p) _ (found_in middle.found) h)))));
            by_lead = each_snoc (IsLead p front number count ss) middle.found (found_by c n going) so_far.far.by_lead (lead_is c n going taken next);
          };
          ahead = subst (AllByRecursion (λ m. IsBefore m.order (order_on s (suc c)))) (sym (longer going))
              (each_snoc (λ m. IsBefore m.order (order_on s (suc c))) (found_in middle.found) n behind (subst (λ ts. IsBefore ts (order_on s (suc c))) (sym next.order) (next_client c)));
        })
        by_row (inr (old, same)) = subst (IsFarOn (suc c)) (sym same) (record {
          far = record {
            are_rows = so_far.far.are_rows;
            kept = subst (λ os. AreKept p front os (found_in middle.found)) now (keeps_old _ (found_in middle.found) n (order_on s c) next.standing next.order so_far.ahead so_far.far.kept
                (has_mapped (row_of p) (λ r. row_of p n ≡ r) (found_in middle.found) (rw so_far.far.are_rows at old)));
            by_lead = so_far.far.by_lead;
          };
          ahead = behind;
        })

    -- one who does not
    leads_none : (c : ℕ) (middle : TableShape) → is_taken p number count s c ≡ false → IsFarOn c middle → IsFarOn (suc c) middle
    leads_none c middle stays so_far = record {
      far = record {
        are_rows = so_far.far.are_rows;
        kept = subst (λ os. AreKept p front os (found_in middle.found))
            (ap (λ os. orders ++ os) (sym (ap (λ (b : Bool). if b then leads_below p number count s c ++ order_on s c ∷ [] else leads_below p number count s c) stays))) so_far.far.kept;
        by_lead = so_far.far.by_lead;
      };
      ahead = each_map (λ m b. before_both m.order (order_on s c) (order_on s (suc c)) b (next_client c)) (found_in middle.found) so_far.ahead;
    }

    pub up_to : (c : ℕ) (after : TableShape) → IsLedUpTo p front number count s place c t after → IsFarOn c after
    up_to zero after e = subst (IsFarOn zero) (sym e) (record {
      far = record {
        are_rows = table.are_rows;
        kept = subst (λ os. AreKept p front os (found_in t.found)) (sym (append-nil orders)) table.kept;
        by_lead = table.by_lead;
      };
      ahead = each_map (λ m b. before_longer m.order s.order (record { client = 0; index = (configuration_in s).begun 0 } ∷ []) b) (found_in t.found) before;
    })
    up_to (suc c) after (middle, far, on, off) = elim (cases_Bool (is_taken p number count s c)) [
      | inl taken ↦ leads_one c middle after taken (up_to c middle far) (on taken)
      | inr stays ↦ subst (IsFarOn (suc c)) (sym (off stays)) (leads_none c middle stays (up_to c middle far))
    ]

-- nobody leads on
pub none_up_to : (p : ProgramShape) (front : List Ticket) (number count : ℕ) (s : StandingShape) (place : ℕ) (t : TableShape) (c : ℕ) → ((d : ℕ) → d < c → is_taken p number count s d ≡ false) → IsLedUpTo p front number count s place c t t
none_up_to p front number count s place t zero none = refl
none_up_to p front number count s place t (suc c) none = (t, none_up_to p front number count s place t c (λ d less. none d (omega (arith, less))), (λ taken. absurd (true≢false (sym taken ∙ none c (omega arith)))), (λ stays. refl))
