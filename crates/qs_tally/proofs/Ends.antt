-- Standings at the end of complete orders: each client has begun all its blocks, so equal rows are those of equal
-- outcomes, whatever the orders. By this the end to which an order comes is found by its row.
use Rattle.std.proofs.Common.{◌≡◌, ℕ, zero, suc, Bool, true, false, Some, List, [], ◌∷◌, ◌++◌, get_or, map, slice_get, refl, sym, ap, ◌∙◌, subst, inl, inr}
use Rattle.qs_tally.proofs.Common.{AllByRecursion, blocks_of, Configuration, each_snoc, IsComplete, IsFirst, IsInserted, IsStanding, map-append, OrderOutcome, outcome_at, outcome_in, outcome_of, ProgramShape, row_of, RowShape, same_list, StandingShape, Ticket}
use Rattle.qs_program.specs.Sound.{IsSound}
use Rattle.qs_meaning.specs.audit.Serial.{no_state, zeros}
use Rattle.qs_meaning.proofs.Orders.{complete_orders_leave_none, configurations_follow_orders}
use Rattle.qs_standings.specs.Lists.{HasOne}
use Rattle.qs_standings.proofs.RowTells.{same_row, standings_tell}
use Rattle.qs_tally.specs.Counting.{AreTabled, ComesToNone, IsAtEnd, IsPlaced, not_yet}
use Rattle.qs_tally.specs.Tallies.{CameTo, CountedShape, IsEnd, standings_in}

-- at the end of a complete order

pub at_end_of : (p : ProgramShape) (order : List Ticket) (s : StandingShape) → IsComplete p order → IsFirst p order s → IsAtEnd p s
at_end_of p order s complete first = record {
  standing = subst (λ ts. IsStanding p ts s) (sym first.order) first.standing;
  complete = subst (IsComplete p) (sym first.order) complete;
}

pub is_end : (p : ProgramShape) (s : StandingShape) → IsAtEnd p s → IsEnd p s
is_end p s is = record {
  complete = is.complete;
  outcome = ap outcome_in is.standing.stands ∙ configurations_follow_orders p s.order is.standing.legal;
  places = record { locals = is.standing.locals; states = is.standing.states };
}

all_begun : (p : ProgramShape) (s : StandingShape) → IsAtEnd p s → (c : ℕ) → get_or s.begun c 0 ≡ blocks_of p c
all_begun p s is c =
    ap (λ (g : Configuration). g.begun c) is.standing.stands
    ∙ (complete_orders_leave_none p s.order is.standing.legal).0 is.complete c

pub same_rows : (p : ProgramShape) (s t : StandingShape) → IsAtEnd p s → IsAtEnd p t → outcome_at s ≡ outcome_at t → row_of p s ≡ row_of p t
same_rows p s t a b e =
    same_row p s t
    (same_list 0 s.begun t.begun (a.standing.begun ∙ sym b.standing.begun) (λ i. all_begun p s a i ∙ sym (all_begun p t b i)))
    (same_list zeros s.locals t.locals (a.standing.locals ∙ sym b.standing.locals) (λ i. ap (λ (o : OrderOutcome). o.locals i) e))
    (same_list no_state s.states t.states (a.standing.states ∙ sym b.standing.states) (λ i. ap (λ (o : OrderOutcome). o.states i) e))

pub same_ends : (p : ProgramShape) → IsSound p → (s t : StandingShape) → IsAtEnd p s → IsAtEnd p t → row_of p s ≡ row_of p t → outcome_at s ≡ outcome_at t
same_ends p sound s t a b e = ap outcome_in (standings_tell p sound s.order t.order s t a.standing b.standing e)

-- the place of an end, by the place of its row

module _ (p : ProgramShape) (sound : IsSound p) (order : List Ticket) (s : StandingShape) (is : IsAtEnd p s) (along : s.order ≡ order) where
  comes : outcome_at s ≡ outcome_of p order
  comes = (is_end p s is).outcome ∙ ap (outcome_of p) along

  came_at : (ends : List CountedShape) → AllByRecursion (IsAtEnd p) (standings_in ends) → (place : ℕ) → slice_get (map (row_of p) (standings_in ends)) place ≡ Some (row_of p s)
      → CameTo p ends order place
  came_at [] each place e = absurd (cc)
  came_at (x ∷ xs) each zero e = (x, refl, same_ends p sound x.standing s each.0 is (let row : row_of p x.standing ≡ row_of p s = cc in row) ∙ comes)
  came_at (x ∷ xs) each (suc place) e = came_at xs each.1 place e

  to_none : (ts : List StandingShape) → AllByRecursion (IsAtEnd p) ts → (HasOne (λ r. row_of p s ≡ r) (map (row_of p) ts) → ⊥) → ComesToNone p order ts
  to_none [] each none = tt
  to_none (t ∷ ts) each none = (λ e. none (inl (same_rows p s t is each.0 (comes ∙ sym e))), to_none ts each.1 (λ h. none (inr h)))

  module _ (kept after : List RowShape) (before ends : List CountedShape) (place : ℕ) (new : Bool) (tabled : AreTabled p kept before) (inserted : IsInserted kept (row_of p s) new after)
      (here : slice_get after place ≡ Some (row_of p s)) where
    pub old_tabled : new ≡ false → AreTabled p after before
    old_tabled old =
        record { rows = (subst (λ n. IsInserted kept (row_of p s) n after) old inserted).0 ∙ tabled.rows; at_end = tabled.at_end }

    pub old_placed : new ≡ false → IsPlaced p order place before before
    old_placed old = record {
      came = came_at before tabled.at_end place (subst (λ rs. slice_get rs place ≡ Some (row_of p s)) (old_tabled old).rows here);
      either = inl refl;
    }

    more : standings_in (before ++ not_yet s ∷ []) ≡ standings_in before ++ s ∷ []
    more = map-append (λ (e : CountedShape). e.standing) before (not_yet s ∷ [])

    pub new_tabled : new ≡ true → ends ≡ before ++ not_yet s ∷ [] → AreTabled p after ends
    new_tabled is_new are =
        let in_rows = subst (λ n. IsInserted kept (row_of p s) n after) is_new inserted in
        let longer : standings_in ends ≡ standings_in before ++ s ∷ [] = ap standings_in are ∙ more in
        record {
          rows = in_rows.0 ∙ ap (λ rs. rs ++ row_of p s ∷ []) tabled.rows ∙ sym (map-append (row_of p) (standings_in before) (s ∷ [])) ∙ ap (map (row_of p)) (sym longer);
          at_end = subst (AllByRecursion (IsAtEnd p)) (sym longer) (each_snoc (IsAtEnd p) (standings_in before) s tabled.at_end is);
        }

    pub new_placed : new ≡ true → ends ≡ before ++ not_yet s ∷ [] → IsPlaced p order place before ends
    new_placed is_new are =
        let in_rows = subst (λ n. IsInserted kept (row_of p s) n after) is_new inserted in
        let now = new_tabled is_new are in
        record {
          came = came_at ends now.at_end place (subst (λ rs. slice_get rs place ≡ Some (row_of p s)) now.rows here);
          either = inr (record {
            standing = s;
            along = along;
            is_end = is_end p s is;
            longer = are;
            new = to_none (standings_in before) tabled.at_end (subst (λ rs. HasOne (λ r. row_of p s ≡ r) rs → ⊥) tabled.rows in_rows.1);
          });
        }
