-- One step of a search: a standing with the next block of a client is where it leads, and its key is the row that was
-- written of it.
use Rattle.std.proofs.Common.{◌≡◌, ◌<◌, ◌≤◌, ℕ, List, [], ◌∷◌, ◌++◌, length, refl, sym, ap, subst, ◌∙◌, arith, inl, inr, Option, None, Some, length-append, ℤ}
use Rattle.qs_objects.specs.audit.Act.{State}
use Rattle.qs_outcomes.proofs.Common.{AreAlone, becomes_itself, block_on, Classes, configuration_in, followed_onward, GoesOnUpTo, has_map, HasNext, HasOne, HasRun, IsFollowedAfter, IsKey, IsOneOn, IsStanding, key_alone, one_key, only_reduced, ProgramShape, row_of, RowShape, standing_with_block, StandingShape, Ticket}
use Rattle.qs_outcomes.specs.Reached.{IsFollowedTo}
use Rattle.qs_outcomes.specs.Search.{IsOn, IsPushed}
use Rattle.qs_outcomes.specs.Searches.{IsLed}

module _ {p : ProgramShape} {s : StandingShape} {c : ℕ} {values : List ℤ} {left : List State} (standing : IsStanding p s.order s)
    (client : c < length p.clients) (next : HasNext p s c) (ran : HasRun p s c values left) {n : StandingShape} (same : n ≡ standing_with_block s c values left) where
  pub one_on : IsOneOn p s c n
  one_on = subst (IsOneOn p s c) (sym same) (block_on p s.order s c values left standing client next ran)

  -- where all are alone, the row of where it leads is its key
  pub row_key : {k : Classes} → AreAlone k → {r : RowShape} → r ≡ row_of p (standing_with_block s c values left) → IsKey p k n r
  row_key {k} alone row = subst (IsKey p k n) (sym (row ∙ ap (row_of p) (sym same))) (key_alone p k alone n one_on.standing)

-- a row that was seen, as the key that it is
pub key_seen : {p : ProgramShape} {k : Classes} {n : StandingShape} {r : RowShape} → IsKey p k n r → (rows : List RowShape)
    → HasOne (λ q. r ≡ q) rows → HasOne (IsKey p k n) rows
key_seen {p} {k} {n} {r} key rows seen = has_map (λ q (e : r ≡ q). subst (IsKey p k n) e key) rows seen

-- where no row is the key that was written, none is a key of the standing
pub key_new : {p : ProgramShape} {k : Classes} {s : StandingShape} {q : RowShape} → IsKey p k s q → (rows : List RowShape)
    → (HasOne (λ x. q ≡ x) rows → ⊥) → HasOne (IsKey p k s) rows → ⊥
key_new {p} {k} {s} {q} key rows new seen =
    new (has_map (λ r (other : IsKey p k s r). one_key p k s s q r (becomes_itself k (configuration_in s)) key other) rows seen)

-- the limit is met where one row more is beyond it
pub limit_met : (rows later : List RowShape) (r : RowShape) (limit : ℕ) → later ≡ rows ++ r ∷ [] → length rows ≤ limit → limit < length later
    → length rows ≡ limit
limit_met rows later r limit e few more =
    omega (arith, simp length-append at (ap (length {A = RowShape}) e), few, more)

module _ {p : ProgramShape} {k : Classes} {front : List Ticket} (rows : List RowShape) {s : StandingShape} (c : ℕ) (key : RowShape)
    (to : IsFollowedTo p k only_reduced front s) (goes : GoesOnUpTo p k (configuration_in s) c) where
  on_next : (n : StandingShape) → IsOneOn p s c n → IsOn p k front s c n
  on_next n on = record {
    on = on;
    followed = subst (IsFollowedAfter p k only_reduced front) (sym on.order)
        (followed_onward p k only_reduced front s.order (record { client = c; index = (configuration_in s).begun c } ∷ []) to.followed
        (subst (λ g. GoesOnUpTo p k g c) to.standing.stands goes, tt));
  }

  -- what is pushed of where a block leads
  pub pushed_led : {met : Option StandingShape} → IsLed p k rows s c key met → {n : StandingShape} → met ≡ Some n → (before after : List StandingShape)
      → after ≡ before ++ n ∷ [] → IsPushed p k front rows s c before after
  pushed_led led {n} is before after e =
      let on : IsLed p k rows s c key (Some n) = subst (IsLed p k rows s c key) is led in inl (n, on_next n on.0, e)

  pub none_led : (met : Option StandingShape) → IsLed p k rows s c key met → ((n : StandingShape) → met ≡ Some n → ⊥) → (before : List StandingShape)
      → IsPushed p k front rows s c before before
  none_led (Some n) led not before = absurd (not n refl)
  none_led None (n, on, seen) not before = inr (inl (has_map (λ r (own : IsKey p k n r). (n, on_next n on, own)) rows seen), refl)
