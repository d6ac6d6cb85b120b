-- What the search keeps true: each standing that was taken off the stack is seen, what its next blocks lead to is seen
-- or on the stack, and it is found where no block is left, but for a change. So once the stack is empty, what was seen is
-- closed, and by induction along any legal order its configuration was seen; where the order is complete, it was found.
use Rattle.std.proofs.Common.{◌≡◌, ◌<◌, ◌≤◌, ◌+◌, ℕ, suc, Bool, true, false, List, [], ◌∷◌, ◌++◌, length, sym, ap, ◌∙◌, subst, arith, ◌⊎◌, inl, inr, ⊎_elim, append_assoc, append-nil, length-append}
use Rattle.qs_outcomes.proofs.Common.{AllByRecursion, AreClasses, Becomes, becomes_itself, Classes, configuration_in, each_back, each_front, each_join, each_map, each_snoc, follows_left, GoesOnUpTo, has_back, has_either, has_front, has_map, has_only, has_place, HasOne, IsFirst, IsKey, IsOneOn, IsSound, IsStanding, key_kept, nil_from_length, none_of, NoneNext, NoTwo, only_reduced, Orders, pairs_join, ProgramShape, RowShape, StandingShape, Ticket, two_snoc}
use Rattle.qs_outcomes.specs.LeastOrders.{IsBefore, IsLeastFirst}
use Rattle.qs_outcomes.specs.Reached.{HasNoted, IsFollowedTo}
use Rattle.qs_outcomes.specs.Search.{AreNextFrom, IsExplored, IsFound, IsLonger, IsNoted, IsOn, IsPushed, IsReachedBy, IsSeen, IsSeenOrAhead, WasSeen}
use Rattle.qs_outcomes.proofs.Before.{fork}
use Rattle.qs_outcomes.proofs.Explored.{noted_one_more}
use Rattle.qs_outcomes.proofs.LeastFirst.{first_ends, first_pushes, first_skips}
use Rattle.qs_outcomes.proofs.Steps.{key_new}

here_or_above : (c d : ℕ) → c ≤ d → (c ≡ d) ⊎ (suc c ≤ d)
here_or_above c d h = grind arith

-- whatever was reached stays so, where the last of the stack was seen
reached_on : (p : ProgramShape) (k : Classes) (Q : StandingShape → Type 0) (rows later : List RowShape) (stack now : List StandingShape) (s : StandingShape)
    → HasOne (IsKey p k s) later → ((P : RowShape → Type 0) → HasOne P rows → HasOne P later) → ((P : StandingShape → Type 0) → HasOne P stack → HasOne P now)
    → IsSeenOrAhead p k Q rows (stack ++ s ∷ []) → IsSeenOrAhead p k Q later now
reached_on p k Q rows later stack now s seen more on (inl h) =
    ⊎_elim
    (λ (before : HasOne Q stack). inl (on Q before))
    (λ (last : HasOne Q (s ∷ [])). inr (has_map (λ r (key : IsKey p k s r). (s, has_only Q s last, key)) later seen))
    (has_either Q stack (s ∷ []) h)
reached_on p k Q rows later stack now s seen more on (inr h) = inr (more _ h)

-- a row that is no key of a standing is another than its own
other_key : (p : ProgramShape) (k : Classes) (s : StandingShape) (q : RowShape) → IsKey p k s q → (rows : List RowShape)
    → (HasOne (IsKey p k s) rows → ⊥) → AllByRecursion (λ r. r ≡ q → ⊥) rows
other_key p k s q key rows new =
    each_map {Q = λ r. r ≡ q → ⊥} (λ r (other : IsKey p k s r → ⊥) e. other (subst (IsKey p k s) (sym e) key)) rows (none_of (IsKey p k s) rows new)

-- a next block makes an order longer by one
pub longer_on : {p : ProgramShape} {s n : StandingShape} {c : ℕ} → IsOneOn p s c n → length n.order ≡ suc (length s.order)
longer_on on = omega (arith, simp length-append at (ap (length {A = Ticket}) on.order))

module _ {p : ProgramShape} {k : Classes} {front : List Ticket} (sound : IsSound p) (are : AreClasses p k) {rows : List RowShape}
    (stack : List StandingShape) {found : List StandingShape} (s : StandingShape) (explored : IsExplored p k front rows (stack ++ s ∷ []) found) where
  abbrev To : StandingShape → Type 0
  To t = IsFollowedTo p k only_reduced front t

  pub taken : IsFollowedTo p k only_reduced front s
  taken = (each_back To stack (s ∷ []) explored.stack).0

  near_top : IsReachedBy front (length rows) s
  near_top = (each_back (IsReachedBy front (length rows)) stack (s ∷ []) explored.near).0

  -- a standing whose key was seen is done with
  pub skips : HasOne (IsKey p k s) rows → IsExplored p k front rows stack found
  skips seen = record {
    stack = each_front To stack (s ∷ []) explored.stack;
    near = each_front (IsReachedBy front (length rows)) stack (s ∷ []) explored.near;
    first = reached_on p k (IsFirst p front) rows rows stack stack s seen (λ P h. h) (λ P h. h) explored.first;
    seen = each_map (λ r (w : (t : StandingShape) × IsSeen p k front rows (stack ++ s ∷ []) found r t). (
      w.0,
      record {
        to = w.1.to;
        key = w.1.key;
        closed = λ c next. reached_on p k (IsOn p k front w.0 c) rows rows stack stack s seen (λ P h. h) (λ P h. h) (w.1.closed c next);
        found = w.1.found;
      },
    )) rows explored.seen;
    once = explored.once;
    found = explored.found;
    apart = explored.apart;
    least = first_skips sound are stack s taken explored.least seen;
  }

  module _ (q : RowShape) (key : IsKey p k s q) (new : HasOne (IsKey p k s) rows → ⊥) (added results : List StandingShape)
      (next : AreNextFrom p k front (rows ++ q ∷ []) s 0 added)
      (more : (P : StandingShape → Type 0) → HasOne P found → HasOne P results)
      (over : NoneNext p s → HasOne (λ x. Becomes k (configuration_in s) (configuration_in x)) results)
      (all : AllByRecursion (IsFound p k front (rows ++ q ∷ [])) results)
      (apart : NoTwo (λ x y. Becomes k (configuration_in x) (configuration_in y)) results)
      (least : IsLeastFirst p k front (rows ++ q ∷ []) (stack ++ added) results) where
    here : HasOne (IsKey p k s) (rows ++ q ∷ [])
    here = has_back (IsKey p k s) rows (q ∷ []) (inl key)

    onward : (Q : StandingShape → Type 0) → IsSeenOrAhead p k Q rows (stack ++ s ∷ []) → IsSeenOrAhead p k Q (rows ++ q ∷ []) (stack ++ added)
    onward Q = reached_on p k Q rows (rows ++ q ∷ []) stack (stack ++ added) s here (λ P. has_front P rows (q ∷ [])) (λ P. has_front P stack added)

    ahead : (c : ℕ) → IsSeenOrAhead p k (IsOn p k front s c) (rows ++ q ∷ []) added → IsSeenOrAhead p k (IsOn p k front s c) (rows ++ q ∷ []) (stack ++ added)
    ahead c (inl h) = inl (has_back (IsOn p k front s c) stack added h)
    ahead c (inr h) = inr h

    -- with one more noted, so are those on the stack
    near_on : AllByRecursion (IsReachedBy front (length (rows ++ q ∷ []))) (stack ++ added)
    near_on =
        let one : length (rows ++ q ∷ []) ≡ suc (length rows) = omega (arith, length-append rows (q ∷ [])) in
        each_join (IsReachedBy front (length (rows ++ q ∷ []))) stack added
        (each_map (λ t (near : IsReachedBy front (length rows) t).
        let far : length t.order ≤ length front + length (rows ++ q ∷ []) = omega (arith, one, near) in far)
        stack (each_front (IsReachedBy front (length rows)) stack (s ∷ []) explored.near))
        (each_map (λ n (on : (c : ℕ) × (0 ≤ c) × IsOn p k front s c n).
        let long = longer_on on.2.on in let top = near_top in
        let far : length n.order ≤ length front + length (rows ++ q ∷ []) = omega (arith, one, long, top) in far)
        added next.next)

    -- a new one is seen now, with what its next blocks lead to on the stack
    pub sees : IsExplored p k front (rows ++ q ∷ []) (stack ++ added) results
    sees = record {
      stack = each_join To stack added (each_front To stack (s ∷ []) explored.stack)
          (each_map (λ n (on : (c : ℕ) × (0 ≤ c) × IsOn p k front s c n). record { standing = on.2.on.standing; followed = on.2.followed }) added next.next);
      near = near_on;
      first = onward (IsFirst p front) explored.first;
      seen = each_snoc (λ r. (t : StandingShape) × IsSeen p k front (rows ++ q ∷ []) (stack ++ added) results r t) rows q
          (each_map (λ r (w : (t : StandingShape) × IsSeen p k front rows (stack ++ s ∷ []) found r t). (
            w.0,
            record {
              to = w.1.to;
              key = w.1.key;
              closed = λ c left. onward (IsOn p k front w.0 c) (w.1.closed c left);
              found = λ none. more _ (w.1.found none);
            },
          )) rows explored.seen) (
            s,
            record {
              to = taken;
              key = key;
              closed = λ c goes. ahead c (next.each c (omega arith) (has_place p c ((configuration_in s).begun c) (follows_left p k are only_reduced (configuration_in s) c goes)) goes);
              found = over;
            },
          );
      once = two_snoc ◌≡◌ rows q explored.once (other_key p k s q key rows new);
      found = all;
      apart = apart;
      least = least;
    }

  found_on : (q : RowShape) (xs : List StandingShape) → AllByRecursion (IsFound p k front rows) xs → AllByRecursion (IsFound p k front (rows ++ q ∷ [])) xs
  found_on q xs h = each_map (λ x (f : IsFound p k front rows x). record { to = f.to; over = f.over; seen = has_front (IsKey p k x) rows (q ∷ []) f.seen }) xs h

  -- where blocks are left, nothing more is found
  pub sees_on : (q : RowShape) → IsKey p k s q → (HasOne (IsKey p k s) rows → ⊥) → (added : List StandingShape) → AreNextFrom p k front (rows ++ q ∷ []) s 0 added
      → (NoneNext p s → ⊥) → IsExplored p k front (rows ++ q ∷ []) (stack ++ added) found
  sees_on q key new added next some = sees q key new added found next (λ P h. h) (λ none. absurd (some none)) (found_on q found explored.found) explored.apart
      (first_pushes sound are stack s taken explored.least q key added next)

  -- where none is left, the standing is found
  pub sees_end : (q : RowShape) → IsKey p k s q → (HasOne (IsKey p k s) rows → ⊥) → AreNextFrom p k front (rows ++ q ∷ []) s 0 [] → NoneNext p s
      → IsExplored p k front (rows ++ q ∷ []) (stack ++ []) (found ++ s ∷ [])
  sees_end q key new next none =
      sees q key new [] (found ++ s ∷ []) next (λ P. has_front P found (s ∷ []))
      (λ _. has_back (λ x. Becomes k (configuration_in s) (configuration_in x)) found (s ∷ []) (inl (becomes_itself k (configuration_in s))))
      (each_snoc (IsFound p k front (rows ++ q ∷ [])) found s (found_on q found explored.found)
      (record { to = taken; over = none; seen = has_back (IsKey p k s) rows (q ∷ []) (inl key) }))
      (two_snoc (λ x y. Becomes k (configuration_in x) (configuration_in y)) found s explored.apart
      (each_map {Q = λ x. Becomes k (configuration_in x) (configuration_in s) → ⊥}
      (λ x (f : IsFound p k front rows x) becomes. new (has_map (λ r. key_kept p k x s r becomes) rows f.seen)) found explored.found))
      (first_ends sound are stack s taken explored.least q key new next)

-- one more pushed: those of one more client
pub pushed_on : (p : ProgramShape) (k : Classes) (front : List Ticket) (rows : List RowShape) (s : StandingShape) (c : ℕ) (before middle after : List StandingShape) → c < length p.clients
    → IsLonger p k front rows s (suc c) before middle → IsPushed p k front rows s c middle after → IsLonger p k front rows s c before after
pushed_on p k front rows s c before middle after client (added, is, next) (inl (n, on, now)) = (
  added ++ n ∷ [],
  now ∙ (ap (λ xs. xs ++ n ∷ []) is ∙ append_assoc before added (n ∷ [])),
  record {
    next = each_snoc (λ m. (d : ℕ) × (c ≤ d) × IsOn p k front s d m) added n
        (each_map (λ m (w : (d : ℕ) × (suc c ≤ d) × IsOn p k front s d m). (w.0, (let above = w.1 in omega (arith, above)), w.2)) added next.next) (c, omega arith, on);
    sorted = pairs_join (λ l m. IsBefore m.order l.order) added (n ∷ []) next.sorted (tt, tt)
        (each_map (λ m (w : (d : ℕ) × (suc c ≤ d) × IsOn p k front s d m). (next_before m w.0 w.1 w.2, tt)) added next.next);
    each = λ d from within goes.
        ⊎_elim
        (λ (same : c ≡ d). inl (has_back (IsOn p k front s d) added (n ∷ []) (inl (subst (λ e. IsOn p k front s e n) same on))))
        (λ (above : suc c ≤ d). longer d (next.each d above within goes))
        (here_or_above c d from);
    few = (let few = next.few in omega (arith, few, length-append added (n ∷ [])));
  },
)
  where
    next_before : (m : StandingShape) (d : ℕ) → suc c ≤ d → IsOn p k front s d m → IsBefore n.order m.order
    next_before m d above later =
        subst (λ ts. IsBefore ts m.order) (sym on.on.order)
        (subst (IsBefore (s.order ++ record { client = c; index = (configuration_in s).begun c } ∷ [])) (sym later.on.order)
        (fork s.order (record { client = c; index = (configuration_in s).begun c }) (record { client = d; index = (configuration_in s).begun d }) (omega (arith, above))))

    longer : (d : ℕ) → IsSeenOrAhead p k (IsOn p k front s d) rows added → IsSeenOrAhead p k (IsOn p k front s d) rows (added ++ n ∷ [])
    longer d (inl h) = inl (has_front (IsOn p k front s d) added (n ∷ []) h)
    longer d (inr h) = inr h
pushed_on p k front rows s c before middle after client (added, is, next) (inr (why, now)) = (
  added,
  now ∙ is,
  record {
    next = each_map (λ m (w : (d : ℕ) × (suc c ≤ d) × IsOn p k front s d m). (w.0, (let above = w.1 in omega (arith, above)), w.2)) added next.next;
    sorted = next.sorted;
    each = λ d from within goes.
        ⊎_elim
        (λ (same : c ≡ d). subst (λ e. GoesOnUpTo p k (configuration_in s) e → IsSeenOrAhead p k (IsOn p k front s e) rows added) same (λ here. seen_or_not why here) goes)
        (λ (above : suc c ≤ d). next.each d above within goes)
        (here_or_above c d from);
    few = (let few = next.few in omega (arith, few));
  },
)
  where
    seen_or_not : WasSeen p k front rows s c ⊎ (GoesOnUpTo p k (configuration_in s) c → ⊥) → GoesOnUpTo p k (configuration_in s) c
        → IsSeenOrAhead p k (IsOn p k front s c) rows added
    seen_or_not (inl seen) goes = inr seen
    seen_or_not (inr not) goes = absurd (not goes)

-- where no block is left nobody goes on
none_next : (p : ProgramShape) (k : Classes) (front : List Ticket) → AreClasses p k → (rows : List RowShape) (s : StandingShape) → NoneNext p s → AreNextFrom p k front rows s 0 []
none_next p k front are rows s none = record {
  next = tt;
  sorted = tt;
  each = λ c from within goes. absurd (none c (follows_left p k are only_reduced (configuration_in s) c goes));
  few = omega arith;
}

-- a standing that was taken up, by what was noted of it under its key and what was added
module _ {p : ProgramShape} {k : Classes} {front : List Ticket} (sound : IsSound p) (are : AreClasses p k) (limit : ℕ) {rows : List RowShape} (later : List RowShape)
    (stack : List StandingShape) {found : List StandingShape} {s : StandingShape} (explored : IsExplored p k front rows (stack ++ s ∷ []) found)
    {q : RowShape} (key : IsKey p k s q) (new : Bool) (noted : IsNoted rows q limit new later) where
  pub skipped : new ≡ false → IsExplored p k front later stack found
  skipped old =
      let same : IsNoted rows q limit false later = subst (λ b. IsNoted rows q limit b later) old noted in
      subst (λ rs. IsExplored p k front rs stack found) (sym same.0.0)
      (skips sound are stack s explored (has_map (λ r (e : q ≡ r). subst (IsKey p k s) e key) rows same.0.1))

  module _ (is : new ≡ true) where
    fresh : IsNoted rows q limit true later
    fresh = subst (λ b. IsNoted rows q limit b later) is noted

    -- no other row was its key
    unseen : HasOne (IsKey p k s) rows → ⊥
    unseen = key_new key rows fresh.0.1

    -- one more configuration was noted, and these are more than the blocks that lead to it from the front on
    longer : length later ≡ suc (length rows)
    longer = omega (arith, simp length-append at (ap (length {A = RowShape}) fresh.0.0))

    pub noted_top : HasNoted p k only_reduced front (length later)
    noted_top = noted_one_more explored (taken sound are stack s explored) unseen (length later) longer

    pub enough_top : length s.order < length front + length later
    enough_top = let long = longer in let near = near_top sound are stack s explored in omega (arith, long, near)

    pub gone_on : (now : List StandingShape) → IsLonger p k front later s 0 stack now → (NoneNext p s → ⊥) → IsExplored p k front later now found
    gone_on now (added, e, next) some =
        subst (λ rs. IsExplored p k front rs now found) (sym fresh.0.0)
        (subst (λ ts. IsExplored p k front (rows ++ q ∷ []) ts found) (sym e)
        (sees_on sound are stack s explored q key unseen added (subst (λ rs. AreNextFrom p k front rs s 0 added) fresh.0.0 next) some))

    pub ended : NoneNext p s → (results : List StandingShape) → results ≡ found ++ s ∷ [] → IsExplored p k front later stack results
    ended none results last =
        subst (λ rs. IsExplored p k front rs stack results) (sym fresh.0.0)
        (subst (λ ts. IsExplored p k front (rows ++ q ∷ []) ts results) (append-nil stack)
        (subst (λ xs. IsExplored p k front (rows ++ q ∷ []) (stack ++ []) xs) (sym last)
        (sees_end sound are stack s explored q key unseen (none_next p k front are (rows ++ q ∷ []) s none) none)))

-- where the program stands after the front, to begin with
pub reached_first : {p : ProgramShape} {k : Classes} {o : Orders} {front : List Ticket} {s : StandingShape} → IsFirst p front s → IsFollowedTo p k o front s
reached_first {p} {front = front} {s = s} first = record {
  standing = subst (λ ts. IsStanding p ts s) (sym first.order) first.standing;
  followed = record { rest = []; whole = first.order ∙ sym (append-nil front); followed = tt };
}

pub begun : {p : ProgramShape} {k : Classes} {front : List Ticket} {s : StandingShape} → IsFirst p front s → {rows : List RowShape} {stack found : List StandingShape}
    → rows ≡ [] → stack ≡ s ∷ [] → found ≡ [] → IsExplored p k front rows stack found
begun {p} {k} {front} {s} first {rows} {stack} {found} none one nothing =
    let at : IsExplored p k front [] (s ∷ []) [] =
    record {
      stack = (reached_first first, tt);
      near = (
        let e : length s.order ≡ length front = ap (length {A = Ticket}) first.order in
            let far : length s.order ≤ length front + 0 = omega (arith, e) in far,
        tt,
      );
      first = inl (inl first);
      seen = tt;
      once = tt;
      found = tt;
      apart = tt;
      least = record {
        stack_sorted = (tt, tt);
        noted = tt;
        covered = λ order legal followed. inr (inl (followed.rest, followed.whole ∙ ap (λ ts. ts ++ followed.rest) (sym first.order)));
        least = tt;
        sorted = tt;
        before = tt;
      };
    } in
    subst (λ rs. IsExplored p k front rs stack found) (sym none)
    (subst (λ ts. IsExplored p k front [] ts found) (sym one) (subst (IsExplored p k front [] (s ∷ [])) (sym nothing) at))

-- nothing is left on the stack
pub over : {p : ProgramShape} {k : Classes} {front : List Ticket} {rows : List RowShape} {stack found : List StandingShape} → length stack ≡ 0
    → IsExplored p k front rows stack found → IsExplored p k front rows [] found
over {p} {k} {front} {rows} {stack} {found} none explored = subst (λ ts. IsExplored p k front rows ts found) (nil_from_length stack none) explored
