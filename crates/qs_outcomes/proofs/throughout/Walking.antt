-- How a search breadth first goes on. What was noted grows at its end, and equal keys are of what becomes one another. So
-- what a legal order leads to was noted, but for a change, as long as the search went on from all standings with fewer
-- blocks, and those come first; by this the first that is asked for has the fewest blocks. The standings that the search
-- went on from are let go: here they are a list before those that wait.
use Rattle.std.proofs.Common.{◌≡◌, ◌<◌, ◌≤◌, ◌+◌, ℕ, suc, Bool, true, false, Option, None, Some, List, [], ◌∷◌, ◌++◌, length, refl, sym, ap, ◌∙◌, subst, arith, inl, inr, ⊎_elim, true≢false, append-nil, append_assoc, length-append}
use Rattle.qs_outcomes.proofs.Common.{all_legal, AllByRecursion, AllZip-long, AllZip-push, AreClasses, Becomes, becomes_same, becomes_then, below_or_past, blocks_of, Classes, Configuration, configuration-append, configuration_after, configuration_from, configuration_in, each_back, each_both, each_join, each_map, each_snoc, first_configuration, followed_onward, follows_changed, has_back, has_either, has_front, has_map, has_of, has_some, HasBlockLeft, HasNext, HasOne, IfSome, in_program, IsFirst, IsFollowedAfter, IsInserted, IsKey, IsLegal, IsOneOn, IsSound, legal-rest, legal_on, LegalFrom, one_block_on, one_changed, OrderOutcome, pairs_join, ProgramShape, RowShape, StandingShape, Ticket}
use Rattle.qs_outcomes.specs.Answers.{IsBlind}
use Rattle.qs_outcomes.specs.Outcomes.{outcome_at}
use Rattle.qs_outcomes.specs.Reached.{HasNoted, HasNotedUntil, HasReached, IsFollowedTo}
use Rattle.qs_outcomes.specs.Searches.{IsLed}
use Rattle.qs_outcomes.specs.throughout.Courses.{IsCourseWitnessAfter, IsOnTheWayAfter, NoneMeetsOnTheWay}
use Rattle.qs_outcomes.specs.throughout.Walked.{AreFewerNoted, AreNoted, HasWalked, IsAbout, IsAtWithin, IsGoingOn, IsNextNoted, IsTakenIn, IsWalked}
use Rattle.qs_outcomes.proofs.Explored.{AreKept, apart_more, kept_long, kept_there, one_more, unlike}
use Rattle.qs_outcomes.proofs.Exploring.{longer_on, reached_first}
use Rattle.qs_outcomes.proofs.Steps.{key_new, key_seen}
use Rattle.qs_outcomes.proofs.Witnesses.{asked_alike}

-- a standing that was reached is on the way

on_the_way : {p : ProgramShape} {k : Classes} {front : List Ticket} {s : StandingShape} → IsFollowedTo p k all_legal front s → IsOnTheWayAfter p front s
on_the_way is = record {
  rest = is.followed.rest;
  whole = is.followed.whole;
  legal = is.standing.legal;
  places = record { locals = is.standing.locals; states = is.standing.states };
  there = is.standing.stands;
}

-- a standing becomes what was noted

module _ {p : ProgramShape} {k : Classes} {front : List Ticket} {limit : ℕ} {asked : OrderOutcome → Bool} {rows : List RowShape}
    {places : List StandingShape} {s : StandingShape} (noted : AreNoted p k front limit asked rows places) (is : IsFollowedTo p k all_legal front s) where
  pub kept : AreKept p k all_legal front rows places
  kept = record { keys = noted.keys; reached = noted.reached; apart = noted.apart }

  pub new_noted : (HasOne (IsKey p k s) rows → ⊥) → {q : RowShape} → IsKey p k s q → length rows < limit → length s.order ≤ length front + length rows
      → asked (outcome_at s) ≡ false → AreNoted p k front limit asked (rows ++ q ∷ []) (places ++ s ∷ [])
  new_noted none {q} key less near unmet =
      let long : length (places ++ s ∷ []) ≡ suc (length places) = omega (arith, length-append places (s ∷ [])) in
      let same = kept_long kept in
      record {
        keys = AllZip-push (λ r t. IsKey p k t r) rows places q s noted.keys key;
        reached = each_snoc (IsFollowedTo p k all_legal front) places s noted.reached is;
        apart = apart_more kept is none;
        near = each_snoc (λ (t : StandingShape). length t.order < length front + length (places ++ s ∷ [])) places s
            (each_map (λ t (few : length t.order < length front + length places).
            let fits : length t.order < length front + length (places ++ s ∷ []) = omega (arith, long, few) in fits) places noted.near)
            (let fits : length s.order < length front + length (places ++ s ∷ []) = omega (arith, long, near, same) in fits);
        small = omega (arith, long, less, same);
        unmet = each_snoc (λ t. asked (outcome_at t) ≡ false) places s noted.unmet unmet;
      }

  pub is_witness : IsBlind k asked → AreFewerNoted p k front places (length s.order) → asked (outcome_at s) ≡ true → IsCourseWitnessAfter p front asked s
  is_witness blind fewer met = record {
    on_the_way = on_the_way is;
    met = met;
    shortest = λ rest legal there. ⊎_elim
        (λ (less : length (front ++ rest) < length s.order). absurd (has_some
        (λ t (at : Becomes k (configuration_after p (front ++ rest)) (configuration_in t)) (not : asked (outcome_at t) ≡ false).
        true≢false (sym there ∙ (sym (asked_alike k asked blind (configuration_after p (front ++ rest)) (configuration_in t) at) ∙ not)))
        places (fewer rest legal less) noted.unmet))
        (λ (past : length s.order ≤ length (front ++ rest)). past)
        (below_or_past (length (front ++ rest)) (length s.order));
  }

-- what an order leads to was noted, but for a change, if the search went on from all that have fewer blocks

abbrev IsClosedBelow : ProgramShape → Classes → List StandingShape → ℕ → Type 0
IsClosedBelow p k places most =
    (g : Configuration) (n c : ℕ) → HasOne (IsAtWithin k g n) places → n < most → HasBlockLeft p g c
    → HasOne (IsAtWithin k (one_block_on p c g) (suc n)) places

module _ (p : ProgramShape) (k : Classes) (places : List StandingShape) (most : ℕ) (closed : IsClosedBelow p k places most) where
  along : (ts : List Ticket) (g : Configuration) (n : ℕ) → HasOne (IsAtWithin k g n) places → n + length ts ≤ most → LegalFrom p g.begun ts
      → HasOne (λ s. Becomes k (configuration_from p g ts) (configuration_in s)) places
  along [] g n h fits legal = has_map (λ s (w : IsAtWithin k g n s). w.0) places h
  along (t ∷ ts) g n h fits legal =
      let within : n + suc (length ts) ≤ most = fits in
      along ts (one_block_on p t.client g) (suc n)
      (closed g n t.client h (omega (arith, within)) (subst (λ m. m < blocks_of p t.client) legal.0 legal.1))
      (omega (arith, within)) (legal_on p g t ts legal)

  all_after : (front rest : List Ticket) → HasOne (IsAtWithin k (configuration_after p front) (length front)) places → IsLegal p (front ++ rest) → length (front ++ rest) ≤ most
      → HasOne (λ s. Becomes k (configuration_after p (front ++ rest)) (configuration_in s)) places
  all_after front rest first legal fits =
      subst (λ (g : Configuration). HasOne (λ s. Becomes k g (configuration_in s)) places) (sym (configuration-append p (first_configuration p) front rest))
      (along rest (configuration_after p front) (length front) first (let long = length-append front rest in omega (arith, long, fits)) (legal-rest p (first_configuration p) front rest legal))

-- what waits has as many blocks or more, so the search went on from all that have fewer
module _ {p : ProgramShape} {k : Classes} (are : AreClasses p k) {front : List Ticket} {blocks : ℕ} {walked waiting : List StandingShape}
    (turn : IsWalked p k front blocks walked waiting) where
  -- where a client's next block leads from what becomes a standing that the search went on from
  closed_at : (g : Configuration) (n c : ℕ) → HasBlockLeft p g c → (s : StandingShape) → IsAtWithin k g n s → ((d : ℕ) → IsNextNoted p k (walked ++ waiting) s d)
      → HasOne (IsAtWithin k (one_block_on p c g) (suc n)) (walked ++ waiting)
  closed_at g n c left s ((x, is, e), few) on =
      let next : HasNext p s (x.new c) = subst (λ (f : Configuration). HasBlockLeft p f (x.new c)) (sym e) (follows_changed p k are x is all_legal g c left) in
      let there : Becomes k (one_block_on p c g) (one_block_on p (x.new c) (configuration_in s)) =
      (x, is, ap (one_block_on p (x.new c)) e ∙ one_changed p k are x is g c) in
      has_map
      (λ t (w : IsAtWithin k (one_block_on p (x.new c) (configuration_in s)) (suc (length s.order)) t). (
        becomes_then k (one_block_on p c g) (one_block_on p (x.new c) (configuration_in s)) (configuration_in t) there w.0,
        (let a = w.1 in let fits : length t.order ≤ suc n = omega (arith, a, few) in fits),
      ))
      (walked ++ waiting) (on (x.new c) next)

  closed_walked : (g : Configuration) (n c : ℕ) → HasOne (IsAtWithin k g n) walked → HasBlockLeft p g c → HasOne (IsAtWithin k (one_block_on p c g) (suc n)) (walked ++ waiting)
  closed_walked g n c h left = has_some (closed_at g n c left) walked h turn.closed

  closed_below : IsClosedBelow p k (walked ++ waiting) blocks
  closed_below g n c h less left =
      ⊎_elim
      (λ (old : HasOne (IsAtWithin k g n) walked). closed_walked g n c old left)
      (λ (ahead : HasOne (IsAtWithin k g n) waiting). absurd (has_some
      (λ s (is : IsAtWithin k g n s) (about : IsAbout blocks s). (let a = is.1 in let b = about.0 in let none : ⊥ = omega (arith, a, b, less) in none))
      waiting ahead turn.behind))
      (has_either (IsAtWithin k g n) walked waiting h)

  -- one that is noted waits behind the others
  module _ (n : StandingShape) (long : length n.order ≡ suc blocks) where
    more : (P : StandingShape → Type 0) → HasOne P (walked ++ waiting) → HasOne P (walked ++ (waiting ++ n ∷ []))
    more P h = subst (HasOne P) (append_assoc walked waiting (n ∷ [])) (has_front P (walked ++ waiting) (n ∷ []) h)

    pub walked_more : IsWalked p k front blocks walked (waiting ++ n ∷ [])
    walked_more = record {
      first = more (IsAtWithin k (configuration_after p front) (length front)) turn.first;
      closed = each_map {Q = λ s. (c : ℕ) → IsNextNoted p k (walked ++ (waiting ++ n ∷ [])) s c}
          (λ s (on : (c : ℕ) → IsNextNoted p k (walked ++ waiting) s c) c left. more (IsAtWithin k (one_block_on p c (configuration_in s)) (suc (length s.order))) (on c left)) walked turn.closed;
      before = turn.before;
      behind = each_snoc (IsAbout blocks) waiting n turn.behind
          ((let up : blocks ≤ length n.order = omega (arith, long) in up), (let fits : length n.order ≤ suc blocks = omega (arith, long) in fits));
      sorted = pairs_join (λ s t. length s.order ≤ length t.order) waiting (n ∷ []) turn.sorted (tt, tt)
          (each_map (λ s (about : IsAbout blocks s). ((let few = about.1 in let up : length s.order ≤ length n.order = omega (arith, few, long) in up), tt)) waiting turn.behind);
    }

-- the search goes on from a standing, for one client after another

module _ {p : ProgramShape} {k : Classes} {front : List Ticket} {limit : ℕ} {asked : OrderOutcome → Bool} {rows : List RowShape} {s : StandingShape} {client : ℕ}
    {waiting : List StandingShape} (going : IsGoingOn p k front limit asked rows s client waiting) where
  abbrev places : List StandingShape
  places = going.walked ++ s ∷ waiting

  pub here_reached : IsFollowedTo p k all_legal front s
  here_reached = (each_back (IsFollowedTo p k all_legal front) going.walked (s ∷ waiting) going.noted.reached).0

  pub all_small : length rows ≤ limit
  all_small = let long = AllZip-long (λ r t. IsKey p k t r) rows places going.noted.keys in let small = going.noted.small in omega (arith, long, small)

  here_more : (ts : List StandingShape) → ((c : ℕ) → c < client → IsNextNoted p k ts s c) → IsNextNoted p k ts s client → (c : ℕ) → c < client + 1 → IsNextNoted p k ts s c
  here_more ts old new c less = elim (below_or_past c client) [
    | inl before ↦ old c before
    | inr past ↦ let same : client ≡ c = omega (arith, less, past) in subst (IsNextNoted p k ts s) same new
  ]

  pub skipped : (HasNext p s client → ⊥) → IsGoingOn p k front limit asked rows s (client + 1) waiting
  skipped none = record {
    walked = going.walked;
    noted = going.noted;
    turn = going.turn;
    here = here_more places going.here (λ left. absurd (none left));
  }

  module _ (sound : IsSound p) (are : AreClasses p k) (left : HasNext p s client) {n : StandingShape} (on : IsOneOn p s client n) where
    next_reached : IsFollowedTo p k all_legal front n
    next_reached = record {
      standing = on.standing;
      followed = subst (IsFollowedAfter p k all_legal front) (sym on.order)
          (followed_onward p k all_legal front s.order (record { client = client; index = (configuration_in s).begun client } ∷ []) here_reached.followed
          (subst (λ (g : Configuration). g.begun client < blocks_of p client) here_reached.standing.stands left, tt));
    }

    each_few : AllByRecursion (λ t. length t.order ≤ suc (length s.order)) places
    each_few = each_join (λ t. length t.order ≤ suc (length s.order)) going.walked (s ∷ waiting)
        (each_map (λ t (few : length t.order ≤ length s.order). (let fits : length t.order ≤ suc (length s.order) = omega (arith, few) in fits)) going.walked going.turn.before)
        (each_map (λ t (about : IsAbout (length s.order) t). about.1) (s ∷ waiting) going.turn.behind)

    -- it is reached by no more blocks after the front than were noted
    near_next : length n.order ≤ length front + length rows
    near_next =
        let long = longer_on on in
        let same = AllZip-long (λ r t. IsKey p k t r) rows places going.noted.keys in
        let few : length s.order < length front + length places = (each_back (λ (t : StandingShape). length t.order < length front + length places) going.walked (s ∷ waiting) going.noted.near).0 in
        omega (arith, long, same, few)

    there_on : Becomes k (one_block_on p client (configuration_in s)) (configuration_in n)
    there_on = becomes_same k (one_block_on p client (configuration_in s)) (configuration_in n) on.next

    -- where the client's next block leads was noted
    pub old_next : HasOne (IsKey p k n) rows → IsGoingOn p k front limit asked rows s (client + 1) waiting
    old_next there = record {
      walked = going.walked;
      noted = going.noted;
      turn = going.turn;
      here = here_more places going.here
          (λ has. has_of (λ u (is : Becomes k (configuration_in n) (configuration_in u)) (few : length u.order ≤ suc (length s.order)).
          (becomes_then k (one_block_on p client (configuration_in s)) (configuration_in n) (configuration_in u) there_on is, few)) places
          (kept_there (kept going.noted next_reached) sound n there) each_few);
    }

    module _ (none : HasOne (IsKey p k n) rows → ⊥) where
      pub more_noted : (many : ℕ) → many ≡ suc (length rows) → HasNoted p k all_legal front many
      more_noted = one_more (kept going.noted next_reached) next_reached none

      -- it is new
      new_next : (q : RowShape) → IsKey p k n q → length rows < limit → asked (outcome_at n) ≡ false
          → IsGoingOn p k front limit asked (rows ++ q ∷ []) s (client + 1) (waiting ++ n ∷ [])
      new_next q key less unmet =
          let assoc : ◌≡◌ {A = List StandingShape} (places ++ n ∷ []) (going.walked ++ s ∷ (waiting ++ n ∷ [])) = append_assoc going.walked (s ∷ waiting) (n ∷ []) in
          let long = longer_on on in
          record {
            walked = going.walked;
            noted = subst (AreNoted p k front limit asked (rows ++ q ∷ [])) assoc (new_noted going.noted next_reached none key less near_next unmet);
            turn = walked_more are going.turn n long;
            here = subst (λ ts. (c : ℕ) → c < client + 1 → IsNextNoted p k ts s c) assoc
                (here_more (places ++ n ∷ [])
                (λ c less has. has_front (IsAtWithin k (one_block_on p c (configuration_in s)) (suc (length s.order))) places (n ∷ []) (going.here c less has))
                (λ has. has_back (IsAtWithin k (one_block_on p client (configuration_in s)) (suc (length s.order))) places (n ∷ []) (inl (there_on, (let up : length n.order ≤ suc (length s.order) = omega (arith, long) in up)))));
          }

    pub next_witness : IsBlind k asked → asked (outcome_at n) ≡ true → IsCourseWitnessAfter p front asked n
    next_witness blind = is_witness going.noted next_reached blind
        (λ rest legal less. (
        let long = longer_on on in all_after p k places (length s.order) (closed_below are going.turn) front rest going.turn.first legal (omega (arith, long, less))))

-- its key was found without being looked up
pub goes_found : {p : ProgramShape} {k : Classes} {front : List Ticket} {limit : ℕ} {asked : OrderOutcome → Bool} {rows : List RowShape} {s : StandingShape} {client : ℕ}
    {waiting : List StandingShape} → IsGoingOn p k front limit asked rows s client waiting → IsSound p → AreClasses p k → HasNext p s client → (key : RowShape)
    (met : Option StandingShape) → IsLed p k rows s client key met → ((n : StandingShape) → met ≡ Some n → ⊥) → IsGoingOn p k front limit asked rows s (client + 1) waiting
goes_found going sound are left key (Some n) led not = absurd (not n refl)
goes_found going sound are left key None (n, on, seen) not = old_next going sound are left on seen

-- by what became of the rows
module _ {p : ProgramShape} {k : Classes} {front : List Ticket} {limit : ℕ} {asked : OrderOutcome → Bool} {rows : List RowShape} (after : List RowShape) {s : StandingShape}
    {client : ℕ} {waiting : List StandingShape} (going : IsGoingOn p k front limit asked rows s client waiting)
    (sound : IsSound p) (are : AreClasses p k) (left : HasNext p s client) {n : StandingShape} (on : IsOneOn p s client n) {q : RowShape} (key : IsKey p k n q)
    (new : Bool) (inserted : IsInserted rows q new after) where
  pub goes_old : new ≡ false → IsGoingOn p k front limit asked after s (client + 1) waiting × (length after ≡ length rows)
  goes_old old =
      let as_old : IsInserted rows q false after = subst (λ b. IsInserted rows q b after) old inserted in (
        subst (λ rs. IsGoingOn p k front limit asked rs s (client + 1) waiting) (sym as_old.0) (old_next going sound are left on (key_seen key rows as_old.1)),
        ap length as_old.0,
      )

  module _ (is : new ≡ true) where
    as_new : IsInserted rows q true after
    as_new = subst (λ b. IsInserted rows q b after) is inserted

    pub rows_longer : length after ≡ suc (length rows)
    rows_longer = omega (arith, simp length-append at (ap (length {A = RowShape}) as_new.0))

    pub goes_new : length after ≤ limit → (now : List StandingShape) → IsTakenIn asked n waiting now → IsGoingOn p k front limit asked after s (client + 1) now
    goes_new fits now taken =
        let longer = rows_longer in
        subst (λ rs. IsGoingOn p k front limit asked rs s (client + 1) now) (sym as_new.0)
        (subst (IsGoingOn p k front limit asked (rows ++ q ∷ []) s (client + 1)) (sym taken.last)
        (new_next going sound are left on (key_new key rows as_new.1) q key (omega (arith, longer, fits)) taken.unmet))

    pub goes_many : HasNotedUntil p k all_legal front (length after) n
    goes_many = (
      more_noted going sound are left on (key_new key rows as_new.1) (length after) rows_longer,
      (let longer = rows_longer in let near = near_next going sound are left on in omega (arith, longer, near)),
    )

pub some_map : {P Q : StandingShape → Type 0} → ((s : StandingShape) → P s → Q s) → (met : Option StandingShape) → IfSome met P → IfSome met Q
some_map f None h = tt
some_map f (Some s) h = f s h

-- what is given back is one that is what is asked for
pub some_is : (P : StandingShape → Type 0) (s : StandingShape) (asked : OrderOutcome → Bool) → (asked (outcome_at s) ≡ true → P s) → (met : Option StandingShape)
    → IfSome met (λ t. (t ≡ s) × (asked (outcome_at t) ≡ true)) → IfSome met P
some_is P s asked f None h = tt
some_is P s asked f (Some t) (same, is) = subst P (sym same) (f (subst (λ (u : StandingShape). asked (outcome_at u) ≡ true) same is))

pub either : {A : Type 0} (met : Option StandingShape) → (met ≡ None → A) → IfSome met (λ _. A) → A
either None none some = none refl
either (Some s) none some = some

pub waits_longer : {asked : OrderOutcome → Bool} {s : StandingShape} {before after : List StandingShape} → IsTakenIn asked s before after → length after ≡ suc (length before)
waits_longer taken = omega (arith, simp length-append at (ap (length {A = StandingShape}) taken.last))

-- for all clients, and from the next one
pub all_done : {p : ProgramShape} {k : Classes} {front : List Ticket} {limit : ℕ} {asked : OrderOutcome → Bool} {rows : List RowShape} {s : StandingShape} {waiting : List StandingShape}
    → IsGoingOn p k front limit asked rows s (length p.clients) waiting → HasWalked p k front limit asked rows waiting
all_done {p} {k} {front} {limit} {asked} {rows} {s} {waiting} going =
    let assoc : ◌≡◌ {A = List StandingShape} (going.walked ++ s ∷ waiting) ((going.walked ++ s ∷ []) ++ waiting) = sym (append_assoc going.walked (s ∷ []) waiting) in
    record {
      walked = going.walked ++ s ∷ [];
      blocks = length s.order;
      noted = subst (AreNoted p k front limit asked rows) assoc going.noted;
      turn = record {
        first = subst (HasOne (IsAtWithin k (configuration_after p front) (length front))) assoc going.turn.first;
        closed = subst (λ ts. AllByRecursion (λ t. (c : ℕ) → IsNextNoted p k ts t c) (going.walked ++ s ∷ [])) assoc
            (each_snoc (λ t. (c : ℕ) → IsNextNoted p k (going.walked ++ s ∷ waiting) t c) going.walked s going.turn.closed (λ c left. going.here c (in_program p s c left) left));
        before = each_snoc (λ t. length t.order ≤ length s.order) going.walked s going.turn.before (omega arith);
        behind = going.turn.behind.1;
        sorted = going.turn.sorted.1;
      };
    }

pub goes_on : {p : ProgramShape} {k : Classes} {front : List Ticket} {limit : ℕ} {asked : OrderOutcome → Bool} {rows : List RowShape} {s : StandingShape} {waiting : List StandingShape}
    → HasWalked p k front limit asked rows (s ∷ waiting) → IsGoingOn p k front limit asked rows s 0 waiting
goes_on {p} {k} {front} {limit} {asked} {rows} {s} {waiting} has =
    let up : has.blocks ≤ length s.order = has.turn.behind.0.0 in
    record {
      walked = has.walked;
      noted = has.noted;
      turn = record {
        first = has.turn.first;
        closed = has.turn.closed;
        before = each_map (λ t (few : length t.order ≤ has.blocks). (let fits : length t.order ≤ length s.order = omega (arith, few, up) in fits)) has.walked has.turn.before;
        behind = (
          omega arith,
          each_both (λ t (past : length s.order ≤ length t.order) (about : IsAbout has.blocks t). (past, (let few = about.1 in let fits : length t.order ≤ suc (length s.order) = omega (arith, few, up) in fits)))
              waiting has.turn.sorted.0 has.turn.behind.1,
        );
        sorted = has.turn.sorted;
      };
      here = λ c less. absurd (omega (arith, less));
    }

-- at the beginning

none_noted : (p : ProgramShape) (k : Classes) (front : List Ticket) (limit : ℕ) (asked : OrderOutcome → Bool) → AreNoted p k front limit asked [] []
none_noted p k front limit asked = record { keys = tt; reached = tt; apart = tt; near = tt; small = omega arith; unmet = tt }

module _ {p : ProgramShape} (k : Classes) {front : List Ticket} {s : StandingShape} (first : IsFirst p front s) where
  at_front : length s.order ≡ length front
  at_front = ap length first.order

  pub first_more : (many : ℕ) → many ≡ 1 → HasNoted p k all_legal front many
  first_more = let none : AreKept p k all_legal front [] [] = record { keys = tt; reached = tt; apart = tt } in one_more none (reached_first first) (λ h. h)

  pub first_witness : (limit : ℕ) {asked : OrderOutcome → Bool} → IsBlind k asked → asked (outcome_at s) ≡ true → IsCourseWitnessAfter p front asked s
  first_witness limit {asked} blind = is_witness (none_noted p k front limit asked) (reached_first first) blind
      (λ rest legal less. (let e = at_front in let long = length-append front rest in absurd (omega (arith, e, long, less))))

  module _ (after : List RowShape) {q : RowShape} (key : IsKey p k s q) (new : Bool) (inserted : IsInserted [] q new after) where
    first_row : after ≡ q ∷ []
    first_row = by_case new inserted
      where
        by_case : (b : Bool) → IsInserted [] q b after → after ≡ q ∷ []
        by_case true h = h.0
        by_case false h = absurd h.1

    pub first_many : HasNotedUntil p k all_legal front (length after) s
    first_many = (
      first_more (length after) (ap length first_row),
      (let e = at_front in let one : length after ≡ 1 = ap length first_row in omega (arith, e, one)),
    )

    pub first_walked : (limit : ℕ) → length after ≤ limit → {asked : OrderOutcome → Bool} (now : List StandingShape) → IsTakenIn asked s [] now
        → HasWalked p k front limit asked after now
    first_walked limit fits {asked} now taken =
        let same = at_front in
        let one : length after ≡ 1 = ap length first_row in
        subst (λ rs. HasWalked p k front limit asked rs now) (sym first_row)
        (subst (HasWalked p k front limit asked (q ∷ [])) (sym taken.last)
        (record {
          walked = [];
          blocks = length s.order;
          noted = new_noted (none_noted p k front limit asked) (reached_first first) (λ h. h) key (omega (arith, fits, one)) (omega (arith, same)) taken.unmet;
          turn = record {
            first = inl (becomes_same k (configuration_after p front) (configuration_in s) first.first, (let few : length s.order ≤ length front = omega (arith, same) in few));
            closed = tt;
            before = tt;
            behind = (omega arith, tt);
            sorted = (tt, tt);
          };
        }))

-- at the end

module _ {p : ProgramShape} {k : Classes} (are : AreClasses p k) {front : List Ticket} {limit : ℕ} {asked : OrderOutcome → Bool} {rows : List RowShape}
    (has : HasWalked p k front limit asked rows []) where
  all_noted : (rest : List Ticket) → IsLegal p (front ++ rest) → HasOne (λ s. Becomes k (configuration_after p (front ++ rest)) (configuration_in s)) (has.walked ++ [])
  all_noted rest legal =
      all_after p k (has.walked ++ []) (length (front ++ rest))
      (λ g n c h less left. closed_walked are has.turn g n c (subst (HasOne (IsAtWithin k g n)) (append-nil has.walked) h) left)
      front rest has.turn.first legal (omega arith)

  pub none_met : IsBlind k asked → NoneMeetsOnTheWay p front asked
  none_met blind rest legal =
      has_some (λ s (at : Becomes k (configuration_after p (front ++ rest)) (configuration_in s)) (not : asked (outcome_at s) ≡ false).
      sym (asked_alike k asked blind (configuration_after p (front ++ rest)) (configuration_in s) at) ∙ not)
      (has.walked ++ []) (all_noted rest legal) has.noted.unmet

  pub all_reached : HasReached p k all_legal front (length rows)
  all_reached = (
    has.walked ++ [],
    unlike (record { keys = has.noted.keys; reached = has.noted.reached; apart = has.noted.apart }),
    λ rest legal followed. all_noted rest legal,
  )

-- where a block leads that is not found by its key
pub led_some : {p : ProgramShape} {k : Classes} (rows : List RowShape) {s : StandingShape} {c : ℕ} {key : RowShape} (met : Option StandingShape)
    → IsLed p k rows s c key met → (n : StandingShape) → met ≡ Some n → IsOneOn p s c n × IsKey p k n key
led_some {p} {k} rows {s} {c} {key} met led n is = subst (IsLed p k rows s c key) is led
