-- What an explored program tells, once nothing is left on the stack: whatever a followed order leads to becomes a
-- standing whose key was seen, and what a complete one leads to becomes one that was found: of any order there is a
-- reduced one in which the first client goes on, so that one block after another can be led over to what was seen. Each
-- that was found is the end of its own complete order, the least that comes to what becomes it. The rows that were seen
-- count the configurations.
use Rattle.std.proofs.Common.{◌≡◌, ◌<◌, ◌≤◌, ℕ, zero, suc, List, [], ◌∷◌, ◌++◌, length, get_or, refl, sym, ap, ◌∙◌, subst, arith, inl, inr, length-append}
use Rattle.qs_outcomes.proofs.Common.{AllByRecursion, AllZip, AllZip-long, AreClasses, as_many, Becomes, becomes_across, becomes_back, becomes_itself, becomes_same, becomes_then, begun_within, blocks_of, Change, changed, changed_order, changed_ticket, Classes, complete_orders_leave_none, Configuration, configuration-append, configuration_after, configuration_from, configuration_in, configurations_follow_orders, each_map, each_snoc, equally_long, first_configuration, follows_changed, GoesOnUpTo, has_map, has_some, HasOne, IsChange, IsComplete, IsFirst, IsFollowedFrom, IsKey, IsReducedFrom, IsSound, IsStanding, key_kept, key_tells, leads_from, legal-rest, legal_from, legal_on, LegalFrom, length-map, none_of, NoneNext, NoTwo, one_block_on, one_changed, one_key, only_reduced, Orders, outcome_in, ProgramShape, RowShape, StandingShape, Ticket, two_snoc}
use Rattle.qs_meaning.proofs.Reductions.{ReducedFrom, reduced_from}
use Rattle.qs_outcomes.specs.Answers.{IsEndAfter}
use Rattle.qs_outcomes.specs.Outcomes.{IsListedAfter}
use Rattle.qs_outcomes.specs.Reached.{AreUnlike, HasNoted, HasReached, IsFollowedTo}
use Rattle.qs_outcomes.specs.Search.{IsExplored, IsFound, IsOn, IsSeen, IsSeenOrAhead}
use Rattle.qs_outcomes.proofs.LeastFirst.{picked_key}
use Rattle.qs_outcomes.proofs.Zips.{zip_each, zip_has, zip_two}

-- no block left: each client has begun all that it has
pub all_begun : (p : ProgramShape) (front : List Ticket) (s : StandingShape) → IsStanding p front s → NoneNext p s → (c : ℕ) → get_or s.begun c 0 ≡ blocks_of p c
all_begun p front s is none c =
    let same : get_or s.begun c 0 ≡ (configuration_after p s.order).begun c = ap (λ (g : Configuration). g.begun c) is.stands in
    let within : (configuration_after p s.order).begun c ≤ blocks_of p c = begun_within p (first_configuration p) s.order c is.legal (omega arith) in
    let over : get_or s.begun c 0 < blocks_of p c → ⊥ = none c in
    omega (arith, same, within, over)

-- where no block is left, an order is complete
pub listed_end : (p : ProgramShape) (front : List Ticket) (s : StandingShape) → IsStanding p front s → NoneNext p s → IsListedAfter p front s
listed_end p front s is over = record {
  complete = (complete_orders_leave_none p s.order is.legal).1 (λ c. sym (ap (λ (g : Configuration). g.begun c) is.stands) ∙ all_begun p front s is over c);
  reduced = is.reduced;
  outcome = ap outcome_in is.stands ∙ configurations_follow_orders p s.order is.legal;
  places = record { locals = is.locals; states = is.states };
}

pub end_after : {p : ProgramShape} {k : Classes} {front : List Ticket} {s : StandingShape} → IsFollowedTo p k only_reduced front s → NoneNext p s → IsEndAfter p k front s
end_after {p} {s = s} to over =
    let listed = listed_end p s.order s to.standing over in
    record { complete = listed.complete; followed = to.followed; outcome = listed.outcome; places = listed.places }

-- where no client has a block left, none has before a change
pub ends_before : (p : ProgramShape) (k : Classes) → AreClasses p k → (x : Change) → IsChange k x → (g h : Configuration) → h ≡ changed x g
    → ((c : ℕ) → h.begun c ≡ blocks_of p c) → (c : ℕ) → g.begun c ≡ blocks_of p c
ends_before p k are x is g h e ends c =
    ap g.begun (sym (is.there c)) ∙ sym (ap (λ (q : Configuration). q.begun (x.new c)) e) ∙ ends (x.new c)
    ∙ sym (as_many p k are x is (x.new c)) ∙ ap (blocks_of p) (is.there c)

-- nor has one after it
pub ends_changed : (p : ProgramShape) (k : Classes) → AreClasses p k → (x : Change) → IsChange k x → (g h : Configuration) → h ≡ changed x g
    → ((c : ℕ) → g.begun c ≡ blocks_of p c) → (c : ℕ) → h.begun c ≡ blocks_of p c
ends_changed p k are x is g h e ends c = ap (λ (q : Configuration). q.begun c) e ∙ (ends (x.old c) ∙ as_many p k are x is c)

-- a configuration that becomes that of a standing whose key was seen
pub record Reaches (p : ProgramShape) (k : Classes) (front : List Ticket) (rows : List RowShape) (stack found : List StandingShape) (g : Configuration) : Type 0 where
  pub standing : StandingShape
  pub row : RowShape
  pub seen : IsSeen p k front rows stack found row standing
  pub there : HasOne (IsKey p k standing) rows
  pub becomes : Becomes k g (configuration_in standing)

-- what a standing that was seen is
pub met : {p : ProgramShape} {k : Classes} {front : List Ticket} {rows : List RowShape} {stack found : List StandingShape} → IsSound p
    → IsExplored p k front rows stack found → (n : StandingShape) → HasOne (IsKey p k n) rows → {g : Configuration} → Becomes k g (configuration_in n)
    → Reaches p k front rows stack found g
met {p} {k} {front} {rows} {stack} {found} sound explored n seen {g} becomes =
    has_some
    (λ r (key : IsKey p k n r) (w : (t : StandingShape) × IsSeen p k front rows stack found r t).
    let there : Becomes k (configuration_in n) (configuration_in w.0) = key_tells p k sound n w.0 r key w.1.key in
    record {
      standing = w.0;
      row = r;
      seen = w.1;
      there = has_map (λ q. key_kept p k n w.0 q there) rows seen;
      becomes = becomes_then k g (configuration_in n) (configuration_in w.0) becomes there;
    })
    rows seen explored.seen

module _ {p : ProgramShape} {k : Classes} {front : List Ticket} (sound : IsSound p) (are : AreClasses p k) {rows : List RowShape}
    {found : List StandingShape} (explored : IsExplored p k front rows [] found) where
  abbrev At : Configuration → Type 0
  At g = Reaches p k front rows [] found g

  seen_now : (Q : StandingShape → Type 0) → IsSeenOrAhead p k Q rows [] → (n : StandingShape) × Q n × HasOne (IsKey p k n) rows
  seen_now Q (inl h) = absurd h
  seen_now Q (inr h) = picked_key p k Q rows h

  first_met : At (configuration_after p front)
  first_met =
      let n = seen_now (IsFirst p front) explored.first in
      met sound explored n.0 n.2 (becomes_same k (configuration_after p front) (configuration_in n.0) n.1.first)

  -- where the next block of one who goes on leads
  next_met : (g : Configuration) (c : ℕ) → At g → GoesOnUpTo p k g c → At (one_block_on p c g)
  next_met g c m goes =
      let x = m.becomes.0 in
      let is = m.becomes.1 in
      let on : GoesOnUpTo p k (configuration_in m.standing) (x.new c) =
      subst (λ h. GoesOnUpTo p k h (x.new c)) (sym m.becomes.2) (follows_changed p k are x is only_reduced g c goes) in
      let n = seen_now (IsOn p k front m.standing (x.new c)) (m.seen.closed (x.new c) on) in
      met sound explored n.0 n.2 (x, is, n.1.on.next ∙ (ap (one_block_on p (x.new c)) m.becomes.2 ∙ one_changed p k are x is g c))

  along : (g : Configuration) (ts : List Ticket) → At g → IsFollowedFrom p k only_reduced g ts → At (configuration_from p g ts)
  along g [] m followed = m
  along g (t ∷ ts) m followed = along (one_block_on p t.client g) ts (next_met g t.client m followed.0) followed.1

  pub reached : (rest : List Ticket) → IsFollowedFrom p k only_reduced (configuration_after p front) rest → At (configuration_after p (front ++ rest))
  reached rest followed =
      subst At (sym (configuration-append p (first_configuration p) front rest)) (along (configuration_after p front) rest first_met followed)

  -- ---- the ends

  abbrev Found : Configuration → Type 0
  Found h = HasOne (λ t. Becomes k h (configuration_in t)) found

  -- with the places in order, by a reduced order
  module _ (g : Configuration) (ts : List Ticket) (m : At g) (legal : LegalFrom p g.begun ts)
      (ends : (c : ℕ) → (configuration_from p g ts).begun c ≡ blocks_of p c) where
    abbrev a : Configuration
    a = configuration_in m.seen.key.placed

    abbrev own : Becomes k (configuration_in m.standing) a
    own = m.seen.key.placing.becomes

    abbrev b : Becomes k g a
    b = becomes_then k g (configuration_in m.standing) a m.becomes own

    abbrev us : List Ticket
    us = changed_order b.0 ts

    legal_us : LegalFrom p a.begun us
    legal_us = subst (λ (q : Configuration). LegalFrom p q.begun us) (sym b.2) (legal_from p k are b.0 b.1 g.begun ts legal)

    leads_us : configuration_from p a us ≡ changed b.0 (configuration_from p g ts)
    leads_us = ap (λ q. configuration_from p q us) b.2 ∙ leads_from p k are b.0 b.1 g ts

    ends_us : (c : ℕ) → (configuration_from p a us).begun c ≡ blocks_of p c
    ends_us c = ap (λ (q : Configuration). q.begun c) leads_us ∙ (ends (b.0.old c) ∙ as_many p k are b.0 b.1 c)

    reduced : ReducedFrom p a us
    reduced = reduced_from p sound (length us) a us (omega arith) legal_us ends_us

    -- found from there on, and so from before the change
    back : Found (configuration_from p a reduced.reduced) → Found (configuration_from p g ts)
    back f = has_map
        (λ t. becomes_then k (configuration_from p g ts) (configuration_from p a reduced.reduced) (configuration_in t) (b.0, b.1, reduced.same ∙ leads_us))
        found f

    long : length reduced.reduced ≡ length ts
    long = equally_long p a reduced.reduced us reduced.legal legal_us reduced.same ∙ length-map ts (changed_ticket b.0)

    -- the list is that of the reduced order; what is shorter may be taken as known
    by_list : (r : List Ticket) → LegalFrom p a.begun r → IsReducedFrom p a r → ((c : ℕ) → (configuration_from p a r).begun c ≡ blocks_of p c)
        → ((q : Configuration) (vs : List Ticket) → length vs < length r → At q → LegalFrom p q.begun vs
        → ((c : ℕ) → (configuration_from p q vs).begun c ≡ blocks_of p c) → Found (configuration_from p q vs))
        → Found (configuration_from p a r)
    by_list [] l red over later =
        has_map (λ t. becomes_across k (configuration_in m.standing) a (configuration_in t) own) found
        (m.seen.found (λ c left.
        (let e : (configuration_in m.standing).begun c ≡ blocks_of p c = ends_before p k are own.0 own.1 (configuration_in m.standing) a own.2 over c in
        let less : (configuration_in m.standing).begun c < blocks_of p c = left in omega (arith, e, less))))
    by_list (u ∷ vs) l red over later =
        let here : At a = record {
          standing = m.standing;
          row = m.row;
          seen = m.seen;
          there = m.there;
          becomes = becomes_back k (configuration_in m.standing) a own;
        } in
        let goes : GoesOnUpTo p k a u.client = record {
          arranged = a;
          becomes = becomes_itself k a;
          in_order = m.seen.key.placing.placed.arranged;
          place = u.client;
          alike = refl;
          begun = refl;
          goes = red.0;
        } in
        later (one_block_on p u.client a) vs (omega arith) (next_met a u.client here goes) (legal_on p a u vs l) over

    ends_reduced : (c : ℕ) → (configuration_from p a reduced.reduced).begun c ≡ blocks_of p c
    ends_reduced c = ap (λ (q : Configuration). q.begun c) reduced.same ∙ ends_us c

  -- an order that leaves no block, of fewer tickets than so many
  reaches : (many : ℕ) (g : Configuration) (ts : List Ticket) → length ts < many → At g → LegalFrom p g.begun ts
      → ((c : ℕ) → (configuration_from p g ts).begun c ≡ blocks_of p c) → Found (configuration_from p g ts)
  reaches zero g ts few m legal ends = absurd (omega (arith, few))
  reaches (suc many) g ts few m legal ends =
      let r = reduced g ts m legal ends in
      back g ts m legal ends
      (by_list g ts m legal ends r.reduced r.legal r.is_reduced (ends_reduced g ts m legal ends)
      (λ q vs less. reaches many q vs (let l = long g ts m legal ends in omega (arith, less, l, few))))

  -- what a complete order leads to becomes one that was found
  pub all_found : (rest : List Ticket) → IsComplete p (front ++ rest) → Found (configuration_after p (front ++ rest))
  all_found rest complete =
      let whole = configuration-append p (first_configuration p) front rest in
      subst Found (sym whole)
      (reaches (suc (length rest)) (configuration_after p front) rest (omega arith) first_met (legal-rest p (first_configuration p) front rest complete.legal)
      (λ c. ap (λ (g : Configuration). g.begun c) (sym whole) ∙ (complete_orders_leave_none p (front ++ rest) complete.legal).0 complete c))

  pub all_ends : AllByRecursion (IsEndAfter p k front) found
  all_ends = each_map (λ s (f : IsFound p k front rows s). end_after f.to f.over) found explored.found

-- standings of which these rows are the keys, none of which becomes another
pub record AreKept (p : ProgramShape) (k : Classes) (o : Orders) (front : List Ticket) (rows : List RowShape) (ss : List StandingShape) : Type 0 where
  pub keys : AllZip (λ r s. IsKey p k s r) rows ss
  pub reached : AllByRecursion (IsFollowedTo p k o front) ss
  pub apart : NoTwo (λ s t. Becomes k (configuration_in s) (configuration_in t)) ss

module _ {p : ProgramShape} {k : Classes} {o : Orders} {front : List Ticket} {rows : List RowShape} {ss : List StandingShape} (kept : AreKept p k o front rows ss) where
  pub kept_long : length ss ≡ length rows
  kept_long = AllZip-long (λ r s. IsKey p k s r) rows ss kept.keys

  pub unlike : AreUnlike p k o front ss (length rows)
  unlike = record { count = kept_long; reached = kept.reached; unlike = kept.apart }

  -- whose key is among the rows becomes one of them
  pub kept_there : IsSound p → (s : StandingShape) → HasOne (IsKey p k s) rows → HasOne (λ t. Becomes k (configuration_in s) (configuration_in t)) ss
  kept_there sound s = zip_has (λ r t. IsKey p k t r) {P = IsKey p k s} (λ r t own is. key_tells p k sound s t r is own) rows ss kept.keys

  module _ {s : StandingShape} (is : IsFollowedTo p k o front s) (new : HasOne (IsKey p k s) rows → ⊥) where
    pub apart_more : NoTwo (λ t u. Becomes k (configuration_in t) (configuration_in u)) (ss ++ s ∷ [])
    apart_more = two_snoc (λ t u. Becomes k (configuration_in t) (configuration_in u)) ss s kept.apart
        (zip_each (λ r t. IsKey p k t r) {P = λ r. IsKey p k s r → ⊥} {Q = λ t. Becomes k (configuration_in t) (configuration_in s) → ⊥}
        (λ r t own other b. other (key_kept p k t s r b own)) rows ss kept.keys (none_of (IsKey p k s) rows new))

    pub one_more : (many : ℕ) → many ≡ suc (length rows) → HasNoted p k o front many
    one_more many e = (
      ss ++ s ∷ [],
      record {
        count = (let long = kept_long in omega (arith, e, long, length-append ss (s ∷ [])));
        reached = each_snoc (IsFollowedTo p k o front) ss s kept.reached is;
        unlike = apart_more;
      },
    )

-- of the rows that were seen
module _ {p : ProgramShape} {k : Classes} {front : List Ticket} {rows : List RowShape} {stack found : List StandingShape} (explored : IsExplored p k front rows stack found) where
  picked : (rs : List RowShape) → AllByRecursion (λ r. (s : StandingShape) × IsSeen p k front rows stack found r s) rs
      → (ss : List StandingShape) × AllZip (λ r s. IsKey p k s r) rs ss × AllByRecursion (IsFollowedTo p k only_reduced front) ss
  picked [] h = ([], tt, tt)
  picked (r ∷ rs) h = let later = picked rs h.1 in (h.0.0 ∷ later.0, (h.0.1.key, later.1), (h.0.1.to, later.2))

  kept : (ss : List StandingShape) × AreKept p k only_reduced front rows ss
  kept =
      let all = picked rows explored.seen in (
        all.0,
        record {
          keys = all.1;
          reached = all.2;
          apart = zip_two (λ r s. IsKey p k s r) {S = λ r q. r ≡ q → ⊥} {T = λ s t. Becomes k (configuration_in s) (configuration_in t) → ⊥}
              (λ r s q t own its other b. other (one_key p k s t r q b own its)) rows all.0 all.1 explored.once;
        },
      )

  pub noted_one_more : {s : StandingShape} → IsFollowedTo p k only_reduced front s → (HasOne (IsKey p k s) rows → ⊥) → (many : ℕ) → many ≡ suc (length rows)
      → HasNoted p k only_reduced front many
  noted_one_more is new = one_more kept.1 is new

-- all were noted to which followed orders lead, but for changes
pub has_reached : {p : ProgramShape} {k : Classes} {front : List Ticket} → IsSound p → AreClasses p k → {rows : List RowShape} {found : List StandingShape}
    → IsExplored p k front rows [] found → HasReached p k only_reduced front (length rows)
has_reached {p} {k} {front} sound are explored = (
  (kept explored).0,
  unlike (kept explored).1,
  λ rest legal followed.
      (let last = reached sound are explored rest followed in
      has_map (λ s. becomes_then k (configuration_after p (front ++ rest)) (configuration_in last.standing) (configuration_in s) last.becomes)
      (kept explored).0 (kept_there (kept explored).1 sound last.standing last.there)),
)
