-- The journal of an object grows along the order of reservations: each ticket adds what its trace says of the object,
-- but for the commands that still lie in its private queue. Isolation under the plain rules (`Isolating`) needs this of
-- each object of a sound served run. The proof is an induction along the order, over tickets that are over, that are
-- served, or that don't reserve the object.
use Rattle.std.proofs.Common.{◌≡◌, ℕ, Bool, true, false, true≢false, if◌then◌else◌, List, [], ◌∷◌, ◌++◌, map, filter, flat_map, refl, sym, ap, ◌∙◌, subst, inl, inr, append_assoc, append-nil, rules}
use Rattle.qs_played.proofs.Names.{AllByRecursion, map-append, State, replay, unstamp, without_tickets, IsHonest, command_event, same, stamp, Entry, Event, Ticket, Request, not_same, same_self, replay-append, IsHonest-front, IsHonest-back, reserves, ProgramShape, each_map, each_both, each_unfiltered, ObjectCourse, Flow, OnlyCommands, NoQuery, Apart, unstamp_all}
use Rattle.qs_plain_laws.proofs.Names.{commands_in, commands_of, QueueItem}
use Rattle.qs_plain_laws.proofs.ServedRuns.{Service, Front, entries_shown}
use Rattle.qs_plain_laws.proofs.RunViews.{ClientView}
use Rattle.qs_plain_laws.proofs.Simulation.{private, tail, tail_now}
use Rattle.qs_plain_laws.specs.declared.item.QueueItem.TheVariants as item

-- the line of an object whose commands on the way are these
abbrev pub line_of : ProgramShape → ℕ → (Ticket → List Event) → (Ticket → Type 0) → Service → (Ticket → List Request) → ObjectCourse
line_of p h parts done l waits = record { may = λ t. reserves p t h; parts = parts; done = done; waits = waits; busy = (l.queue ≡ [] → ⊥); present = l.state }

module _ (p : ProgramShape) (h : ℕ) (parts : Ticket → List Event) (done : Ticket → Type 0) (l : Service) (waits : Ticket → List Request) where
  abbrev x : ObjectCourse
  x = line_of p h parts done l waits

  abbrev blocks : List Ticket → List Entry
  blocks = flat_map (λ t. map (stamp t) (parts t))

  -- one that is over
  flow_over : (t : Ticket) (ts : List Ticket) (s : State) (j later : List Entry) → done t → waits t ≡ [] → j ≡ map (stamp t) (parts t) ++ later
      → IsHonest s (without_tickets j) → replay s (without_tickets j) ≡ l.state
      → ((s : State) → IsHonest s (without_tickets later) → replay s (without_tickets later) ≡ l.state → Flow x s later ts)
      → Flow x s j (t ∷ ts)
  flow_over t ts s j later d none e honest state next =
      let is : without_tickets j ≡ parts t ++ without_tickets later =
      ap without_tickets e ∙ (map-append unstamp (map (stamp t) (parts t)) later ∙ ap (λ es. es ++ without_tickets later) (unstamp_all t (parts t))) in
      let honest' = subst (IsHonest s) is honest in
      let state' : replay (replay s (parts t)) (without_tickets later) ≡ l.state = sym (replay-append s (parts t) (without_tickets later)) ∙ (sym (ap (replay s) is) ∙ state) in (
        record {
          ran = parts t;
          later = later;
          journal_is = e;
          part_is = sym (ap (λ ws. parts t ++ map command_event ws) none ∙ append-nil (parts t));
          honest = IsHonest-front s (parts t) (without_tickets later) honest';
          commands = subst (AllByRecursion NoQuery) (sym none) tt;
        },
        inl ((λ _. d), none, next (replay s (parts t)) (IsHonest-back s (parts t) (without_tickets later) honest') state'),
      )

  -- the one that is served
  flow_first : (t : Ticket) (ts : List Ticket) (s : State) (j : List Entry) → (l.queue ≡ [] → ⊥) → j ≡ map (stamp t) l.now → parts t ≡ l.now ++ map command_event (waits t) → AllByRecursion NoQuery (waits t)
      → AllByRecursion (λ u. OnlyCommands (parts u) (waits u)) (filter (λ u. reserves p u h) ts) → AllByRecursion (λ u. reserves p u h ≡ false → (parts u ≡ []) × (waits u ≡ [])) ts
      → IsHonest s (without_tickets j) → Flow x s j (t ∷ ts)
  flow_first t ts s j busy e f c g idle honest = (
    record {
      ran = l.now;
      later = [];
      journal_is = e ∙ sym (append-nil (map (stamp t) l.now));
      part_is = f;
      honest = subst (IsHonest s) (ap without_tickets e ∙ unstamp_all t l.now) honest;
      commands = c;
    },
    inr (
      busy,
      refl,
      each_unfiltered (λ u. OnlyCommands (parts u) (waits u)) (λ u. reserves p u h) ts g
          (each_map (λ u (i : reserves p u h ≡ false → (parts u ≡ []) × (waits u ≡ [])).
          λ k. ((i k).0 ∙ sym (ap (map command_event) (i k).1), subst (AllByRecursion NoQuery) (sym (i k).1) tt)) ts idle),
    ),
  )

  -- one that doesn't reserve the object
  flow_pass : (t : Ticket) (ts : List Ticket) (s : State) (j : List Entry) → reserves p t h ≡ false → (parts t ≡ []) × (waits t ≡ []) → Flow x s j ts → Flow x s j (t ∷ ts)
  flow_pass t ts s j other e next = (
    record {
      ran = [];
      later = j;
      journal_is = refl;
      part_is = e.0 ∙ sym (ap (map command_event) e.1);
      honest = tt;
      commands = subst (AllByRecursion NoQuery) (sym e.1) tt;
    },
    inl ((λ k. absurd (true≢false (sym k ∙ other))), e.1, next),
  )

  pub flow : (ts past q : List Ticket) (s : State) (j : List Entry) → q ≡ l.queue → filter (λ t. reserves p t h) ts ≡ past ++ q → AllByRecursion done past → AllByRecursion (λ t. waits t ≡ []) past
      → Front parts l.now waits q → AllByRecursion (λ u. AllByRecursion NoQuery (waits u)) q
      → j ≡ blocks past ++ entries_shown q l.now → IsHonest s (without_tickets j) → replay s (without_tickets j) ≡ l.state
      → AllByRecursion (λ u. reserves p u h ≡ false → (parts u ≡ []) × (waits u ≡ [])) ts → Flow x s j ts
  flow [] [] [] s j iq e d n f c k honest state idle = (k, subst (λ j. replay s (without_tickets j) ≡ l.state) k state)
  flow (t ∷ ts) past q s j iq e d n f c k honest state idle = by_case (reserves p t h) refl past q iq e d n f c k (flow ts)
    where
      by_case : (b : Bool) → reserves p t h ≡ b → (past q : List Ticket) → q ≡ l.queue → (if b then t ∷ filter (λ t. reserves p t h) ts else filter (λ t. reserves p t h) ts) ≡ past ++ q
          → AllByRecursion done past → AllByRecursion (λ t. waits t ≡ []) past → Front parts l.now waits q → AllByRecursion (λ u. AllByRecursion NoQuery (waits u)) q
          → j ≡ blocks past ++ entries_shown q l.now
          → ((past q : List Ticket) (s : State) (j : List Entry) → q ≡ l.queue → filter (λ t. reserves p t h) ts ≡ past ++ q → AllByRecursion done past → AllByRecursion (λ t. waits t ≡ []) past
          → Front parts l.now waits q → AllByRecursion (λ u. AllByRecursion NoQuery (waits u)) q
          → j ≡ blocks past ++ entries_shown q l.now → IsHonest s (without_tickets j) → replay s (without_tickets j) ≡ l.state
          → AllByRecursion (λ u. reserves p u h ≡ false → (parts u ≡ []) × (waits u ≡ [])) ts → Flow x s j ts)
          → Flow x s j (t ∷ ts)
      by_case false b past q iq e d n f c k ih = flow_pass t ts s j b (idle.0 b) (ih past q s j iq e d n f c k honest state idle.1)
      by_case true b [] [] iq e d n f c k ih = absurd (cc)
      by_case true b [] (u ∷ us) iq e d n f c k ih =
          let is : t ≡ u = cc in
          let more : filter (λ t. reserves p t h) ts ≡ us = cc in
          flow_first t ts s j (λ none. absurd (let bad : u ∷ us ≡ [] = iq ∙ none in cc)) (k ∙ ap (λ u. map (stamp u) l.now) (sym is))
          (subst (λ u. parts u ≡ l.now ++ map command_event (waits u)) (sym is) f.0) (subst (λ u. AllByRecursion NoQuery (waits u)) (sym is) c.0)
          (subst (AllByRecursion (λ u. OnlyCommands (parts u) (waits u))) (sym more) (each_both (λ u a b. (a, b)) us f.1 c.1)) idle.1 honest
      by_case true b (u ∷ us) q iq e d n f c k ih =
          let is : t ≡ u = cc in
          let more : filter (λ t. reserves p t h) ts ≡ us ++ q = cc in
          flow_over t ts s j (blocks us ++ entries_shown q l.now) (subst done (sym is) d.0) (subst (λ u. waits u ≡ []) (sym is) n.0)
          (k ∙ (append_assoc (map (stamp u) (parts u)) (blocks us) (entries_shown q l.now) ∙ ap (λ u. map (stamp u) (parts u) ++ (blocks us ++ entries_shown q l.now)) (sym is)))
          honest state (λ s honest' state'. ih us q s (blocks us ++ entries_shown q l.now) iq more d.1 n.1 f c refl honest' state' idle.1)
  flow [] _ _ s j iq e d n f c k honest state idle = absurd (cc)

-- the commands in private queues

commands_tail : (client : ℕ → ClientView) (h : ℕ) (u : Ticket) → commands_in (tail client h u) ≡ []
commands_tail client h u = search (rules, tail_now)

commands_first : (rs : List Request) (items : List QueueItem) → commands_in items ≡ [] → commands_in (map item.Command rs ++ items) ≡ rs
commands_first [] items e = e
commands_first (r ∷ rs) items e = ap (λ rs. r ∷ rs) (commands_first rs items e)

pub commands_private : (client : ℕ → ClientView) (h : ℕ) (wait : Ticket → List Request) (u : Ticket) → commands_in (private client h wait u).items ≡ wait u
commands_private client h wait u = commands_first (wait u) (tail client h u) (commands_tail client h u)

module _ (client : ℕ → ClientView) (h : ℕ) (wait : Ticket → List Request) where
  abbrev pub commands_found : List Ticket → Ticket → List Request
  commands_found q t = flat_map (commands_of t) (map (private client h wait) q)

  -- of a ticket that has no private queue
  pub found_none : (q : List Ticket) (t : Ticket) → AllByRecursion (λ u. same t u ≡ false) q → commands_found q t ≡ []
  found_none [] t other = refl
  found_none (u ∷ q) t other = rw other.0 (found_none q t other.1)

  found_skip : (q : List Ticket) (t u : Ticket) → same u t ≡ false → commands_found (t ∷ q) u ≡ commands_found q u
  found_skip q t u other = rw other refl

  -- of each that has one
  pub found_each : (q : List Ticket) → Apart q → AllByRecursion (λ u. commands_found q u ≡ wait u) q
  found_each [] apart = tt
  found_each (t ∷ q) apart = search (rules, found_none, each_map, not_same, append-nil, each_both, found_skip, same_self, commands_private, found_each q apart.1)
