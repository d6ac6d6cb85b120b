-- An act of a client in its block keeps the invariant of the optimised machine, once it is known what the act does to
-- the objects. The three kinds of such acts (`send_kept`, `get_kept`, `chunk_kept`) stand on `client_moves`. Only the
-- block record and the lanes of the client's current ticket change, so each ticket is either this one or stays as it
-- was.
use Rattle.std.proofs.Common.{◌≡◌, ◌<◌, ◌≤◌, arith, ℕ, suc, Bool, true, false, if◌then◌else◌, ◌==◌, List, [], ◌++◌, filter, sym, ap, ◌∙◌, subst, ⊎_elim, Option, None, rules}
use Rattle.qs_played.proofs.Names.{SyncCount, HeldState, part, same, Event, Ticket, Request, ticket_cases, put, each_map, each_both, reserves, ProgramShape, zeros, BlockRecord, IsDone, ticket, fresh_held}
use Rattle.qs_core_laws.proofs.Names.{ObjectStance, asks, gone, ClientLane, Parcel, Client, ClientStage, between, runs, put_at, put_at_here, put_at_there, put_all, put_at_field, put_at_kept, put_kept, IsOpenRecord, Core}
use Rattle.qs_core_laws.proofs.protocol.ObjectViews.{HandlerLog, IsObject}
use Rattle.qs_core_laws.proofs.protocol.ClientInvariants.{in_hand, PlaceOk, standing_at}
use Rattle.qs_core_laws.proofs.protocol.ActKinds.{in_hand_gone}
use Rattle.qs_core_laws.proofs.CoreInvariant.{LaneHistory, post, deeds, TicketOk, CoreInvariant}
use Rattle.qs_core_laws.proofs.LaneHistoryMoves.{begins_kept, none_after, ok_here, ok_there}

module _ (program : ProgramShape) (t : Ticket) (snt : ℕ → List Parcel) (got : ℕ → List HeldState) where
  pub place_record : (m : Client) (pg : BlockRecord) (pl : ClientStage) → PlaceOk program t snt got m pg pl → IsOpenRecord program t pg
  place_record m pg v k = search rules

  pub place_lane : (m : Client) (pg : BlockRecord) (pl : ClientStage) → PlaceOk program t snt got m pg pl → (h : ℕ) → ClientLane t false (snt h) (got h) (part h pg.trace) (standing_at program t m pl h)
  place_lane m pg v k h = search rules

  awaits_gone : (b : Bool) (o : Option HeldState) (c : Option (List Request)) → (if b then asks else in_hand o c) ≡ gone → ⊥
  awaits_gone v o c e = search (rules, in_hand_gone)

  pub place_gone : (m : Client) (pg : BlockRecord) (pl : ClientStage) → PlaceOk program t snt got m pg pl → (h : ℕ) → standing_at program t m pl h ≡ gone → IsDone pg.rest
  place_gone m pg pl k h e = search (rules, in_hand_gone, awaits_gone)

module _ (program : ProgramShape) (s : Core) (y : LaneHistory) (g : ℕ → HandlerLog) (kept : CoreInvariant program s y g)
    (c k : ℕ) (begun : (s.client c).begun ≡ suc k) (m : Client) (same_begun : m.begun ≡ (s.client c).begun) (events : List Event)
    (snt : ℕ → List Parcel) (got : ℕ → List HeldState) (pg : BlockRecord) (entry : pg.entry ≡ (y.block_record (ticket c k)).entry) (trace : pg.trace ≡ (y.block_record (ticket c k)).trace ++ events)
    (ok : PlaceOk program (ticket c k) snt got m pg m.stage) (out : (h : ℕ) → reserves program (ticket c k) h ≡ false → (snt h ≡ []) × (got h ≡ [])) where
  abbrev pub t : Ticket
  t = ticket c k

  abbrev pub story : LaneHistory
  story = record { block_record = put_at y.block_record t pg; sent = put_at y.sent t snt; got = put_at y.got t got; stands = put_at y.stands t (standing_at program t m m.stage) }

  abbrev pub state_after : (ℕ → ℕ → List Parcel) → (ℕ → ℕ → Option HeldState) → (ℕ → ℕ → ℕ) → (ℕ → ℕ) → (Ticket → List SyncCount) → Core
  state_after down up spare syncs tallies = record s { client = put s.client c m; trace = put_at s.trace t (s.trace t ++ events); down = down; up = up; spare = spare; syncs = syncs; sync_counts = tallies }

  begun_kept : (d : ℕ) → (put s.client c m d).begun ≡ (s.client d).begun
  begun_kept d = put_kept (λ (m : Client). m.begun) s.client c m same_begun d

  old_record : (u : Ticket) → same t u ≡ false → story.block_record u ≡ y.block_record u
  old_record u n = put_at_there y.block_record t pg u n

  -- no later ticket of the client is there
  apart_from_this : (u : Ticket) → suc u.index ≤ (s.client u.client).begun → (i : ℕ) → u.index ≡ suc i → t ≡ ticket u.client i → ⊥
  apart_from_this u low = none_after (λ d. (s.client d).begun) t (omega (arith, begun)) u.client u.index low

  ok_new : TicketOk program y t → suc k ≤ (s.client c).begun → TicketOk program story t
  ok_new old low = search (rules, ok_here, standing_at, place_record, begins_kept, apart_from_this, place_lane, place_gone)

  ok_old : (u : Ticket) → same t u ≡ false → suc u.index ≤ (s.client u.client).begun → TicketOk program y u → TicketOk program story u
  ok_old u n low old = ok_there program y t pg snt got (standing_at program t m m.stage) u n (apart_from_this u low) old

  not_this : (d j : ℕ) → (c == d) ≡ false → same t (ticket d j) ≡ false
  not_this d j n = rw n

  pub client_moves : (down : ℕ → ℕ → List Parcel) (up : ℕ → ℕ → Option HeldState) (spare : ℕ → ℕ → ℕ) (syncs : ℕ → ℕ) (tallies : Ticket → List SyncCount) (g' : ℕ → HandlerLog)
      → ((h : ℕ) → IsObject (filter (λ t. reserves program t h) s.order) (fresh_held program h) (post (state_after down up spare syncs tallies) h) (deeds story h) (g' h))
      → CoreInvariant program (state_after down up spare syncs tallies) story g'
  client_moves down up spare syncs tallies g' objects = record {
    legal = kept.legal;
    counts = λ d. kept.counts d ∙ sym (begun_kept d);
    below = each_map (λ u (lt : suc u.index ≤ (s.client u.client).begun). subst (λ n. suc u.index ≤ n) (sym (begun_kept u.client)) lt) s.order kept.below;
    tickets_ok = each_both (λ u (lt : suc u.index ≤ (s.client u.client).begun) (old : TicketOk program y u).
        ⊎_elim
        (λ (is : t ≡ u). subst (TicketOk program story) is (ok_new (subst (TicketOk program y) (sym is) old) (omega arith)))
        (λ (other : same t u ≡ false). ok_old u other lt old)
        (ticket_cases t u)) s.order kept.below kept.tickets_ok;
    entry = λ u. put_at_kept (λ (p : BlockRecord). p.entry) y.block_record t pg entry u ∙ kept.entry u;
    trace = put_at_field (λ (p : BlockRecord). p.trace) y.block_record s.trace t pg (s.trace t ++ events) kept.trace (trace ∙ ap (λ es. es ++ events) (kept.trace t));
    idle = put_all (λ d (m : Client). m.begun ≡ 0 → (m.stage ≡ between zeros) × ((h : ℕ) → (m.held h ≡ None) × (m.chunk h ≡ None))) s.client c m (λ e. absurd (omega arith)) (λ d other e. kept.idle d e);
    places = λ d j. put_all (λ d (m : Client). (j : ℕ) → m.begun ≡ suc j → PlaceOk program (ticket d j) (story.sent (ticket d j)) (story.got (ticket d j)) m (story.block_record (ticket d j)) m.stage) s.client c m
        (λ j e. let i : k ≡ j = omega arith in subst (λ j. PlaceOk program (ticket c j) (story.sent (ticket c j)) (story.got (ticket c j)) m (story.block_record (ticket c j)) m.stage) i
        (subst (λ (f : ℕ → List Parcel). PlaceOk program t f (story.got t) m (story.block_record t) m.stage) (sym (put_at_here y.sent t snt))
        (subst (λ (f : ℕ → List HeldState). PlaceOk program t snt f m (story.block_record t) m.stage) (sym (put_at_here y.got t got))
        (subst (λ (p : BlockRecord). PlaceOk program t snt got m p m.stage) (sym (put_at_here y.block_record t pg)) ok))))
        (λ d other j e.
        let n = not_this d j other in
        subst (λ (f : ℕ → List Parcel). PlaceOk program (ticket d j) f (story.got (ticket d j)) (s.client d) (story.block_record (ticket d j)) (s.client d).stage) (sym (put_at_there y.sent t snt (ticket d j) n))
        (subst (λ (f : ℕ → List HeldState). PlaceOk program (ticket d j) (y.sent (ticket d j)) f (s.client d) (story.block_record (ticket d j)) (s.client d).stage) (sym (put_at_there y.got t got (ticket d j) n))
        (subst (λ (p : BlockRecord). PlaceOk program (ticket d j) (y.sent (ticket d j)) (y.got (ticket d j)) (s.client d) p (s.client d).stage) (sym (old_record (ticket d j) n)) (kept.places d j e)))) d j;
    stands = search (rules, put_all, put_at_here, put_at_there, not_this, kept);
    older = grind (arith, begun_kept, put_at_there, kept, ticket_cases);
    outside = search (rules, put_at_here, kept, put_at_there, ticket_cases);
    objects = objects;
  }
