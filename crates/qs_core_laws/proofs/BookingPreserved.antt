-- A reservation keeps the machine's invariant: it adds one ticket to the order, to its handlers' queues and to its
-- client.
use Rattle.std.proofs.Common.{◌≡◌, ◌<◌, ◌≤◌, arith, ℕ, zero, suc, Bool, true, false, if◌then◌else◌, ◌==◌, List, [], ◌∷◌, ◌++◌, filter, refl, sym, ap, ◌∙◌, subst, ⊎_elim, append-nil, None, rules}
use Rattle.qs_played.proofs.Names.{AllByRecursion, fun_ext, filter-append, HeldState, same, Ticket, apart_eqb, num_cases, ticket_cases, put, each_map, each_both, each_snoc, each_front, each_kept, put_here, put_there, reserves, block_tree, AsksOnly, ProgramShape, blocks_of, zeros, Locals, BlockRecord, Begins, ticket, fresh_held}
use Rattle.qs_core_laws.proofs.Names.{Synced, without_syncs, IsSoundSynced, IsOnReserved, ObjectStance, sends, gone, Parcel, Client, Settings, Settlement, between, begin, put_at, put_at_here, put_at_there, put_all, put_field, put_at_field, legal-more, counts-more, Core}
use Rattle.qs_core_laws.proofs.protocol.ObjectViews.{as_list, HandlerLog, ahead, IsObject}
use Rattle.qs_core_laws.proofs.protocol.ClientInvariants.{objects_of_block, Lined, Leaving, PlaceOk, standing_at}
use Rattle.qs_core_laws.proofs.protocol.ClientLogs.{books_ok}
use Rattle.qs_core_laws.proofs.protocol.ObjectSteps.{enter_ok}
use Rattle.qs_core_laws.proofs.protocol.ActObjects.{settle_begun}
use Rattle.qs_core_laws.proofs.CoreInvariant.{LaneHistory, post, deeds, TicketOk, CoreInvariant}
use Rattle.qs_core_laws.proofs.HandlerSteps.{of_ahead}
use Rattle.qs_core_laws.proofs.ClientSteps.{place_record, place_lane, place_gone}
use Rattle.qs_core_laws.proofs.SendingPreserved.{object_deeds, grown_there}
use Rattle.qs_core_laws.proofs.LaneHistoryMoves.{begins_kept, none_after, ok_here, ok_there}

module _ (program : ProgramShape) (fine : (t : Ticket) (l : Locals) → AsksOnly (reserves program t) (block_tree program t l)) (lined : (t : Ticket) → Lined (reserves program t) (objects_of_block program t))
    (s : Core) (y : LaneHistory) (g : ℕ → HandlerLog) (k : CoreInvariant program s y g) (settings : Settings)
    (c n : ℕ) (begun : (s.client c).begun ≡ n) (some : n < blocks_of program c) (l : Locals) (place : (s.client c).stage ≡ between l)
    (code : Synced) (is_tree : without_syncs code ≡ block_tree program (ticket c n) l) (sound : IsSoundSynced (λ h. false) code) (on : IsOnReserved (objects_of_block program (ticket c n)) code) where
  abbrev t : Ticket
  t = ticket c n

  abbrev r : Settlement
  r = begin settings t (objects_of_block program t) (s.client c) code

  new_begun : r.client.begun ≡ suc n
  new_begun = settle_begun settings t (objects_of_block program t) code (record (s.client c) { begun = suc (s.client c).begun }) ∙ ap suc begun

  pub nothing : (n : ℕ) → (s.client c).begun ≡ n → (h : ℕ) → ((s.client c).held h ≡ None) × ((s.client c).chunk h ≡ None)
  nothing zero b h = (k.idle c b).1 h
  nothing (suc j) b h =
      let ok : Leaving program (ticket c j) (y.sent (ticket c j)) (y.got (ticket c j)) (s.client c) (y.block_record (ticket c j)) [] l = subst (PlaceOk program (ticket c j) (y.sent (ticket c j)) (y.got (ticket c j)) (s.client c) (y.block_record (ticket c j))) place (k.places c j b) in
      ok.empty h refl

  before_it : (n : ℕ) → (s.client c).begun ≡ n → Begins y.block_record c n l
  before_it zero b = cc (sym place ∙ (k.idle c b).0)
  before_it (suc j) b =
      let ok : Leaving program (ticket c j) (y.sent (ticket c j)) (y.got (ticket c j)) (s.client c) (y.block_record (ticket c j)) [] l = subst (PlaceOk program (ticket c j) (y.sent (ticket c j)) (y.got (ticket c j)) (s.client c) (y.block_record (ticket c j))) place (k.places c j b) in
      ok.rest

  abbrev ends : (pg' : BlockRecord) × (pg'.entry ≡ l) × (pg'.trace ≡ r.events) × PlaceOk program t (λ h. []) (λ h. []) r.client pg' r.client.stage
  ends = books_ok program t (λ h. []) (λ h. []) settings (lined t) 0 (s.client c) l code (λ h. (nothing n begun h).0) (λ h. (nothing n begun h).1) (λ h. refl) (λ h. refl)
      is_tree (fine t l) sound on

  abbrev pg : BlockRecord
  pg = ends.0

  abbrev Y : LaneHistory
  Y = record { block_record = put_at y.block_record t pg; sent = put_at y.sent t (λ h. []); got = put_at y.got t (λ h. []); stands = put_at y.stands t (standing_at program t r.client r.client.stage) }

  abbrev G : ℕ → HandlerLog
  G h = if reserves program t h then record (g h) { received = put_at (g h).received t []; way = put_at (g h).way t [] } else g h

  abbrev pub reserved_core : Core
  reserved_core = record {
    order = s.order ++ t ∷ [];
    client = put s.client c r.client;
    syncs = s.syncs;
    sync_counts = s.sync_counts;
    down = s.down;
    up = s.up;
    spare = s.spare;
    handler = s.handler;
    tickets = λ h. if reserves program t h then s.tickets h ++ t ∷ [] else s.tickets h;
    entry = put_at s.entry t l;
    trace = put_at s.trace t r.events;
  }

  fresh : AllByRecursion (λ u. same t u ≡ false) s.order
  fresh = search (rules, each_map, ticket_cases)

  begun_up : (d : ℕ) → (s.client d).begun ≤ (put s.client c r.client d).begun
  begun_up d = search (rules, put_here, new_begun, put_there, num_cases)

  old_record : (u : Ticket) → same t u ≡ false → Y.block_record u ≡ y.block_record u
  old_record u e = put_at_there y.block_record t pg u e

  ok_new : TicketOk program Y t
  ok_new =
      ok_here program y t pg (λ h. []) (λ h. []) (standing_at program t r.client r.client.stage) (place_record program t (λ h. []) (λ h. []) r.client pg r.client.stage ends.3)
      (begins_kept program y t pg (λ h. []) (λ h. []) (standing_at program t r.client r.client.stage) c n l pg.entry (sym ends.1) own_index (before_it n begun))
      (place_lane program t (λ h. []) (λ h. []) r.client pg r.client.stage ends.3) (place_gone program t (λ h. []) (λ h. []) r.client pg r.client.stage ends.3)
    where
      own_index : (i : ℕ) → n ≡ suc i → t ≡ ticket c i → ⊥
      own_index i next is = let index : n ≡ i = ap (λ (t : Ticket). t.index) is in omega (arith, next, index)

  ok_old : (u : Ticket) → same t u ≡ false → suc u.index ≤ (s.client u.client).begun → TicketOk program y u → TicketOk program Y u
  ok_old u e low old =
      ok_there program y t pg (λ h. []) (λ h. []) (standing_at program t r.client r.client.stage) u e
      (none_after (λ d. (s.client d).begun) t (omega (arith, begun)) u.client u.index low) old

  not_this : (d j : ℕ) → (c == d) ≡ false → same t (ticket d j) ≡ false
  not_this d j e = rw e

  of_past : (P : Ticket → Type 0) (h : ℕ) → AllByRecursion P s.order → AllByRecursion P (g h).past
  of_past P h all = each_front P (g h).past (ahead (post s h)) (subst (AllByRecursion P) (k.objects h).split (each_kept P (λ t. reserves program t h) s.order all))

  one_more : (h : ℕ) (b : Bool) → reserves program t h ≡ b → filter (λ t. reserves program t h) (s.order ++ t ∷ []) ≡ filter (λ t. reserves program t h) s.order ++ (if b then t ∷ [] else [])
  one_more h b e = filter-append (λ t. reserves program t h) s.order (t ∷ []) ∙ ap (λ b. filter (λ t. reserves program t h) s.order ++ (if b then t ∷ [] else [])) e

  object : (h : ℕ) (b : Bool) → reserves program t h ≡ b → IsObject (filter (λ t. reserves program t h) (s.order ++ t ∷ [])) (fresh_held program h)
      (record { handler = s.handler h; tickets = (if b then s.tickets h ++ t ∷ [] else s.tickets h); down = λ c. s.down c h; up = λ c. as_list (s.up c h) }) (deeds Y h)
      (if b then record (g h) { received = put_at (g h).received t []; way = put_at (g h).way t [] } else g h)
  object h true e =
      subst (λ q. IsObject q (fresh_held program h) (record { handler = s.handler h; tickets = s.tickets h ++ t ∷ []; down = λ c. s.down c h; up = λ c. as_list (s.up c h) }) (deeds Y h) (record (g h) { received = put_at (g h).received t []; way = put_at (g h).way t [] })) (sym (one_more h true e))
      (object_deeds (filter (λ t. reserves program t h) s.order ++ t ∷ []) (fresh_held program h) (record (post s h) { tickets = s.tickets h ++ t ∷ [] }) (record (deeds y h) { sent = put_at (λ u. y.sent u h) t []; got = put_at (λ u. y.got u h) t [] }) (deeds Y h) (record (g h) { received = put_at (g h).received t []; way = put_at (g h).way t [] })
      (λ u. sent_is (same t u) u) (λ u. got_is (same t u) u)
      (enter_ok (filter (λ t. reserves program t h) s.order) (fresh_held program h) (post s h) (deeds y h) (g h) t (of_past (λ u. same t u ≡ false) h fresh) (of_ahead program s y g k (λ u. same t u ≡ false) h fresh)
      (of_ahead program s y g k (λ (u : Ticket). u.client ≡ c → u.index < n) h (each_map {Q = λ (u : Ticket). u.client ≡ c → u.index < n} (λ (u : Ticket) (lt : suc u.index ≤ (s.client u.client).begun) (e : u.client ≡ c). let lt' : suc u.index ≤ (s.client c).begun = subst (λ d. suc u.index ≤ (s.client d).begun) e lt in omega (arith, lt', begun)) s.order k.below))
      (k.objects h)))
    where
      sent_is : (b : Bool) (u : Ticket) → (if b then [] else y.sent u h) ≡ (if b then (λ h. []) else y.sent u) h
      sent_is v u = search rules

      got_is : (b : Bool) (u : Ticket) → (if b then [] else y.got u h) ≡ (if b then (λ h. []) else y.got u) h
      got_is v u = search rules
  object h false e =
      let o = k.outside t h e in
      subst (λ q. IsObject q (fresh_held program h) (post s h) (deeds Y h) (g h)) (sym (one_more h false e ∙ append-nil (filter (λ t. reserves program t h) s.order)))
      (object_deeds (filter (λ t. reserves program t h) s.order) (fresh_held program h) (post s h) (deeds y h) (deeds Y h) (g h)
      (λ u. sym (grown_there y.sent t (λ h. []) h (sym o.0) u)) (λ u. sym (grown_there y.got t (λ h. []) h (sym o.1) u)) (k.objects h))

  last_gone : (j h : ℕ) → (s.client c).begun ≡ suc j → reserves program (ticket c j) h ≡ true → y.stands (ticket c j) h ≡ gone
  last_gone j h b m = k.stands c j b h ∙ (ap (λ p. standing_at program (ticket c j) (s.client c) p h) place ∙ ap (λ b. (if b then gone else sends [])) m)

  older_now : (j h : ℕ) → suc j < suc n → reserves program (ticket c j) h ≡ true → y.stands (ticket c j) h ≡ gone
  older_now j h lt m = search (rules, last_gone, apart_eqb, num_cases)

  all_kept : CoreInvariant program reserved_core Y G
  all_kept = record {
    legal = legal-more program (λ _. 0) s.order t k.legal (sym (k.counts c ∙ begun)) some;
    counts = search (rules, counts-more, k, put_field, new_begun);
    below = grind (arith, each_snoc, each_map, begun_up, k, put_here, new_begun);
    tickets_ok = each_snoc (TicketOk program Y) s.order t
        (each_both (λ u (n : same t u ≡ false) (h : (suc u.index ≤ (s.client u.client).begun) × TicketOk program y u). ok_old u n h.0 h.1) s.order fresh
        (each_both (λ u a b. (a, b)) s.order k.below k.tickets_ok))
        ok_new;
    entry = put_at_field (λ (p : BlockRecord). p.entry) y.block_record s.entry t pg l k.entry ends.1;
    trace = put_at_field (λ (p : BlockRecord). p.trace) y.block_record s.trace t pg r.events k.trace ends.2;
    idle = put_all (λ d (m : Client). m.begun ≡ 0 → (m.stage ≡ between zeros) × ((h : ℕ) → (m.held h ≡ None) × (m.chunk h ≡ None))) s.client c r.client (λ e. let b = new_begun in absurd (omega (arith, b, e))) (λ d other e. k.idle d e);
    places = λ d j. put_all (λ d (m : Client). (j : ℕ) → m.begun ≡ suc j → PlaceOk program (ticket d j) (Y.sent (ticket d j)) (Y.got (ticket d j)) m (Y.block_record (ticket d j)) m.stage) s.client c r.client
        (λ j e. let b = new_begun in let i : n ≡ j = omega (arith, b, e) in subst (λ j. PlaceOk program (ticket c j) (Y.sent (ticket c j)) (Y.got (ticket c j)) r.client (Y.block_record (ticket c j)) r.client.stage) i
        (subst (λ (f : ℕ → List Parcel). PlaceOk program t f (Y.got t) r.client (Y.block_record t) r.client.stage) (sym (put_at_here y.sent t (λ h. [])))
        (subst (λ (f : ℕ → List HeldState). PlaceOk program t (λ h. []) f r.client (Y.block_record t) r.client.stage) (sym (put_at_here y.got t (λ h. [])))
        (subst (λ (p : BlockRecord). PlaceOk program t (λ h. []) (λ h. []) r.client p r.client.stage) (sym (put_at_here y.block_record t pg)) ends.3))))
        (λ d other j e.
        let n = not_this d j other in
        subst (λ (f : ℕ → List Parcel). PlaceOk program (ticket d j) f (Y.got (ticket d j)) (s.client d) (Y.block_record (ticket d j)) (s.client d).stage) (sym (put_at_there y.sent t (λ h. []) (ticket d j) n))
        (subst (λ (f : ℕ → List HeldState). PlaceOk program (ticket d j) (y.sent (ticket d j)) f (s.client d) (Y.block_record (ticket d j)) (s.client d).stage) (sym (put_at_there y.got t (λ h. []) (ticket d j) n))
        (subst (λ (p : BlockRecord). PlaceOk program (ticket d j) (y.sent (ticket d j)) (y.got (ticket d j)) (s.client d) p (s.client d).stage) (sym (old_record (ticket d j) n)) (k.places d j e)))) d j;
    stands = grind (arith, put_all, new_begun, put_at_here, put_at_there, not_this, k);
    older = grind (arith, put_all, new_begun, put_at_there, older_now, ticket_cases, not_this, k);
    outside = search (rules, put_at_here, k, put_at_there, ticket_cases);
    objects = λ h. object h (reserves program t h) refl;
  }

  pub reserve_kept : (y' : LaneHistory) × (g' : ℕ → HandlerLog) × CoreInvariant program reserved_core y' g'
  reserve_kept = (Y, G, all_kept)
