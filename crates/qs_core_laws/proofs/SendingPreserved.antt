-- A client's steps within its block keep the invariant of the optimised machine: it sends a parcel, gets an object, or
-- takes an empty chunk. The proof that every step does (`CoreSteps`) stands on it. Only the client's newest ticket and
-- the lane that it uses move; as no later ticket of this client is in that object's queue, a parcel more is the last of
-- its lane.
use Rattle.std.proofs.Common.{◌≡◌, ◌≢◌, ◌<◌, ◌≤◌, arith, ℕ, suc, Bool, true, false, true≢false, if◌then◌else◌, ◌==◌, List, [], ◌∷◌, ◌++◌, filter, refl, sym, ap, ◌∙◌, subst, ◌⊎◌, inl, inr, ⊎_elim, Option, Some, None, rules}
use Rattle.qs_played.proofs.Names.{AllByRecursion, fun_ext, SyncCount, HeldState, part, same, Event, Ticket, apart_eqb, num_cases, ticket_cases, ticket_path, same_self, put, each_map, each_front, each_kept, Among, BlockRecord, put_here, put_there, reserves, ProgramShape, ticket, fresh_held}
use Rattle.qs_core_laws.proofs.Names.{ObjectStance, asks, gone, ClientLane, Parcel, serving, Client, Settings, Settlement, act_of, after_parcel, take_chunk, Send, Await, NeedChunk, put_at, put_at_here, put_at_there, legal_among, Core, put_lane}
use Rattle.qs_client.specs.audit.rules.Client as clients
use Rattle.qs_core_laws.proofs.protocol.ObjectViews.{as_list, PastOf, ObjectView, ClientLog, HandlerLog, ahead, IsObject}
use Rattle.qs_core_laws.proofs.protocol.ClientInvariants.{objects_of_block, Lined, PlaceOk}
use Rattle.qs_core_laws.proofs.protocol.LaneWays.{LastOf}
use Rattle.qs_core_laws.proofs.protocol.LaneWholes.{match_over}
use Rattle.qs_core_laws.proofs.protocol.ClientLogs.{sends_ok, gets_ok, chunks_ok}
use Rattle.qs_core_laws.proofs.protocol.ActObjects.{send_at, await_at, sent_begun, got_begun, chunk_begun}
use Rattle.qs_core_laws.proofs.protocol.ObjectSteps.{send_ok, got_ok, last_of, up_serving}
use Rattle.qs_core_laws.proofs.CoreInvariant.{LaneHistory, post, deeds, TicketOk, CoreInvariant}
use Rattle.qs_core_laws.proofs.HandlerSteps.{put_lane_at, put_lane_there, put_up_at, put_up_there, post_path, deeds_ok, of_ahead, may_ahead}
use Rattle.qs_core_laws.proofs.ClientSteps.{client_moves, state_after, story}

pub grown_here : {A : Type 0} (f : Ticket → ℕ → A) (t : Ticket) (h : ℕ) (a : A) (u : Ticket) → put_at f t (put (f t) h a) u h ≡ put_at (λ u. f u h) t a u
grown_here f t h a u = search (rules, put_here)

pub grown_there : {A : Type 0} (f : Ticket → ℕ → A) (t : Ticket) (k : ℕ → A) (j : ℕ) → k j ≡ f t j → (u : Ticket) → put_at f t k u j ≡ f u j
grown_there f t k j e u = search (rules, put_at, put_at_here, put_at_there, ticket_cases)

-- of the clients' sides only what was sent and got counts
pub object_deeds : (mine : List Ticket) (x : HeldState) (b : ObjectView) (y z : ClientLog) (g : HandlerLog) → ((t : Ticket) → y.sent t ≡ z.sent t) → ((t : Ticket) → y.got t ≡ z.got t) → IsObject mine x b y g → IsObject mine x b z g
object_deeds mine x b y z g e e' k =
    subst (λ (f : Ticket → List Parcel). IsObject mine x b (record { sent = f; got = z.got; events = z.events; stands = z.stands }) g) (fun_ext e)
    (subst (λ (f : Ticket → List HeldState). IsObject mine x b (record { sent = y.sent; got = f; events = z.events; stands = z.stands }) g) (fun_ext e')
    (record { split = k.split; served = k.served; free = k.free; opened = k.opened; sent = k.sent; lane = k.lane; gots = k.gots; later = k.later; down = k.down; up = k.up; rising = k.rising }))

-- whom a handler is through with has sent the end
pub past_gone : (sent : Ticket → List Parcel) (got : Ticket → List HeldState) (events : Ticket → List Event) (stands : Ticket → ObjectStance) (ts : List Ticket) (x z : HeldState) → PastOf sent got x ts z
    → AllByRecursion (λ t. ClientLane t false (sent t) (got t) (events t) (stands t)) ts → AllByRecursion (λ t. stands t ≡ gone) ts
past_gone sent got events stands [] x z p l = tt
past_gone sent got events stands (t ∷ ts) x z p l = ((match_over t x p.0 (sent t) (got t) p.1 (events t) (stands t) l.0 p.2 p.3).1, past_gone sent got events stands ts p.0 z p.4 l.1)

pub among_kept : (f : Ticket → Bool) (t : Ticket) (ts : List Ticket) → f t ≡ true → Among t ts → Among t (filter f ts)
among_kept f t [] e a = a
among_kept f t (u ∷ us) e (inl is) = rw (subst (λ u. f u ≡ true) is e) (inl is)
among_kept f t (u ∷ us) e (inr a) = search (rules, filter, among_kept f t us e a)

same_self_not : (t u : Ticket) → t ≡ u → same t u ≡ false → ⊥
same_self_not t u is n = true≢false (sym (same_self t) ∙ (ap (λ u. same t u) is ∙ n))

among_back : (t : Ticket) (xs ys : List Ticket) → AllByRecursion (λ u. same t u ≡ false) xs → Among t (xs ++ ys) → Among t ys
among_back t [] ys n a = a
among_back t (x ∷ xs) ys n (inl is) = absurd (same_self_not t x is n.0)
among_back t (x ∷ xs) ys n (inr a) = among_back t xs ys n.1 a

module _ (program : ProgramShape) (lined : (t : Ticket) → Lined (reserves program t) (objects_of_block program t)) (settings : Settings) (blocks : ℕ)
    (s : Core) (y : LaneHistory) (g : ℕ → HandlerLog) (k : CoreInvariant program s y g) where
  abbrev Mine : ℕ → List Ticket
  Mine h = filter (λ t. reserves program t h) s.order

  past_apart : (t : Ticket) (h : ℕ) → (y.stands t h ≡ gone → ⊥) → AllByRecursion (λ u. same t u ≡ false) (g h).past
  past_apart t h n =
      let tickets_ok = each_front (TicketOk program y) (g h).past (ahead (post s h)) (subst (AllByRecursion (TicketOk program y)) (k.objects h).split (each_kept (TicketOk program y) (λ t. reserves program t h) s.order k.tickets_ok)) in
      each_map (λ u (gone : y.stands u h ≡ gone). ⊎_elim (λ (is : t ≡ u). absurd (n (ap (λ u. y.stands u h) is ∙ gone))) (λ (other : same t u ≡ false). other) (ticket_cases t u)) (g h).past
      (past_gone (λ u. y.sent u h) (λ u. y.got u h) (λ u. part h (y.block_record u).trace) (λ u. y.stands u h) (g h).past (fresh_held program h) (g h).found (k.objects h).served
      (each_map (λ u (tickets_ok : TicketOk program y u). tickets_ok.lane h) (g h).past tickets_ok))

  -- the block that a client is in
  pub newest : (c n h : ℕ) → (s.client c).begun ≡ suc n → reserves program (ticket c n) h ≡ true → (y.stands (ticket c n) h ≡ gone → ⊥) → LastOf (ticket c n) (ahead (post s h))
  newest c n h b m stays =
      let t : Ticket = ticket c n in
      let all : Among t s.order = (let b' = k.counts c in legal_among program (λ _. 0) s.order c n k.legal (omega arith) (omega (arith, b, b'))) in
      let mine : Among t ((g h).past ++ ahead (post s h)) = subst (Among t) (k.objects h).split (among_kept (λ t. reserves program t h) t s.order m all) in
      last_of t (ahead (post s h)) (among_back t (g h).past (ahead (post s h)) (past_apart t h stays) mine) (k.objects h).rising
      (each_map {Q = λ (u : Ticket). c ≡ u.client → u.index < n ⊎ (ticket c n ≡ u)} (λ (u : Ticket) (lt : suc u.index ≤ (s.client u.client).begun) (e : c ≡ u.client).
      let lt' : suc u.index ≤ (s.client c).begun = subst (λ d. suc u.index ≤ (s.client d).begun) (sym e) lt in
      by_order u e (omega arith)) (ahead (post s h)) (of_ahead program s y g k (λ (u : Ticket). suc u.index ≤ (s.client u.client).begun) h k.below))
    where
      below_cases : (i j : ℕ) → i ≤ j → (i < j) ⊎ (i ≡ j)
      below_cases i j le = search (rules, num_cases, apart_eqb)

      by_order : (u : Ticket) → c ≡ u.client → u.index ≤ n → (u.index < n) ⊎ (ticket c n ≡ u)
      by_order u e le = ⊎_elim (λ (lt : u.index < n). inl lt) (λ (is : u.index ≡ n). inr (ticket_path e (sym is))) (below_cases u.index n le)

  module _ (c n : ℕ) (begun : (s.client c).begun ≡ suc n) (m : Client) (same_begun : m.begun ≡ (s.client c).begun) (events : List Event)
      (snt : ℕ → List Parcel) (got : ℕ → List HeldState) (pg : BlockRecord) (entry : pg.entry ≡ (y.block_record (ticket c n)).entry) (trace : pg.trace ≡ (y.block_record (ticket c n)).trace ++ events)
      (ok : PlaceOk program (ticket c n) snt got m pg m.stage) (out : (h : ℕ) → reserves program (ticket c n) h ≡ false → (snt h ≡ []) × (got h ≡ [])) where
    abbrev Y : LaneHistory
    Y = story program s y g k c n begun m same_begun events snt got pg entry trace ok out

    abbrev S : (ℕ → ℕ → List Parcel) → (ℕ → ℕ → Option HeldState) → (ℕ → ℕ → ℕ) → (ℕ → ℕ) → (Ticket → List SyncCount) → Core
    S = state_after program s y g k c n begun m same_begun events snt got pg entry trace ok out

    -- one object changes
    at_object : (down : ℕ → ℕ → List Parcel) (up : ℕ → ℕ → Option HeldState) (spare : ℕ → ℕ → ℕ) (syncs : ℕ → ℕ) (tallies : Ticket → List SyncCount) (h : ℕ) (b : ObjectView) (new : HandlerLog)
        → post (S down up spare syncs tallies) h ≡ b → ((j : ℕ) → (h == j) ≡ false → post (S down up spare syncs tallies) j ≡ post s j)
        → ((j : ℕ) → (h == j) ≡ false → (snt j ≡ y.sent (ticket c n) j) × (got j ≡ y.got (ticket c n) j))
        → IsObject (Mine h) (fresh_held program h) b (deeds Y h) new
        → CoreInvariant program (S down up spare syncs tallies) Y (put g h new)
    at_object down up spare syncs tallies h b new e others sides okh =
        client_moves program s y g k c n begun m same_begun events snt got pg entry trace ok out down up spare syncs tallies (put g h new)
        (λ j. ⊎_elim
        (λ (is : h ≡ j). subst (λ j. IsObject (Mine j) (fresh_held program j) (post (S down up spare syncs tallies) j) (deeds Y j) (put g h new j)) is
        (subst (λ (l : HandlerLog). IsObject (Mine h) (fresh_held program h) (post (S down up spare syncs tallies) h) (deeds Y h) l) (sym (put_here g h new))
        (subst (λ b. IsObject (Mine h) (fresh_held program h) b (deeds Y h) new) (sym e) okh)))
        (λ (other : (h == j) ≡ false).
        subst (λ (l : HandlerLog). IsObject (Mine j) (fresh_held program j) (post (S down up spare syncs tallies) j) (deeds Y j) l) (sym (put_there g h new j other))
        (subst (λ b. IsObject (Mine j) (fresh_held program j) b (deeds Y j) (g j)) (sym (others j other))
        (object_deeds (Mine j) (fresh_held program j) (post s j) (deeds y j) (deeds Y j) (g j)
        (λ u. sym (grown_there y.sent (ticket c n) snt j (sides j other).0 u)) (λ u. sym (grown_there y.got (ticket c n) got j (sides j other).1 u)) (k.objects j))))
        (num_cases h j))

    -- none changes
    at_none : (spare : ℕ → ℕ → ℕ) (syncs : ℕ → ℕ) (tallies : Ticket → List SyncCount) → ((j : ℕ) → (snt j ≡ y.sent (ticket c n) j) × (got j ≡ y.got (ticket c n) j))
        → CoreInvariant program (S s.down s.up spare syncs tallies) Y g
    at_none spare syncs tallies sides =
        client_moves program s y g k c n begun m same_begun events snt got pg entry trace ok out s.down s.up spare syncs tallies g
        (λ j. object_deeds (Mine j) (fresh_held program j) (post s j) (deeds y j) (deeds Y j) (g j)
        (λ u. sym (grown_there y.sent (ticket c n) snt j (sides j).0 u)) (λ u. sym (grown_there y.got (ticket c n) got j (sides j).1 u)) (k.objects j))

  -- the core after what a client did
  abbrev pub after : ℕ → Ticket → Settlement → (ℕ → ℕ → List Parcel) → (ℕ → ℕ → Option HeldState) → (ℕ → ℕ → ℕ) → (ℕ → ℕ) → (Ticket → List SyncCount) → Core
  after c t r down up spare syncs tallies = record s { client = put s.client c r.client; trace = put_at s.trace t (s.trace t ++ r.events); down = down; up = up; spare = spare; syncs = syncs; sync_counts = tallies }

  abbrev pub Keeps : Core → Type 0
  Keeps s' = (y' : LaneHistory) × (g' : ℕ → HandlerLog) × CoreInvariant program s' y' g'

  pub send_kept : (c n h : ℕ) (p : Parcel) (syncs : ℕ → ℕ) (tallies : Ticket → List SyncCount) → (s.client c).begun ≡ suc n → act_of settings blocks (s.client c) ≡ Send h p
      → Keeps (after c (ticket c n) (after_parcel settings (ticket c n) (objects_of_block program (ticket c n)) (s.client c) h p) (put_lane s.down c h (s.down c h ++ p ∷ [])) s.up s.spare syncs tallies)
  send_kept c n h p syncs tallies begun act =
      let t : Ticket = ticket c n in
      let m : Client = s.client c in
      let r : Settlement = after_parcel settings t (objects_of_block program t) m h p in
      let ok = k.places c n begun in
      let at = send_at program t (y.sent t) (y.got t) settings blocks m (y.block_record t) m.stage ok h p act in
      let here = λ (e : y.stands t h ≡ gone). at.1 (sym (k.stands c n begun h) ∙ e) in
      let ends = sends_ok program t (y.sent t) (y.got t) settings (lined t) blocks m (y.block_record t) h p ok act in
      let snt = put (y.sent t) h (y.sent t h ++ p ∷ []) in
      let new : HandlerLog = record (g h) { way = put_at (g h).way t ((g h).way t ++ p ∷ []) } in
      let out : (j : ℕ) → reserves program t j ≡ false → (put (y.sent t) h (y.sent t h ++ p ∷ []) j ≡ []) × (y.got t j ≡ []) = λ j no. (
        ⊎_elim
            (λ (is : h ≡ j). absurd (true≢false (sym at.0 ∙ subst (λ j. reserves program t j ≡ false) (sym is) no)))
            (λ (other : (h == j) ≡ false). put_there (y.sent t) h (y.sent t h ++ p ∷ []) j other ∙ (k.outside t j no).0)
            (num_cases h j),
        (k.outside t j no).1,
      ) in (
        story program s y g k c n begun r.client (sent_begun settings t (objects_of_block program t) m h p) r.events snt (y.got t) ends.0 ends.1 ends.2 ends.3 out,
        put g h new,
        at_object c n begun r.client (sent_begun settings t (objects_of_block program t) m h p) r.events snt (y.got t) ends.0 ends.1 ends.2 ends.3 out
            (put_lane s.down c h (s.down c h ++ p ∷ [])) s.up s.spare syncs tallies h (record (post s h) { down = put (λ c. s.down c h) c (s.down c h ++ p ∷ []) }) new
            (post_path _ _ refl refl (fun_ext (put_lane_at s.down c h (s.down c h ++ p ∷ []))) refl)
            (λ j other. post_path _ _ refl refl (fun_ext (λ d. put_lane_there s.down c h (s.down c h ++ p ∷ []) d j other)) refl)
            (λ j other. (put_there (y.sent t) h (y.sent t h ++ p ∷ []) j other, refl))
            (object_deeds (Mine h) (fresh_held program h) (record (post s h) { down = put (λ c. s.down c h) c (s.down c h ++ p ∷ []) })
            (record (deeds y h) { sent = put_at (λ u. y.sent u h) t (y.sent t h ++ p ∷ []) })
            (deeds (story program s y g k c n begun r.client (sent_begun settings t (objects_of_block program t) m h p) r.events snt (y.got t) ends.0 ends.1 ends.2 ends.3 out) h) new
            (λ u. sym (grown_here y.sent t h (y.sent t h ++ p ∷ []) u)) (λ u. sym (grown_there y.got t (y.got t) h refl u))
            (send_ok (Mine h) (fresh_held program h) (post s h) (deeds y h) (g h) t p (newest c n h begun at.0 here) (past_apart t h here) (k.objects h))),
      )

  pub get_kept : (c n h : ℕ) (x : HeldState) → (s.client c).begun ≡ suc n → act_of settings blocks (s.client c) ≡ Await h → s.up c h ≡ Some x
      → Keeps (after c (ticket c n) (clients.take_object settings (ticket c n) (objects_of_block program (ticket c n)) (s.client c) x (s.client c).stage) s.down (put_lane s.up c h None) s.spare s.syncs s.sync_counts)
  get_kept c n h x begun act up =
      let t : Ticket = ticket c n in
      let m : Client = s.client c in
      let r : Settlement = clients.take_object settings t (objects_of_block program t) m x m.stage in
      let ok = k.places c n begun in
      let at = await_at program t (y.sent t) (y.got t) settings blocks m (y.block_record t) m.stage ok h act in
      let here = λ (e : y.stands t h ≡ gone). asks_gone (sym at.1 ∙ (sym (k.stands c n begun h) ∙ e)) in
      let ends = gets_ok program t (y.sent t) (y.got t) settings (lined t) blocks m (y.block_record t) h x ok act in
      let got = put (y.got t) h (y.got t h ++ x ∷ []) in
      let out : (j : ℕ) → reserves program t j ≡ false → (y.sent t j ≡ []) × (put (y.got t) h (y.got t h ++ x ∷ []) j ≡ []) = λ j no. (
        (k.outside t j no).0,
        ⊎_elim
            (λ (is : h ≡ j). absurd (true≢false (sym at.0 ∙ subst (λ j. reserves program t j ≡ false) (sym is) no)))
            (λ (other : (h == j) ≡ false). put_there (y.got t) h (y.got t h ++ x ∷ []) j other ∙ (k.outside t j no).1)
            (num_cases h j),
      ) in
      let one = up_serving (Mine h) (fresh_held program h) (post s h) (deeds y h) (g h) t x [] (k.objects h) (ap as_list up) (λ u one_u at_c. older u begun one_u at_c) (deeds_ok program s y g k h).lane in (
        story program s y g k c n begun r.client (got_begun settings t (objects_of_block program t) m h x m.stage) r.events (y.sent t) got ends.0 ends.1 ends.2 ends.3 out,
        put g h (g h),
        at_object c n begun r.client (got_begun settings t (objects_of_block program t) m h x m.stage) r.events (y.sent t) got ends.0 ends.1 ends.2 ends.3 out
            s.down (put_lane s.up c h None) s.spare s.syncs s.sync_counts h (record (post s h) { up = put (λ c. as_list (s.up c h)) c [] }) (g h)
            (post_path _ _ refl refl refl (fun_ext (put_up_at s.up c h None)))
            (λ j other. post_path _ _ refl refl refl (fun_ext (λ d. put_up_there s.up c h None d j other)))
            (λ j other. (refl, put_there (y.got t) h (y.got t h ++ x ∷ []) j other))
            (object_deeds (Mine h) (fresh_held program h) (record (post s h) { up = put (λ c. as_list (s.up c h)) c [] })
            (record (deeds y h) { got = put_at (λ u. y.got u h) t (y.got t h ++ x ∷ []) })
            (deeds (story program s y g k c n begun r.client (got_begun settings t (objects_of_block program t) m h x m.stage) r.events (y.sent t) got ends.0 ends.1 ends.2 ends.3 out) h) (g h)
            (λ u. sym (grown_there y.sent t (y.sent t) h refl u)) (λ u. sym (grown_here y.got t h (y.got t h ++ x ∷ []) u))
            (got_ok (Mine h) (fresh_held program h) (post s h) (deeds y h) (g h) t x [] one (ap as_list up) (past_apart t h here) (k.objects h))),
      )
    where
      asks_gone : asks ≡ gone → ⊥
      asks_gone e = cc

      older : (u : Ticket) → (s.client c).begun ≡ suc n → serving (s.handler h) ≡ u ∷ [] → u.client ≡ c → (u ≡ ticket c n) ⊎ (y.stands u h ≡ gone)
      older u begun one at =
          let here : ahead (post s h) ≡ u ∷ s.tickets h = ap (λ q. q ++ s.tickets h) one in
          let m : reserves program u h ≡ true = (subst (AllByRecursion (λ u. reserves program u h ≡ true)) here (may_ahead program s y g k h)).0 in
          let b : suc u.index ≤ (s.client u.client).begun = (subst (AllByRecursion (λ (u : Ticket). suc u.index ≤ (s.client u.client).begun)) here (of_ahead program s y g k (λ (u : Ticket). suc u.index ≤ (s.client u.client).begun) h k.below)).0 in
          let b' : suc u.index ≤ (s.client c).begun = subst (λ d. suc u.index ≤ (s.client d).begun) at b in
          ⊎_elim
          (λ (is : u.index ≡ n). inl (ticket_path at is))
          (λ (other : (u.index == n) ≡ false).
          let ne : u.index ≢ n = apart_eqb u.index n other in
          let lt : suc u.index < (s.client u.client).begun = subst (λ d. suc u.index < (s.client d).begun) (sym at) (omega (arith, ne, b', begun)) in
          inr (k.older u.client u.index lt h m))
          (num_cases u.index n)

  pub chunk_kept : (c n h : ℕ) (spare : ℕ → ℕ → ℕ) → (s.client c).begun ≡ suc n → act_of settings blocks (s.client c) ≡ NeedChunk h
      → Keeps (after c (ticket c n) (take_chunk settings (ticket c n) (objects_of_block program (ticket c n)) (s.client c) h (s.client c).stage) s.down s.up spare s.syncs s.sync_counts)
  chunk_kept c n h spare begun act =
      let t : Ticket = ticket c n in
      let m : Client = s.client c in
      let r : Settlement = take_chunk settings t (objects_of_block program t) m h m.stage in
      let ok = k.places c n begun in
      let ends = chunks_ok program t (y.sent t) (y.got t) settings (lined t) blocks m (y.block_record t) h ok act in
      let out = λ (j : ℕ) (no : reserves program t j ≡ false). k.outside t j no in (
        story program s y g k c n begun r.client (chunk_begun settings t (objects_of_block program t) m h m.stage) r.events (y.sent t) (y.got t) ends.0 ends.1 ends.2 ends.3 out,
        g,
        at_none c n begun r.client (chunk_begun settings t (objects_of_block program t) m h m.stage) r.events (y.sent t) (y.got t) ends.0 ends.1 ends.2 ends.3 out spare s.syncs s.sync_counts (λ j. (refl, refl)),
      )
