-- The commands that are on their way to an object for a ticket are those of the ticket's own parcels in the lane, and
-- then those in its client's open chunk. The proof that journals follow the order of reservations needs this for each
-- ticket. A lane's parcels are cut into the tickets that the handler has still to serve, by induction on its queue; a
-- ticket that was served has none left.
use Rattle.std.proofs.Common.{◌≡◌, ◌<◌, ◌≤◌, ℕ, suc, Bool, true, false, true≢false, if◌then◌else◌, ◌==◌, List, [], ◌∷◌, ◌++◌, map, filter, refl, sym, ap, ap₂, ◌∙◌, subst, ◌⊎◌, inl, inr, ⊎_elim, append-nil, Option, None, rules, arith}
use Rattle.qs_played.proofs.Names.{AllByRecursion, HeldState, command_event, part, same, Event, Ticket, Request, apart_eqb, eqb_self, eqb_true, num_cases, not_same, reserves, block_tree, ProgramShape, IsSound, each_map, each_both, each_join, each_front, each_back, each_kept, each_passes, Among, Apart, parts_of, legal_apart, blocks_ask_only, unnamed, fresh_held}
use Rattle.qs_core_laws.proofs.Names.{ObjectStance, sends, asks, gone, ClientLane, HandlerLane, Parcel, commands_in, lane_of, Handler, free, closed, serving, Client, ClientStage, each_among, apart_kept, apart_both, Core, in_chunk, on_way, or_none}
use Rattle.qs_chunk.specs.LaneViews as views
use Rattle.qs_core_laws.proofs.protocol.ClientInvariants.{in_hand, PlaceOk, standing_at}
use Rattle.qs_core_laws.proofs.protocol.ObjectViews.{stance, Rising, HandlerLog, ahead}
use Rattle.qs_core_laws.proofs.protocol.LaneParts.{IsEnded, AreCut, ended_back, gone_ended, lane_of_other, lane_of_own}
use Rattle.qs_core_laws.proofs.protocol.LaneWays.{gone_over}
use Rattle.qs_core_laws.proofs.protocol.LaneWholes.{IsCut, chunk_of, cut_back, sent_cut}
use Rattle.qs_core_laws.proofs.CoreInvariant.{LaneHistory, post, TicketOk, CoreInvariant}
use Rattle.qs_core_laws.proofs.HandlerSteps.{deeds_ok, may_ahead}
use Rattle.qs_core_laws.proofs.SendingPreserved.{among_kept, past_gone}

-- the open chunk, by the place

hand_chunk : (o : Option HeldState) (c : Option (List Request)) → (o ≡ None) ⊎ (c ≡ None) → chunk_of (in_hand o c) ≡ or_none c
hand_chunk o c n = search rules

awaits_chunk : (b : Bool) (o : Option HeldState) (c : Option (List Request)) → (b ≡ true → c ≡ None) → (o ≡ None) ⊎ (c ≡ None) → chunk_of (if b then asks else in_hand o c) ≡ or_none c
awaits_chunk v o c e n = search (rules, hand_chunk)

gone_chunk : (b : Bool) → chunk_of (if b then gone else sends []) ≡ []
gone_chunk v = search rules

leaves_chunk : (a b : Bool) (o : Option HeldState) (c : Option (List Request)) → (a ≡ false → c ≡ None) → (o ≡ None) ⊎ (c ≡ None)
    → chunk_of (if a then in_hand o c else (if b then gone else sends [])) ≡ or_none c
leaves_chunk v b o c e n = search (rules, hand_chunk, gone_chunk)

open_chunk : (program : ProgramShape) (t : Ticket) (snt : ℕ → List Parcel) (got : ℕ → List HeldState) (m : Client) (pg : _) (pl : ClientStage) → PlaceOk program t snt got m pg pl
    → (h : ℕ) → chunk_of (standing_at program t m pl h) ≡ or_none (m.chunk h)
open_chunk program t snt got m pg pl k h = search (rules, leaves_chunk, hand_chunk, awaits_chunk, eqb_true)

-- a handler serves one ticket or none
pub serving_shape : (v : Handler) → (serving v ≡ []) ⊎ ((u : Ticket) × (serving v ≡ u ∷ []))
serving_shape v = search rules

stance_not_over : (v : Handler) (lent z : HeldState) (t : Ticket) → serving v ≡ t ∷ [] → stance v lent ≡ views.over z → ⊥
stance_not_over v lent z t one e = search rules

first_of : (c : ℕ) (us : List Ticket) → (filter (λ (u : Ticket). u.client == c) us ≡ [] → ⊥) → (v : Ticket) × Among v us × ((v.client == c) ≡ true)
first_of c [] some = absurd (some refl)
first_of c (u ∷ us) some = search (rules, filter, first_of c us)

module _ (program : ProgramShape) (sound : IsSound program) (s : Core) (y : LaneHistory) (g : ℕ → HandlerLog) (k : CoreInvariant program s y g) (h : ℕ) where
  abbrev pub way : Ticket → List Parcel
  way = (g h).way

  -- of a ticket that reserves the object
  abbrev pub IsMine : Ticket → Type 0
  IsMine t = (reserves program t h ≡ true) × (suc t.index ≤ (s.client t.client).begun) × TicketOk program y t

  pub mine : AllByRecursion IsMine (filter (λ t. reserves program t h) s.order)
  mine =
      each_both (λ t a (b : (suc t.index ≤ (s.client t.client).begun) × TicketOk program y t). (a, b.0, b.1))
      (filter (λ t. reserves program t h) s.order) (each_passes (λ t. reserves program t h) s.order)
      (each_kept (λ (t : Ticket). (suc t.index ≤ (s.client t.client).begun) × TicketOk program y t) (λ t. reserves program t h) s.order (each_both (λ t a b. (a, b)) s.order k.below k.tickets_ok))

  pub mine_past : AllByRecursion IsMine (g h).past
  mine_past = each_front IsMine (g h).past (ahead (post s h)) (subst (AllByRecursion IsMine) (k.objects h).split mine)

  pub mine_ahead : AllByRecursion IsMine (ahead (post s h))
  mine_ahead = each_back IsMine (g h).past (ahead (post s h)) (subst (AllByRecursion IsMine) (k.objects h).split mine)

  -- those that were served are none of those that are to be
  past_apart : AllByRecursion (λ t. AllByRecursion (λ u. same t u ≡ false) (ahead (post s h))) (g h).past
  past_apart = apart_both (g h).past (ahead (post s h)) (subst Apart (k.objects h).split (apart_kept (λ t. reserves program t h) s.order (legal_apart program (λ _. 0) s.order k.legal)))

  -- who was served has left
  pub past_left : AllByRecursion (λ t. y.stands t h ≡ gone) (g h).past
  past_left =
      past_gone (λ u. y.sent u h) (λ u. y.got u h) (λ u. part h (y.block_record u).trace) (λ u. y.stands u h) (g h).past (fresh_held program h) (g h).found (k.objects h).served
      (each_map (λ u (m : IsMine u). m.2.lane h) (g h).past mine_past)

  chunk_last : (t : Ticket) → (s.client t.client).begun ≡ suc t.index → chunk_of (y.stands t h) ≡ in_chunk (s.client t.client) t.index h
  chunk_last t is =
      ap chunk_of (k.stands t.client t.index is h)
      ∙ (open_chunk program t (y.sent t) (y.got t) (s.client t.client) (y.block_record t) (s.client t.client).stage (k.places t.client t.index is) h
      ∙ ap (λ b. if b then or_none ((s.client t.client).chunk h) else []) (sym (eqb_self (suc t.index)) ∙ ap (λ n. n == suc t.index) (sym is)))

  chunk_none : (t : Ticket) → ((s.client t.client).begun == suc t.index) ≡ false → in_chunk (s.client t.client) t.index h ≡ []
  chunk_none t other = ap (λ b. if b then or_none ((s.client t.client).chunk h) else []) other

  chunk_is : (t : Ticket) → IsMine t → chunk_of (y.stands t h) ≡ in_chunk (s.client t.client) t.index h
  chunk_is t m = search (rules, chunk_last, apart_eqb, chunk_of, chunk_none, num_cases)

  -- what an object's part of a block record is where the block doesn't reserve it
  pub part_out : (t : Ticket) → TicketOk program y t → reserves program t h ≡ false → parts_of y.block_record h t ≡ []
  part_out t tickets_ok out = unnamed (reserves program t) (block_tree program t (y.block_record t).entry) (y.block_record t).trace (y.block_record t).rest h (blocks_ask_only program sound t (y.block_record t).entry) tickets_ok.block_record.path out

  empty_chunk : (t : Ticket) (events : List Event) (c : ObjectStance) → ClientLane t false [] [] events c → events ≡ [] → chunk_of c ≡ []
  empty_chunk t events c lane none = ap chunk_of lane.1 ∙ no_events lane.0 (sym lane.3 ∙ none)
    where
      no_events : (rs : List Request) → map command_event rs ≡ [] → rs ≡ []
      no_events [] e = refl
      no_events (r ∷ rs) e = absurd (cc)

  chunk_out : (t : Ticket) → TicketOk program y t → reserves program t h ≡ false → in_chunk (s.client t.client) t.index h ≡ []
  chunk_out t tickets_ok out =
      let o = k.outside t h out in
      let none : chunk_of (y.stands t h) ≡ [] =
      empty_chunk t (part h (y.block_record t).trace) (y.stands t h)
      (subst (λ ps. ClientLane t false ps [] (part h (y.block_record t).trace) (y.stands t h)) o.0 (subst (λ gs. ClientLane t false (y.sent t h) gs (part h (y.block_record t).trace) (y.stands t h)) o.1 (tickets_ok.lane h)))
      (part_out t tickets_ok out) in
      ⊎_elim
      (λ (is : (s.client t.client).begun ≡ suc t.index). sym (chunk_last t is) ∙ none)
      (λ (other : ((s.client t.client).begun == suc t.index) ≡ false). chunk_none t other)
      (num_cases (s.client t.client).begun (suc t.index))

  -- what lies in a lane, ticket by ticket

  abbrev IsCutTo : Ticket → Type 0
  IsCutTo u = IsCut (way u) × (y.stands u h ≡ gone → IsEnded (way u))

  cut_serving : (t : Ticket) → serving (s.handler h) ≡ t ∷ [] → IsCutTo t
  cut_serving t one =
      let o = k.objects h in
      let here : ahead (post s h) ≡ t ∷ s.tickets h = ap (λ q. q ++ s.tickets h) one in
      let m = (subst (AllByRecursion IsMine) here mine_ahead).0 in
      let sent = (subst (AllByRecursion (λ t. y.sent t h ≡ (g h).received t ++ way t)) here o.sent).0 in
      let lane = (subst (AllByRecursion (λ t. HandlerLane t false (g h).found ((g h).received t) ((g h).gave t) (stance (s.handler h) (g h).lent))) one o.lane).0 in (
        cut_back ((g h).received t) (way t) (subst IsCut sent (sent_cut t false (y.sent t h) (y.got t h) (part h (y.block_record t).trace) (y.stands t h) (m.2.lane h))),
        λ left.
            let client : ClientLane t false (y.sent t h) (y.got t h) (part h (y.block_record t).trace) gone = subst (ClientLane t false (y.sent t h) (y.got t h) (part h (y.block_record t).trace)) left (m.2.lane h) in
            ended_back ((g h).received t) (way t) (subst IsEnded sent (gone_ended t false (y.sent t h) (y.got t h) (part h (y.block_record t).trace) client))
            (λ none.
            let all : y.sent t h ≡ (g h).received t = sent ∙ (ap (λ w. (g h).received t ++ w) none ∙ append-nil ((g h).received t)) in
            let over = gone_over t (g h).found ((g h).received t) (y.got t h) ((g h).gave t) (part h (y.block_record t).trace) (stance (s.handler h) (g h).lent)
            (subst (λ ps. ClientLane t false ps (y.got t h) (part h (y.block_record t).trace) gone) all client) lane in
            stance_not_over (s.handler h) (g h).lent over.0 t one over.1),
      )

  -- of a ticket that the handler has not begun, nothing was got, and all that was sent is on its way
  abbrev pub IsLater : Ticket → Type 0
  IsLater u = IsMine u × (y.got u h ≡ []) × (y.sent u h ≡ way u)

  pub later : AllByRecursion IsLater (s.tickets h)
  later =
      each_both (λ u (a : IsMine u × (y.sent u h ≡ (g h).received u ++ way u)) (b : (y.got u h ≡ []) × ((g h).received u ≡ [])). (a.0, b.0, a.1 ∙ ap (λ r. r ++ way u) b.1)) (s.tickets h)
      (each_both (λ u a b. (a, b)) (s.tickets h) (each_back IsMine (serving (s.handler h)) (s.tickets h) mine_ahead)
      (each_back (λ t. y.sent t h ≡ (g h).received t ++ way t) (serving (s.handler h)) (s.tickets h) (k.objects h).sent))
      (k.objects h).later

  cut_later : (u : Ticket) → IsLater u → IsCutTo u
  cut_later u l = (
    subst IsCut l.2 (sent_cut u false (y.sent u h) (y.got u h) (part h (y.block_record u).trace) (y.stands u h) (l.0.2.lane h)),
    λ left.
        subst IsEnded l.2
        (gone_ended u false (y.sent u h) (y.got u h) (part h (y.block_record u).trace) (subst (ClientLane u false (y.sent u h) (y.got u h) (part h (y.block_record u).trace)) left (l.0.2.lane h))),
  )

  cut_ahead : AllByRecursion IsCutTo (ahead (post s h))
  cut_ahead = each_join IsCutTo (serving (s.handler h)) (s.tickets h)
      (⊎_elim
      (λ (none : serving (s.handler h) ≡ []). subst (AllByRecursion IsCutTo) (sym none) tt)
      (λ (one : (u : Ticket) × (serving (s.handler h) ≡ u ∷ [])). subst (AllByRecursion IsCutTo) (sym one.1) (cut_serving one.0 one.1, tt))
      (serving_shape (s.handler h)))
      (each_map cut_later (s.tickets h) later)

  cut_list : (c : ℕ) (q : List Ticket) → Rising q → AllByRecursion IsCutTo q
      → ((u v : Ticket) → Among u q → Among v q → u.client ≡ v.client → u.index < v.index → y.stands u h ≡ gone) → AreCut way (filter (λ (u : Ticket). u.client == c) q)
  cut_list c [] rising cut older = tt
  cut_list c (u ∷ us) rising cut older = by_case (u.client == c) refl (cut_list c us rising.1 cut.1 (λ a b i j. older a b (inr i) (inr j)))
    where
      by_case : (b : Bool) → (u.client == c) ≡ b → AreCut way (filter (λ (u : Ticket). u.client == c) us)
          → AreCut way (if b then u ∷ filter (λ (u : Ticket). u.client == c) us else filter (λ (u : Ticket). u.client == c) us)
      by_case false e ih = ih
      by_case true e ih = (
        cut.0.0,
        (λ some.
            let v = first_of c us some in
            let client : u.client ≡ (v.0).client = eqb_true u.client c e ∙ sym (eqb_true (v.0).client c v.2) in
            cut.0.1 (older u v.0 (inl refl) (inr v.1) client (each_among (λ (v : Ticket). u.client ≡ v.client → u.index < v.index) v.0 us rising.0 v.1 client))),
        ih,
      )

  abbrev mates : Ticket → List Ticket
  mates t = filter (λ (u : Ticket). u.client == t.client) (ahead (post s h))

  lane_own : (t : Ticket) → Among t (ahead (post s h)) → lane_of t (mates t) (s.down t.client h) ≡ way t
  lane_own t a =
      ap (lane_of t (mates t)) ((k.objects h).down t.client)
      ∙ lane_of_own t way (mates t)
      (cut_list t.client (ahead (post s h)) (k.objects h).rising cut_ahead (deeds_ok program s y g k h).older)
      (among_kept (λ (u : Ticket). u.client == t.client) t (ahead (post s h)) (eqb_self t.client) a)

  lane_other : (t : Ticket) → AllByRecursion (λ u. same t u ≡ false) (ahead (post s h)) → lane_of t (mates t) (s.down t.client h) ≡ []
  lane_other t other = lane_of_other t (mates t) (s.down t.client h) (each_kept (λ u. same t u ≡ false) (λ (u : Ticket). u.client == t.client) (ahead (post s h)) other)

  -- of a ticket that is to be served, or is: what lies in the lane, and then what is in the open chunk
  pub waits_ahead : (t : Ticket) → Among t (ahead (post s h)) → IsMine t → on_way s h t ≡ commands_in (way t) ++ chunk_of (y.stands t h)
  waits_ahead t a m = ap₂ (λ ps rs. commands_in ps ++ rs) (lane_own t a) (sym (chunk_is t m))

  -- of one that was served
  pub waits_past : AllByRecursion (λ t. on_way s h t ≡ []) (g h).past
  waits_past =
      each_both {P = λ t. IsMine t × (y.stands t h ≡ gone)} (λ t a other. ap₂ (λ ps rs. commands_in ps ++ rs) (lane_other t other) (sym (chunk_is t a.0) ∙ ap chunk_of a.1)) (g h).past
      (each_both (λ t a b. (a, b)) (g h).past mine_past past_left) past_apart

  -- of one that doesn't reserve the object
  pub waits_out : (t : Ticket) → TicketOk program y t → reserves program t h ≡ false → on_way s h t ≡ []
  waits_out t tickets_ok out = ap₂ (λ ps rs. commands_in ps ++ rs)
      (lane_other t (each_map (λ u (m : reserves program u h ≡ true). not_same t u (λ is. true≢false (sym m ∙ (ap (λ t. reserves program t h) (sym is) ∙ out)))) (ahead (post s h)) (may_ahead program s y g k h)))
      (chunk_out t tickets_ok out)
