-- A run of the optimised machine is never stuck. The tickets of the order are gone through from the first on, as long
-- as each was served at all of its handlers. The first that is left at some handler is the first there. If that handler
-- has a step, all is well. If it has none, it waits for a parcel, and the lane from the ticket's client is empty; so
-- the client has not sent its end, and is in this block. Whatever it does next there is at a handler where it has not
-- sent its end either, so the ticket is first there too: that handler has a step, or the lane to it is empty, and then
-- the client has one. With no ticket left nothing lies anywhere, so a client with a block left has a step.
use Rattle.std.proofs.Common.{◌≡◌, ◌<◌, ◌≤◌, ◌∙◌, ◌==◌, ◌⊎◌, ◌+◌, append-nil, inl, inr, ⊎_elim, ℕ, zero, suc, Bool, true, false, if◌then◌else◌, nat_lt, nat_eq, List, [], ◌∷◌, ◌++◌, Option, Some, None, IsSome, IsTrue, filter, flat_map, length, refl, sym, ap, subst, arith, rules}
use Rattle.qs_played.proofs.Names.{lt-ltb, AllByRecursion, range_with_len, HeldState, part, Ticket, apart_eqb, eqb_self, num_cases, ProgramShape, blocks_of, IsSound, Locals, reserves, Among, ticket}
use Rattle.qs_objects.specs.declared.held.Next.TheVariants as nexts
use Rattle.qs_core_laws.proofs.Names.{Mode, ClientCode, AreCodes, blocks_in, asks, gone, ClientLane, HandlerLane, may_stand, lane_room, spare_room, Parcel, Handler, free, serves, spares, gives, away, closed, accept_next, accept_parcel, is_free, is_away, serving, Client, ClientStage, Settings, between, awaits, leaves, act_at, act_of, Act, Reserve, Send, Await, NeedChunk, Finished, each_among, legal_among, reserved_inside, Core, after_handler, client_step, core_begin, handler_step, settings_of, takes_chunk, takes_parcel, takes_ticket, with_down, with_tickets, all_of, core_plays, is_done, is_finished, is_idle, before_it}
use Rattle.qs_chunk.specs.LaneViews as views
use Rattle.qs_chunk.specs.declared.parcel.Parcel.TheVariants as parcels
use Rattle.qs_handler.specs.audit.Handler as handlers
use Rattle.qs_handler.specs.declared.mind.Act.TheVariants as acts
use Rattle.qs_played.specs.declared.schedule.actor.Actor.TheVariants as actor
use Rattle.qs_plain_laws.proofs.progress.FirstLeft.{IsFirstLeft, all_over, goes_or_none}
use Rattle.qs_core_laws.proofs.protocol.ActKinds.{clears_not_need, in_hand_gone, outside_not_need}
use Rattle.qs_core_laws.proofs.protocol.ActObjects.{await_at, between_acts, need_at, reserve_at, send_at}
use Rattle.qs_core_laws.proofs.protocol.ClientInvariants.{PlaceOk, standing_at}
use Rattle.qs_core_laws.proofs.protocol.FullChunks.{finished_at}
use Rattle.qs_core_laws.proofs.protocol.LaneWays.{gone_over}
use Rattle.qs_core_laws.proofs.protocol.ObjectViews.{HandlerLog, as_list, ahead, stance}
use Rattle.qs_core_laws.specs.CoreReached.{CoreStands, ReachedCore}
use Rattle.qs_core_laws.specs.audit.Core as core
use Rattle.qs_core_laws.proofs.CommandsInTransit.{past_left}
use Rattle.qs_core_laws.proofs.CoreBounds.{run_both}
use Rattle.qs_core_laws.proofs.protocol.ProgramTrees.{blocks_are}
use Rattle.qs_core_laws.proofs.CoreInvariant.{CoreInvariant, LaneHistory, post}
use Rattle.qs_core_laws.proofs.CoreObjects.{Where, lent_where, list_none, list_some}
use Rattle.qs_core_laws.proofs.CoreReached.{reached_keeps}
use Rattle.qs_core_laws.proofs.HandlerSteps.{deeds_ok}
use Rattle.qs_core_laws.specs.progress.CoreProgress.{CanGoOn, CoreNeverStuck}
use Rattle.qs_core_laws.proofs.progress.Chunks.{FourChunks, chunks_in, needs_none, opened, run_four, to_give_back}
use Rattle.qs_core_laws.proofs.progress.FullStages.{AllFull, run_full}
use Rattle.qs_core_laws.proofs.progress.LaneEnds.{asks_not_served, gives_up}

front_none : {X : Type 0} (xs ys : List X) → xs ++ ys ≡ [] → xs ≡ []
front_none [] ys e = refl
front_none (x ∷ xs) ys e = absurd (cc)

-- all numbers of a range pass, or there is something else
all_or : (is : ℕ → Bool) (H : Type 0) (a n : ℕ) → ((i : ℕ) → a ≤ i → i < a + n → (is i ≡ true) ⊎ H)
    → (all_of is (range_with_len a n) ≡ true) ⊎ H
all_or is H a zero each = inl refl
all_or is H a (suc n) each =
    elim (each a (omega arith) (omega arith)) [
      | inl first ↦
          elim (all_or is H (a + 1) n (λ i low high. each i (omega (arith, low)) (omega (arith, high)))) [
            | inl rest ↦ inl (rw (first, rest) refl)
            | inr some ↦ inr some
          ]
      | inr some ↦ inr some
    ]

all_pass : (is : ℕ → Bool) (ns : List ℕ) → ((n : ℕ) → is n ≡ true) → all_of is ns ≡ true
all_pass is [] each = refl
all_pass is (n ∷ ns) each = rw (each n) (all_pass is ns each)

serves_takes : (t : Ticket) (x : HeldState) (p : Parcel) → IsTrue (may_stand false p)
    → IsSome (accept_parcel (serves t x) p)
serves_takes t x v stands = search rules

away_takes : (t : Ticket) (p : Parcel) → IsTrue (may_stand true p) → IsSome (accept_parcel (away t) p)
away_takes t v stands = search rules

-- a handler that waits for a parcel of the ticket that it serves
abbrev WaitsFor : Ticket → Handler → Type 0
WaitsFor t v = ((x : HeldState) × (v ≡ serves t x)) ⊎ (v ≡ away t)

waits_serves : (t : Ticket) (v : Handler) → WaitsFor t v → serving v ≡ t ∷ []
waits_serves t v u = search rules

waits_not_over : (t : Ticket) (v : Handler) (lent z : HeldState) → WaitsFor t v → stance v lent ≡ views.over z → ⊥
waits_not_over t v lent z u e = search (rules, views.serves, views.over, stance, views.lent)

waits_gives_none : (t : Ticket) (v : Handler) (c : ℕ) → WaitsFor t v → to_give_back v c ≡ 0
waits_gives_none t v c u = search rules

-- who needs a chunk has not left
need_stays : (p : ProgramShape) (t : Ticket) (settings : Settings) (n : ℕ) (m : Client) (pl : ClientStage) (h : ℕ)
    → act_at settings n m pl ≡ NeedChunk h → standing_at p t m pl h ≡ gone → ⊥
need_stays p t settings n m v h e left = search (rules, outside_not_need, clears_not_need, in_hand_gone)

module _ (p : ProgramShape) (sound : IsSound p) (mode : Mode) (code : ℕ → ClientCode) (codes : AreCodes p mode code) (size : ℕ)
    (s : Core) (y : LaneHistory) (g : ℕ → HandlerLog) (k : CoreInvariant p s y g) (st : CoreStands p code size s) (four : FourChunks s) (fulls : AllFull s.client) where
  abbrev Goes : Type 0
  Goes = CanGoOn p code size s

  abbrev asks_for : ℕ → Act
  asks_for c = act_of (settings_of code size c) (blocks_in code c) (s.client c)

  inside : (t : Ticket) (h : ℕ) → reserves p t h ≡ true → h < length p.objects
  inside t h e = reserved_inside p sound t h e

  handler_goes : (t : Ticket) (h : ℕ) → reserves p t h ≡ true
      → IsSome (handler_step code size s h (handlers.act_of (s.handler h))) → Goes
  handler_goes t h e some = (actor.Handler h, lt-ltb h (length p.objects) (inside t h e), some)

  client_goes : (c : ℕ) (act : Act) → c < length p.clients → asks_for c ≡ act → IsSome (client_step code size s c act)
      → Goes
  client_goes c act less e some =
      (actor.Client c, lt-ltb c (length p.clients) less, subst (λ act. IsSome (client_step code size s c act)) (sym e) some)

  some_after : (a : Core) (h : ℕ) (o : Option Handler) → IsSome o → IsSome (after_handler code size a h o)
  some_after a h w some = search rules

  -- both ends of the lane of the ticket that a handler serves
  record Meets (h : ℕ) (t : Ticket) : Type 0 where
    pub handler : HandlerLane t false (g h).found ((g h).received t) ((g h).gave t) (stance (s.handler h) (g h).lent)
    pub gots : (g h).gave t ≡ y.got t h ++ as_list (s.up t.client h)
    pub client : ClientLane t false ((g h).received t ++ (g h).way t) (y.got t h) (part h (y.block_record t).trace) (y.stands t h)
    pub down : s.down t.client h ≡ (g h).way t ++ flat_map (g h).way (filter (λ (u : Ticket). u.client == t.client) (s.tickets h))

  meets : (h : ℕ) (t : Ticket) → serving (s.handler h) ≡ t ∷ [] → Meets h t
  meets h t one =
      let o = k.objects h in
      let here : ahead (post s h) ≡ t ∷ s.tickets h = ap (λ q. q ++ s.tickets h) one in
      let sent = (subst (AllByRecursion (λ t. y.sent t h ≡ (g h).received t ++ (g h).way t)) here o.sent).0 in
      let client = (subst (AllByRecursion (λ t. ClientLane t false (y.sent t h) (y.got t h) (part h (y.block_record t).trace) (y.stands t h))) here (deeds_ok p s y g k h).lane).0 in
      record {
        handler =
            (subst (AllByRecursion (λ t. HandlerLane t false (g h).found ((g h).received t) ((g h).gave t) (stance (s.handler h) (g h).lent))) one o.lane).0;
        gots =
            (subst (AllByRecursion (λ (t : Ticket). (g h).gave t ≡ y.got t h ++ as_list (s.up t.client h))) one o.gots).0;
        client = subst (λ ps. ClientLane t false ps (y.got t h) (part h (y.block_record t).trace) (y.stands t h)) sent client;
        down =
            o.down t.client ∙ (ap (λ q. flat_map (g h).way (filter (λ (u : Ticket). u.client == t.client) q)) here ∙ first);
      }
    where
      first : flat_map (g h).way (filter (λ (u : Ticket). u.client == t.client) (t ∷ s.tickets h)) ≡ (g h).way t ++ flat_map (g h).way (filter (λ (u : Ticket). u.client == t.client) (s.tickets h))
      first = rw (eqb_self t.client) refl

  -- a handler that can't take anything: nothing lies in the lane of the ticket that it serves
  abbrev Waits : ℕ → Ticket → Type 0
  Waits h t = (s.down t.client h ≡ []) × WaitsFor t (s.handler h)

  abbrev takes : ℕ → ℕ → List Parcel → Type 0
  takes h c ps = IsSome (takes_parcel code size s h c ps)

  by_lane : (t : Ticket) (h : ℕ) → reserves p t h ≡ true → WaitsFor t (s.handler h)
      → handlers.act_of (s.handler h) ≡ acts.TakeParcel t.client
      → ((parcel : Parcel) → IsTrue (may_stand (is_away (s.handler h)) parcel) → IsSome (accept_parcel (s.handler h) parcel))
      → (ps : List Parcel) → s.down t.client h ≡ ps → Goes ⊎ Waits h t
  by_lane t h mine waits act accepts v lies = search (rules, takes, some_after, st, handler_goes)

  -- the first at a handler: the handler has a step, or waits for its client
  by_handler : (t : Ticket) (us : List Ticket) (h : ℕ) → reserves p t h ≡ true → (v : Handler) → s.handler h ≡ v
      → serving v ++ s.tickets h ≡ t ∷ us → Goes ⊎ Waits h t
  by_handler t us h mine v is first = grind (arith, handler_goes, by_lane, serves_takes, away_takes, eqb_self, lt-ltb, meets, stance, list_none, gives_up, core.gives, k, opened)

  first_goes : (t : Ticket) (us : List Ticket) (h : ℕ) → reserves p t h ≡ true → before_it s h ≡ t ∷ us
      → Goes ⊎ Waits h t
  first_goes t us h mine first = by_handler t us h mine (s.handler h) refl first

  -- the client for which a handler waits has not sent its end
  taken_all : (h : ℕ) (t : Ticket) → Waits h t
      → ClientLane t false ((g h).received t) (y.got t h) (part h (y.block_record t).trace) (y.stands t h)
  taken_all h t w = search (rules, meets, waits_serves, front_none, filter, append-nil)

  waits_stays : (h : ℕ) (t : Ticket) → Waits h t → y.stands t h ≡ gone → ⊥
  waits_stays h t w left =
      let m = meets h t (waits_serves t (s.handler h) w.1) in
      let all = subst (ClientLane t false ((g h).received t) (y.got t h) (part h (y.block_record t).trace)) left (taken_all h t w) in
      let over = gone_over t (g h).found ((g h).received t) (y.got t h) ((g h).gave t) (part h (y.block_record t).trace) (stance (s.handler h) (g h).lent) all m.handler in
      waits_not_over t (s.handler h) (g h).lent over.0 w.1 over.1

  -- so it is in this block
  waits_in_block : (h : ℕ) (t : Ticket) → Among t s.order → reserves p t h ≡ true → Waits h t
      → (s.client t.client).begun ≡ suc t.index
  waits_in_block h t among mine w = grind (arith, each_among, k, apart_eqb, waits_stays, num_cases)

  is_client : (t : Ticket) → Among t s.order → t.client < length p.clients
  is_client t among = search (rules, each_among, st)

  -- where a client's object is that it waits for
  asked : (h : ℕ) (t : Ticket) → Waits h t → y.stands t h ≡ asks → (x : HeldState) × (s.up t.client h ≡ Some x)
  asked h t w stands = by_waits w.1
    where
      m : Meets h t
      m = meets h t (waits_serves t (s.handler h) w.1)

      all : ClientLane t false ((g h).received t) (y.got t h) (part h (y.block_record t).trace) (y.stands t h)
      all = taken_all h t w

      by_where : Where [] (as_list (s.up t.client h)) (y.stands t h) (g h).lent
          → (x : HeldState) × (s.up t.client h ≡ Some x)
      by_where (inl is) = ((g h).lent, list_some (s.up t.client h) (g h).lent is.1)
      by_where (inr (inl is)) = absurd (let no : asks ≡ views.holds is.2.0 = sym stands ∙ is.2.1 in cc)
      by_where (inr (inr is)) = absurd (let no = is.2 in cc)

      by_waits : WaitsFor t (s.handler h) → (x : HeldState) × (s.up t.client h ≡ Some x)
      by_waits (inl is) =
          absurd (asks_not_served t (g h).found is.0 ((g h).received t) (y.got t h) ((g h).gave t) (part h (y.block_record t).trace)
          (subst (ClientLane t false ((g h).received t) (y.got t h) (part h (y.block_record t).trace)) stands all)
          (subst (λ v. HandlerLane t false (g h).found ((g h).received t) ((g h).gave t) (stance v (g h).lent)) is.1 m.handler))
      by_waits (inr is) =
          by_where (lent_where t (g h).found (g h).lent ((g h).received t) [] (y.got t h) ((g h).gave t) (as_list (s.up t.client h)) (part h (y.block_record t).trace) (y.stands t h)
          (subst (λ ps. ClientLane t false ps (y.got t h) (part h (y.block_record t).trace) (y.stands t h)) (sym (append-nil ((g h).received t))) all)
          (subst (λ v. HandlerLane t false (g h).found ((g h).received t) ((g h).gave t) (stance v (g h).lent)) is m.handler) m.gots)

  -- what a client in a block does next is at a handler that it has not left
  data Deed (c h : ℕ) (t : Ticket) : Type 0 where
    sending : (parcel : Parcel) → asks_for c ≡ Send h parcel → Deed c h t
    awaiting : asks_for c ≡ Await h → y.stands t h ≡ asks → Deed c h t
    needing : asks_for c ≡ NeedChunk h → Deed c h t

  record Due (c : ℕ) (t : Ticket) : Type 0 where
    pub object : ℕ
    pub mine : reserves p t object ≡ true
    pub stays : y.stands t object ≡ gone → ⊥
    pub deed : Deed c object t

  asks_not_gone : asks ≡ gone → ⊥
  asks_not_gone e = cc

  due : (c n : ℕ) → (s.client c).begun ≡ suc n → ((l : Locals) × ((s.client c).stage ≡ between l)) ⊎ Due c (ticket c n)
  due c n begun = by_act (asks_for c) refl
    where
      place : PlaceOk p (ticket c n) (y.sent (ticket c n)) (y.got (ticket c n)) (s.client c) (y.block_record (ticket c n)) (s.client c).stage
      place = k.places c n begun

      by_act : (act : Act) → asks_for c ≡ act → ((l : Locals) × ((s.client c).stage ≡ between l)) ⊎ Due c (ticket c n)
      by_act Reserve e =
          inl (reserve_at p (ticket c n) (y.sent (ticket c n)) (y.got (ticket c n)) (settings_of code size c) (blocks_in code c) (s.client c) (y.block_record (ticket c n)) (s.client c).stage place e)
      by_act Finished e =
          inl (finished_at p (ticket c n) (y.sent (ticket c n)) (y.got (ticket c n)) (settings_of code size c) (blocks_in code c) (s.client c) (y.block_record (ticket c n)) (s.client c).stage place (fulls c) e)
      by_act (Send h parcel) e =
          let at = send_at p (ticket c n) (y.sent (ticket c n)) (y.got (ticket c n)) (settings_of code size c) (blocks_in code c) (s.client c) (y.block_record (ticket c n)) (s.client c).stage place h parcel e in
          inr (record { object = h; mine = at.0; stays = λ left. at.1 (sym (k.stands c n begun h) ∙ left); deed = sending parcel e })
      by_act (Await h) e =
          let at = await_at p (ticket c n) (y.sent (ticket c n)) (y.got (ticket c n)) (settings_of code size c) (blocks_in code c) (s.client c) (y.block_record (ticket c n)) (s.client c).stage place h e in
          let stands : y.stands (ticket c n) h ≡ asks = k.stands c n begun h ∙ at.1 in
          inr (record { object = h; mine = at.0; stays = λ left. asks_not_gone (sym stands ∙ left); deed = awaiting e stands })
      by_act (NeedChunk h) e =
          let mine = need_at p (ticket c n) (y.sent (ticket c n)) (y.got (ticket c n)) (settings_of code size c) (blocks_in code c) (s.client c) (y.block_record (ticket c n)) (s.client c).stage place h e in
          inr (record {
            object = h;
            mine = mine;
            stays =
                λ left. need_stays p (ticket c n) (settings_of code size c) (blocks_in code c) (s.client c) (s.client c).stage h e (sym (k.stands c n begun h) ∙ left);
            deed = needing e;
          })

  -- where its handler waits for it, it does this
  deed_goes : (h : ℕ) (t : Ticket) → t.client < length p.clients → Waits h t → Deed t.client h t → Goes
  deed_goes h t less w (sending parcel e) =
      let room : nat_lt (length (s.down t.client h)) lane_room ≡ true = ap (λ ps. nat_lt (length ps) lane_room) w.0 in
      client_goes t.client (Send h parcel) less e (rw room refl)
  deed_goes h t less w (awaiting e stands) =
      let up = asked h t w stands in
      client_goes t.client (Await h) less e (subst (λ o. IsSome (core.gets code size s t.client h o)) (sym up.1) refl)
  deed_goes h t less w (needing e) = by_spare (s.spare t.client h) refl
    where
      by_spare : (n : ℕ) → s.spare t.client h ≡ n → Goes
      by_spare zero none =
          let all = four t.client h in
          let hand : opened ((s.client t.client).chunk h) ≡ 0 = ap opened (needs_none (settings_of code size t.client) (blocks_in code t.client) (s.client t.client) (s.client t.client).stage h e) in
          let way : chunks_in (s.down t.client h) ≡ 0 = ap chunks_in w.0 in
          let back : to_give_back (s.handler h) t.client ≡ 0 = waits_gives_none t (s.handler h) t.client w.1 in
          absurd (omega (arith, all, hand, way, back, none))
      by_spare (suc n) some =
          client_goes t.client (NeedChunk h) less e (subst (λ n. IsSome (takes_chunk code size s t.client h n)) (sym some) refl)

  -- whether a ticket is over at an object: its client has left it
  abbrev IsOver : ℕ → Ticket → Type 0
  IsOver h t = y.stands t h ≡ gone

  -- a ticket that is the first one left of all
  module _ (t : Ticket) (among : Among t s.order) (left : IsFirstLeft p (before_it s) IsOver t) where
    due_goes : Due t.client t → Goes
    due_goes d =
        elim (left d.object d.mine) [
          | inl first ↦
              elim (first_goes t first.0 d.object d.mine first.1) [
                | inl goes ↦ goes
                | inr waits ↦ deed_goes d.object t (is_client t among) waits d.deed
              ]
          | inr over ↦ absurd (d.stays over)
        ]

    -- its client has not left where a handler waits for it
    waits_goes : (h : ℕ) → reserves p t h ≡ true → Waits h t → Goes
    waits_goes h mine w =
        let begun = waits_in_block h t among mine w in
        elim (due t.client t.index begun) [
          | inl out ↦
              absurd (waits_stays h t w (k.stands t.client t.index begun h ∙ (ap (λ pl. standing_at p t (s.client t.client) pl h) out.1 ∙ ap (λ b. if b then gone else views.sends []) mine)))
          | inr d ↦ due_goes d
        ]

    here_goes : (h : ℕ) (us : List Ticket) → reserves p t h ≡ true → before_it s h ≡ t ∷ us → Goes
    here_goes h us mine first = search (rules, first_goes, waits_goes)

  -- where no ticket is left at an object, those that reserve it have left it
  served_all : (h : ℕ) (t : Ticket) → before_it s h ≡ [] → Among t s.order → reserves p t h ≡ true → y.stands t h ≡ gone
  served_all h t none a mine =
      all_over p (before_it s) IsOver s.order (λ h. (g h).past)
      (past_left p sound s y g k) (λ h. (k.objects h).split) h t none a mine

  -- then all is done, or a client has a step
  module _ (none : (h : ℕ) → before_it s h ≡ []) where
    no_due : (c n : ℕ) → (s.client c).begun ≡ suc n → Due c (ticket c n) → ⊥
    no_due c n begun d = grind (arith, k, legal_among, served_all)

    is_out : (c n : ℕ) → (s.client c).begun ≡ n → (l : Locals) × ((s.client c).stage ≡ between l)
    is_out c zero begun = (_, (k.idle c begun).0)
    is_out c (suc n) begun = elim (due c n begun) [ inl out ↦ out | inr d ↦ absurd (no_due c n begun d) ]

    fate : (c : ℕ) → c < length p.clients → (is_done p s c ≡ true) ⊎ Goes
    fate c less = by_number (nat_lt (s.client c).begun (blocks_in code c)) refl
      where
        out : (l : Locals) × ((s.client c).stage ≡ between l)
        out = is_out c (s.client c).begun refl

        by_number : (b : Bool) → nat_lt (s.client c).begun (blocks_in code c) ≡ b → (is_done p s c ≡ true) ⊎ Goes
        by_number true e =
            let act : asks_for c ≡ Reserve = between_acts (settings_of code size c) (blocks_in code c) (s.client c) out.0 out.1 ∙ ap (λ b. if b then Reserve else Finished) e in
            inr (client_goes c Reserve less act (subst (λ pl. IsSome (core.reserves_from code size s c pl)) (sym out.1) refl))
        by_number false e =
            let long = blocks_are p sound mode code codes c in
            let most = st.tickets.begun c in
            let all : (s.client c).begun ≡ blocks_of p c = grind (arith, e, most, long) in
            inl (rw (out.1, all) (eqb_self (blocks_of p c)))

    rests : (h : ℕ) (v : Handler) → s.handler h ≡ v → serving v ++ s.tickets h ≡ []
        → (is_free (s.handler h) ≡ true) × (s.tickets h ≡ [])
    rests h v is e = search (rules, k, opened)

    lane_empty : (h c : ℕ) → s.down c h ≡ []
    lane_empty h c = search (rules, k, filter)

    idle : (h : ℕ) → is_idle p s h ≡ true
    idle h = search (rules, rests, all_pass, lane_empty)

    last_case : (is_finished p s ≡ true) ⊎ Goes
    last_case =
        let idles : all_of (is_idle p s) (range_with_len 0 (length p.objects)) ≡ true = all_pass (is_idle p s) (range_with_len 0 (length p.objects)) idle in
        elim (all_or (is_done p s) Goes 0 (length p.clients) (λ c low high. fate c (omega (arith, high)))) [ inl all ↦ inl (rw (all, idles) refl) | inr some ↦ inr some ]

  pub goes_on : (is_finished p s ≡ true) ⊎ Goes
  goes_on =
      elim (goes_or_none p (before_it s) IsOver s.order (λ h. (g h).past)
      (past_left p sound s y g k) (λ h. (k.objects h).split) Goes here_goes) [
        | inl some ↦ inr some
        | inr none ↦ last_case none
      ]

pub stands_of : (p : ProgramShape) (code : ℕ → ClientCode) (size : ℕ) (s : Core) → ReachedCore p code size s
    → CoreStands p code size s
unfolding ReachedCore
stands_of p code size s r = r

pub core_runs_never_stuck : CoreNeverStuck
core_runs_never_stuck p sound mode code codes size actors =
    let r = run_both p sound mode code codes size actors in
    let s = core_plays code size actors (core_begin p) in
    goes_on p sound mode code codes size s r.0.0 r.0.1 r.0.2 (stands_of p code size s (reached_keeps p sound mode code codes size actors)) (run_four code size p actors) (run_full code size p actors)
