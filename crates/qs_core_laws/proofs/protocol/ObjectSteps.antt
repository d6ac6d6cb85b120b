-- Each step at an object keeps how its queue, its lanes and its handler stand to what the clients sent and got
-- (`IsObject`). The lemmas on steps of clients and handlers (`HandlerSteps`, `SendingPreserved`) stand on this. Only
-- one ticket's lane moves: those before it in the queue are over, of those after it nothing was received, and a
-- client's lane is its tickets' parcels joined.
use Rattle.std.proofs.Common.{◌≡◌, ◌<◌, arith, ℕ, Bool, true, false, if◌then◌else◌, ◌==◌, List, [], ◌∷◌, ◌++◌, filter, flat_map, refl, sym, ap, ap₂, ◌∙◌, subst, ◌⊎◌, inl, inr, ⊎_elim, append_assoc, append-nil, rules}
use Rattle.qs_played.proofs.Names.{AllByRecursion, filter-append, HeldState, IsFront, same, Ticket, eqb_self, num_cases, ticket_cases, put, each_map, each_both, each_snoc, each_front, each_back, Among, put_here, put_there}
use Rattle.std.proofs.lemmas.List.Concat.{flat_map-append}
use Rattle.qs_core_laws.proofs.Names.{gone, ClientLane, HandlerLane, Parcel, Handler, free, serves, spares, gives, away, serving, put_at, put_at_here, put_at_there}
use Rattle.qs_chunk.specs.LaneViews as views
use Rattle.qs_chunk.specs.declared.parcel.Parcel.TheVariants as parcels
use Rattle.qs_core_laws.proofs.protocol.ObjectViews.{stance, Rising, PastOf, ObjectView, ClientLog, HandlerLog, ahead, IsObject, IsClientLog}
use Rattle.qs_core_laws.proofs.protocol.LaneMoves.{HandlerGoes, handler_goes, handler_give, handler_end}
use Rattle.qs_core_laws.proofs.protocol.LaneWays.{gone_over, MayCome, come, serves_got, gone_got, LastOf, last_more}

-- the first ticket of the queue is taken
pub take_ok : (mine : List Ticket) (x : HeldState) (b : ObjectView) (y : ClientLog) (g : HandlerLog) (z : HeldState) (t : Ticket) (ts : List Ticket) → b.handler ≡ free z → b.tickets ≡ t ∷ ts → IsObject mine x b y g
    → IsObject mine x (record b { handler = serves t z; tickets = ts }) y (record g { gave = put_at g.gave t [] })
take_ok mine x b y g z t ts e q k = search (rules, ahead, put_at, put_at_here)

-- the object is given
pub give_ok : (mine : List Ticket) (x : HeldState) (b : ObjectView) (y : ClientLog) (g : HandlerLog) (t : Ticket) (z : HeldState) → b.handler ≡ gives t z → b.up t.client ≡ [] → IsObject mine x b y g
    → IsObject mine x (record b { handler = away t; up = put b.up t.client (z ∷ []) }) y (record g { gave = put_at g.gave t (g.gave t ++ z ∷ []); lent = z })
give_ok mine x b y g t z e none k =
    let same_ahead : ahead b ≡ t ∷ b.tickets = ap (λ s. serving s ++ b.tickets) e in
    let lane = (subst (λ s. AllByRecursion (λ t. HandlerLane t false g.found (g.received t) (g.gave t) (stance s g.lent)) (serving s)) e k.lane).0 in
    let gots = (subst (λ s. AllByRecursion (λ (t : Ticket). g.gave t ≡ y.got t ++ b.up t.client) (serving s)) e k.gots).0 in
    let all : g.gave t ≡ y.got t = gots ∙ (ap (λ u. y.got t ++ u) none ∙ append-nil (y.got t)) in
    let new = handler_goes t false g.found (g.received t) (g.gave t) (views.gives z) [] (z ∷ []) (views.lent z) lane (handler_give t z) in
    record {
      split = k.split ∙ ap (λ q. g.past ++ q) same_ahead;
      served = k.served;
      free = λ w i. absurd (cc);
      opened = λ w i. absurd (cc);
      sent = subst (AllByRecursion (λ t. y.sent t ≡ g.received t ++ g.way t)) same_ahead k.sent;
      lane = (
        subst (λ gv. HandlerLane t false g.found (g.received t) gv (views.lent z)) (sym (put_at_here g.gave t (g.gave t ++ z ∷ [])))
            (subst (λ r. HandlerLane t false g.found r (g.gave t ++ z ∷ []) (views.lent z)) (append-nil (g.received t)) new),
        tt,
      );
      gots = (put_at_here g.gave t (g.gave t ++ z ∷ []) ∙ (ap (λ a. a ++ z ∷ []) all ∙ ap (λ u. y.got t ++ u) (sym (put_here b.up t.client (z ∷ [])))), tt);
      later = k.later;
      down = λ c. k.down c ∙ ap (λ q. flat_map g.way (filter (λ (t : Ticket). t.client == c) q)) same_ahead;
      up = λ c out. put_there b.up t.client (z ∷ []) c out.0 ∙ k.up c (subst (λ s. AllByRecursion (λ (t : Ticket). (t.client == c) ≡ false) (serving s)) (sym e) (out.0, tt));
      rising = subst Rising same_ahead k.rising;
    }

-- an empty chunk was given back
pub spare_ok : (mine : List Ticket) (x : HeldState) (b : ObjectView) (y : ClientLog) (g : HandlerLog) (t : Ticket) (z : HeldState) (n : ℕ) → b.handler ≡ spares t z n → IsObject mine x b y g → IsObject mine x (record b { handler = serves t z }) y g
spare_ok mine x b y g t z n e k = search (rules, ahead, stance)

-- a parcel in a lane is of some ticket
some_of : (t : Ticket) (way : Ticket → List Parcel) (p : Parcel) (ps : List Parcel) (us : List Ticket) → AllByRecursion (λ (v : Ticket). t.client ≡ v.client → t.index < v.index) us
    → flat_map way (filter (λ (u : Ticket). u.client == t.client) us) ≡ p ∷ ps → (u : Ticket) × (t.client ≡ u.client) × (t.index < u.index) × Among u us
some_of t way p ps [] k e = absurd (cc)
some_of t way p ps (u ∷ us) k e =
    ⊎_elim
    (λ (is : u.client ≡ t.client). (u, sym is, k.0 (sym is), inl refl))
    (λ (other : (u.client == t.client) ≡ false). let r = some_of t way p ps us k.1 (rw other at e) in (r.0, r.1, r.2, inr r.3))
    (num_cases u.client t.client)

later_apart : (t : Ticket) (us : List Ticket) → AllByRecursion (λ (v : Ticket). t.client ≡ v.client → t.index < v.index) us → AllByRecursion (λ u. same t u ≡ false) us
later_apart t us = search (rules, each_map, ticket_cases)

flat_same : (f : Ticket → Bool) (way : Ticket → List Parcel) (t : Ticket) (w : List Parcel) (us : List Ticket) → AllByRecursion (λ u. same t u ≡ false) us → flat_map (put_at way t w) (filter f us) ≡ flat_map way (filter f us)
flat_same f way t w [] k = refl
flat_same f way t w (u ∷ us) k = search (rules, k, put_at, filter, put_at_there, flat_same f way t w us k.1)

past_more : (sent : Ticket → List Parcel) (got : Ticket → List HeldState) (ts : List Ticket) (x m z : HeldState) (t : Ticket) (gave : List HeldState) → PastOf sent got x ts m → HandlerLane t false m (sent t) gave (views.over z) → IsFront (got t) gave → PastOf sent got x (ts ++ t ∷ []) z
past_more sent got [] x m z t gave p l f = (z, gave, subst (λ m. HandlerLane t false m (sent t) gave (views.over z)) (sym p) l, f, refl)
past_more sent got (u ∷ us) x m z t gave p l f = (p.0, p.1, p.2, p.3, past_more sent got us p.0 m z t gave p.4 l f)

module _ (mine : List Ticket) (x : HeldState) (b : ObjectView) (y : ClientLog) (g : HandlerLog) (t : Ticket) (one : serving b.handler ≡ t ∷ []) (k : IsObject mine x b y g) (side : IsClientLog (ahead b) y) where
  same_ahead : ahead b ≡ t ∷ b.tickets
  same_ahead = ap (λ s. s ++ b.tickets) one

  lane_now : HandlerLane t false g.found (g.received t) (g.gave t) (stance b.handler g.lent)
  lane_now = (subst (AllByRecursion (λ t. HandlerLane t false g.found (g.received t) (g.gave t) (stance b.handler g.lent))) one k.lane).0

  gots_now : g.gave t ≡ y.got t ++ b.up t.client
  gots_now = (subst (AllByRecursion (λ (t : Ticket). g.gave t ≡ y.got t ++ b.up t.client)) one k.gots).0

  sent_now : AllByRecursion (λ t. y.sent t ≡ g.received t ++ g.way t) (t ∷ b.tickets)
  sent_now = subst (AllByRecursion (λ t. y.sent t ≡ g.received t ++ g.way t)) same_ahead k.sent

  client_now : ClientLane t false (y.sent t) (y.got t) (y.events t) (y.stands t)
  client_now = (subst (AllByRecursion (λ t. ClientLane t false (y.sent t) (y.got t) (y.events t) (y.stands t))) same_ahead side.lane).0

  rising_now : Rising (t ∷ b.tickets)
  rising_now = subst Rising same_ahead k.rising

  down_now : b.down t.client ≡ g.way t ++ flat_map g.way (filter (λ (u : Ticket). u.client == t.client) b.tickets)
  down_now = k.down t.client ∙ (ap (λ q. flat_map g.way (filter (λ (u : Ticket). u.client == t.client) q)) same_ahead ∙ ap (λ (c : Bool). flat_map g.way (if c then t ∷ filter (λ (u : Ticket). u.client == t.client) b.tickets else filter (λ (u : Ticket). u.client == t.client) b.tickets)) (eqb_self t.client))

  front_now : IsFront (y.got t) (g.gave t)
  front_now = (b.up t.client, sym gots_now)

  -- the lane's first parcel is of the ticket that is served
  pub way_head : (p : Parcel) (ps : List Parcel) → b.down t.client ≡ p ∷ ps → ((z : HeldState) → stance b.handler g.lent ≡ views.over z → ⊥)
      → (w : List Parcel) × (g.way t ≡ p ∷ w) × (ps ≡ w ++ flat_map g.way (filter (λ (u : Ticket). u.client == t.client) b.tickets))
  way_head p ps e n = by_case (g.way t) refl
    where
      by_case : (v : List Parcel) → g.way t ≡ v → (w : List Parcel) × (g.way t ≡ p ∷ w) × (ps ≡ w ++ flat_map g.way (filter (λ (u : Ticket). u.client == t.client) b.tickets))
      by_case [] v =
          let rest : flat_map g.way (filter (λ (u : Ticket). u.client == t.client) b.tickets) ≡ p ∷ ps = sym (ap (λ a. a ++ flat_map g.way (filter (λ (u : Ticket). u.client == t.client) b.tickets)) v) ∙ (sym down_now ∙ e) in
          let u = some_of t g.way p ps b.tickets rising_now.0 rest in
          let gone = side.older t u.0 (subst (Among t) (sym same_ahead) (inl refl)) (subst (Among u.0) (sym same_ahead) (inr u.3)) u.1 u.2 in
          let all : y.sent t ≡ g.received t = sent_now.0 ∙ (ap (λ w. g.received t ++ w) v ∙ append-nil (g.received t)) in
          let o = gone_over t g.found (g.received t) (y.got t) (g.gave t) (y.events t) (stance b.handler g.lent) (subst (ClientLane t false (g.received t) (y.got t) (y.events t)) gone (subst (λ s. ClientLane t false s (y.got t) (y.events t) (y.stands t)) all client_now)) lane_now in
          absurd (n o.0 o.1)
      by_case (q ∷ w) v =
          let both : p ∷ ps ≡ (q ∷ w) ++ flat_map g.way (filter (λ (u : Ticket). u.client == t.client) b.tickets) = sym e ∙ (down_now ∙ ap (λ a. a ++ flat_map g.way (filter (λ (u : Ticket). u.client == t.client) b.tickets)) v) in
          let head : p ≡ q = cc in
          let tail : ps ≡ w ++ flat_map g.way (filter (λ (u : Ticket). u.client == t.client) b.tickets) = cc in
          (w, v ∙ ap (λ q. q ∷ w) (sym head), tail)

  -- what is at the head may come
  pub may_come : (p : Parcel) (w : List Parcel) → g.way t ≡ p ∷ w → MayCome (stance b.handler g.lent) p w
  may_come p w e = search (rules, come, stance, client_now, lane_now, front_now)

  -- a parcel after which the ticket is served on
  pub parcel_on : (s : Handler) (p : Parcel) (ps w : List Parcel) → serving s ≡ t ∷ [] → g.way t ≡ p ∷ w → ps ≡ w ++ flat_map g.way (filter (λ (u : Ticket). u.client == t.client) b.tickets)
      → HandlerGoes t (stance b.handler g.lent) (p ∷ []) [] (stance s g.lent)
      → IsObject mine x (record b { handler = s; down = put b.down t.client ps }) y (record g { received = put_at g.received t (g.received t ++ p ∷ []); way = put_at g.way t w })
  parcel_on s p ps w one' e i goes =
      let apart = later_apart t b.tickets rising_now.0 in
      let new = handler_goes t false g.found (g.received t) (g.gave t) (stance b.handler g.lent) (p ∷ []) [] (stance s g.lent) lane_now goes in
      let received' = put_at g.received t (g.received t ++ p ∷ []) in
      let way' = put_at g.way t w in
      let q : serving s ++ b.tickets ≡ t ∷ b.tickets = ap (λ s. s ++ b.tickets) one' in
      record {
        split = k.split ∙ ap (λ q. g.past ++ q) (same_ahead ∙ sym q);
        served = k.served;
        free = λ z f. absurd (cc (ap serving f, one'));
        opened = λ z f. absurd (cc (ap serving f, one'));
        sent = subst (AllByRecursion (λ t. y.sent t ≡ received' t ++ way' t)) (sym q) (
          sent_now.0 ∙ (ap (λ w. g.received t ++ w) e ∙ (sym (append_assoc (g.received t) (p ∷ []) w) ∙ ap₂ (λ a b. a ++ b) (sym (put_at_here g.received t (g.received t ++ p ∷ []))) (sym (put_at_here g.way t w)))),
          each_both (λ u (n : same t u ≡ false) (h : y.sent u ≡ g.received u ++ g.way u). h ∙ ap₂ (λ a b. a ++ b) (sym (put_at_there g.received t (g.received t ++ p ∷ []) u n)) (sym (put_at_there g.way t w u n))) b.tickets apart sent_now.1,
        );
        lane = subst (AllByRecursion (λ t. HandlerLane t false g.found (received' t) (g.gave t) (stance s g.lent))) (sym one') (
          subst (λ r. HandlerLane t false g.found r (g.gave t) (stance s g.lent)) (sym (put_at_here g.received t (g.received t ++ p ∷ [])))
              (subst (λ gv. HandlerLane t false g.found (g.received t ++ p ∷ []) gv (stance s g.lent)) (append-nil (g.gave t)) new),
          tt,
        );
        gots = subst (AllByRecursion (λ (t : Ticket). g.gave t ≡ y.got t ++ b.up t.client)) (sym one') (gots_now, tt);
        later = each_both (λ u (n : same t u ≡ false) (h : (y.got u ≡ []) × (g.received u ≡ [])). (h.0, put_at_there g.received t (g.received t ++ p ∷ []) u n ∙ h.1)) b.tickets apart k.later;
        down = λ c. ap (λ q. q) (downs c) ∙ sym (ap (λ q. flat_map way' (filter (λ (u : Ticket). u.client == c) q)) q);
        up = λ c out. k.up c (subst (AllByRecursion (λ (u : Ticket). (u.client == c) ≡ false)) (one' ∙ sym one) out);
        rising = subst Rising (sym q) rising_now;
      }
    where
      downs : (c : ℕ) → put b.down t.client ps c ≡ flat_map (put_at g.way t w) (filter (λ (u : Ticket). u.client == c) (t ∷ b.tickets))
      downs c = search (rules, later_apart, rising_now, put_at, put_here, eqb_self, put_at_here, flat_same, put_there, same_ahead, num_cases)

  append_nothing : (xs ys : List HeldState) → xs ≡ xs ++ ys → ys ≡ []
  append_nothing [] ys e = sym e
  append_nothing (z ∷ xs) ys e = append_nothing xs ys (cc)

  -- the end of the ticket
  pub parcel_end : (z : HeldState) (ps : List Parcel) → b.handler ≡ serves t z → g.way t ≡ parcels.End ∷ [] → ps ≡ flat_map g.way (filter (λ (u : Ticket). u.client == t.client) b.tickets)
      → IsObject mine x (record b { handler = free z; down = put b.down t.client ps }) y (record g { past = g.past ++ t ∷ []; found = z })
  parcel_end z ps e w i =
      let lane : HandlerLane t false g.found (g.received t) (g.gave t) (views.serves z) = subst (λ s. HandlerLane t false g.found (g.received t) (g.gave t) (stance s g.lent)) e lane_now in
      let new = handler_goes t false g.found (g.received t) (g.gave t) (views.serves z) (parcels.End ∷ []) [] (views.over z) lane (handler_end t z) in
      let sent : y.sent t ≡ g.received t ++ parcels.End ∷ [] = sent_now.0 ∙ ap (λ w. g.received t ++ w) w in
      let got : y.got t ≡ g.gave t = serves_got t g.found z (g.received t) (g.way t) (y.got t) (g.gave t) (y.events t) (y.stands t) (subst (λ s. ClientLane t false s (y.got t) (y.events t) (y.stands t)) sent_now.0 client_now) lane front_now in
      let none : b.up t.client ≡ [] = append_nothing (y.got t) (b.up t.client) (got ∙ gots_now) in
      record {
        split = k.split ∙ (ap (λ q. g.past ++ q) same_ahead ∙ sym (append_assoc g.past (t ∷ []) b.tickets));
        served = search (rules, past_more, k, views.over, append-nil, front_now);
        free = λ v f. cc;
        opened = λ v f. absurd (cc);
        sent = sent_now.1;
        lane = tt;
        gots = tt;
        later = k.later;
        down = search (rules, filter, put_here, put_there, k, same_ahead, num_cases);
        up = search (rules, k, num_cases);
        rising = rising_now.1;
      }

past_same : (t : Ticket) (sent sent' : Ticket → List Parcel) (got got' : Ticket → List HeldState) → ((u : Ticket) → same t u ≡ false → (sent u ≡ sent' u) × (got u ≡ got' u)) → (ts : List Ticket) (x z : HeldState) → AllByRecursion (λ u. same t u ≡ false) ts → PastOf sent got x ts z → PastOf sent' got' x ts z
past_same t sent sent' got got' e [] x z n p = p
past_same t sent sent' got got' e (u ∷ us) x z n p =
    let k = e u n.0 in
    (p.0, p.1, subst (λ s. HandlerLane u false x s p.1 (views.over p.0)) k.0 p.2, subst (λ q. IsFront q p.1) k.1 p.3, past_same t sent sent' got got' e us p.0 z n.1 p.4)

flat_other : (t : Ticket) (c : ℕ) (way : Ticket → List Parcel) (w : List Parcel) (us : List Ticket) → (t.client == c) ≡ false → flat_map (put_at way t w) (filter (λ (u : Ticket). u.client == c) us) ≡ flat_map way (filter (λ (u : Ticket). u.client == c) us)
flat_other t c way w [] n = refl
flat_other t c way w (u ∷ us) n = search (rules, ticket_cases, put_at, filter, put_at_there, flat_other t c way w us n)

-- a client sends a parcel
pub send_ok : (mine : List Ticket) (x : HeldState) (b : ObjectView) (y : ClientLog) (g : HandlerLog) (t : Ticket) (p : Parcel) → LastOf t (ahead b) → AllByRecursion (λ u. same t u ≡ false) g.past → IsObject mine x b y g
    → IsObject mine x (record b { down = put b.down t.client (b.down t.client ++ p ∷ []) }) (record y { sent = put_at y.sent t (y.sent t ++ p ∷ []) }) (record g { way = put_at g.way t (g.way t ++ p ∷ []) })
send_ok mine x b y g t p last apart k = record {
  split = k.split;
  served = past_same t y.sent (put_at y.sent t (y.sent t ++ p ∷ [])) y.got y.got (λ u n. (sym (put_at_there y.sent t (y.sent t ++ p ∷ []) u n), refl)) g.past x g.found apart k.served;
  free = k.free;
  opened = k.opened;
  sent = each_map (λ u (h : y.sent u ≡ g.received u ++ g.way u).
      ⊎_elim
      (λ (is : t ≡ u). subst (λ u. put_at y.sent t (y.sent t ++ p ∷ []) u ≡ g.received u ++ put_at g.way t (g.way t ++ p ∷ []) u) is
      (put_at_here y.sent t (y.sent t ++ p ∷ []) ∙ (ap (λ s. s ++ p ∷ []) (subst (λ u. y.sent u ≡ g.received u ++ g.way u) (sym is) h) ∙ (append_assoc (g.received t) (g.way t) (p ∷ []) ∙ ap (λ w. g.received t ++ w) (sym (put_at_here g.way t (g.way t ++ p ∷ [])))))))
      (λ (other : same t u ≡ false). put_at_there y.sent t (y.sent t ++ p ∷ []) u other ∙ (h ∙ ap (λ w. g.received u ++ w) (sym (put_at_there g.way t (g.way t ++ p ∷ []) u other))))
      (ticket_cases t u)) (ahead b) k.sent;
  lane = k.lane;
  gots = k.gots;
  later = k.later;
  down = λ c. ⊎_elim
      (λ (is : t.client ≡ c). subst (λ c. put b.down t.client (b.down t.client ++ p ∷ []) c ≡ flat_map (put_at g.way t (g.way t ++ p ∷ [])) (filter (λ (u : Ticket). u.client == c) (ahead b))) is
      (put_here b.down t.client (b.down t.client ++ p ∷ []) ∙ (ap (λ d. d ++ p ∷ []) (k.down t.client) ∙ sym (last_more t g.way p (ahead b) last))))
      (λ (other : (t.client == c) ≡ false). put_there b.down t.client (b.down t.client ++ p ∷ []) c other ∙ (k.down c ∙ sym (flat_other t c g.way (g.way t ++ p ∷ []) (ahead b) other)))
      (num_cases t.client c);
  up = k.up;
  rising = k.rising;
}

-- a client gets the object
pub got_ok : (mine : List Ticket) (x : HeldState) (b : ObjectView) (y : ClientLog) (g : HandlerLog) (t : Ticket) (o : HeldState) (os : List HeldState) → serving b.handler ≡ t ∷ [] → b.up t.client ≡ o ∷ os → AllByRecursion (λ u. same t u ≡ false) g.past → IsObject mine x b y g
    → IsObject mine x (record b { up = put b.up t.client os }) (record y { got = put_at y.got t (y.got t ++ o ∷ []) }) g
got_ok mine x b y g t o os one e apart k =
    let rising = subst Rising (ap (λ s. s ++ b.tickets) one) k.rising in
    let gots = (subst (AllByRecursion (λ (t : Ticket). g.gave t ≡ y.got t ++ b.up t.client)) one k.gots).0 in
    record {
      split = k.split;
      served = past_same t y.sent y.sent y.got (put_at y.got t (y.got t ++ o ∷ [])) (λ u n. (refl, sym (put_at_there y.got t (y.got t ++ o ∷ []) u n))) g.past x g.found apart k.served;
      free = k.free;
      opened = k.opened;
      sent = k.sent;
      lane = k.lane;
      gots = subst (AllByRecursion (λ (u : Ticket). g.gave u ≡ put_at y.got t (y.got t ++ o ∷ []) u ++ put b.up t.client os u.client)) (sym one)
          (gots ∙ (ap (λ u. y.got t ++ u) e ∙ (sym (append_assoc (y.got t) (o ∷ []) os) ∙ ap₂ (λ a b. a ++ b) (sym (put_at_here y.got t (y.got t ++ o ∷ []))) (sym (put_here b.up t.client os)))), tt);
      later = each_both (λ u (n : same t u ≡ false) (h : (y.got u ≡ []) × (g.received u ≡ [])). (put_at_there y.got t (y.got t ++ o ∷ []) u n ∙ h.0, h.1)) b.tickets (later_apart t b.tickets rising.0) k.later;
      down = k.down;
      up = λ c out. put_there b.up t.client os c (subst (AllByRecursion (λ (u : Ticket). (u.client == c) ≡ false)) one out).0 ∙ k.up c out;
      rising = k.rising;
    }

rising_more : (q : List Ticket) (t : Ticket) → Rising q → AllByRecursion (λ (u : Ticket). u.client ≡ t.client → u.index < t.index) q → Rising (q ++ t ∷ [])
rising_more [] t r k = (tt, tt)
rising_more (u ∷ us) t r k = (each_snoc (λ (v : Ticket). u.client ≡ v.client → u.index < v.index) us t r.0 k.0, rising_more us t r.1 k.1)

-- a client reserves the object
pub enter_ok : (mine : List Ticket) (x : HeldState) (b : ObjectView) (y : ClientLog) (g : HandlerLog) (t : Ticket) → AllByRecursion (λ u. same t u ≡ false) g.past → AllByRecursion (λ u. same t u ≡ false) (ahead b) → AllByRecursion (λ (u : Ticket). u.client ≡ t.client → u.index < t.index) (ahead b)
    → IsObject mine x b y g
    → IsObject (mine ++ t ∷ []) x (record b { tickets = b.tickets ++ t ∷ [] }) (record y { sent = put_at y.sent t []; got = put_at y.got t [] }) (record g { received = put_at g.received t []; way = put_at g.way t [] })
enter_ok mine x b y g t past_apart apart below k =
    let longer : ahead b ++ t ∷ [] ≡ serving b.handler ++ (b.tickets ++ t ∷ []) = append_assoc (serving b.handler) b.tickets (t ∷ []) in
    let in_serving = each_front (λ u. same t u ≡ false) (serving b.handler) b.tickets apart in
    let in_tickets = each_back (λ u. same t u ≡ false) (serving b.handler) b.tickets apart in
    record {
      split = ap (λ m. m ++ t ∷ []) k.split ∙ (append_assoc g.past (ahead b) (t ∷ []) ∙ ap (λ q. g.past ++ q) longer);
      served = past_same t y.sent (put_at y.sent t []) y.got (put_at y.got t []) (λ u n. (sym (put_at_there y.sent t [] u n), sym (put_at_there y.got t [] u n))) g.past x g.found past_apart k.served;
      free = k.free;
      opened = k.opened;
      sent = subst (AllByRecursion (λ u. put_at y.sent t [] u ≡ put_at g.received t [] u ++ put_at g.way t [] u)) longer
          (each_snoc (λ u. put_at y.sent t [] u ≡ put_at g.received t [] u ++ put_at g.way t [] u) (ahead b) t
          (each_both (λ u (n : same t u ≡ false) (h : y.sent u ≡ g.received u ++ g.way u). put_at_there y.sent t [] u n ∙ (h ∙ ap₂ (λ a b. a ++ b) (sym (put_at_there g.received t [] u n)) (sym (put_at_there g.way t [] u n)))) (ahead b) apart k.sent)
          (put_at_here y.sent t [] ∙ ap₂ (λ a b. a ++ b) (sym (put_at_here g.received t [])) (sym (put_at_here g.way t []))));
      lane = each_both (λ u (n : same t u ≡ false) (h : HandlerLane u false g.found (g.received u) (g.gave u) (stance b.handler g.lent)). subst (λ r. HandlerLane u false g.found r (g.gave u) (stance b.handler g.lent)) (sym (put_at_there g.received t [] u n)) h) (serving b.handler) in_serving k.lane;
      gots = each_both (λ (u : Ticket) (n : same t u ≡ false) (h : g.gave u ≡ y.got u ++ b.up u.client). h ∙ ap (λ q. q ++ b.up u.client) (sym (put_at_there y.got t [] u n))) (serving b.handler) in_serving k.gots;
      later = each_snoc (λ u. (put_at y.got t [] u ≡ []) × (put_at g.received t [] u ≡ [])) b.tickets t
          (each_both (λ u (n : same t u ≡ false) (h : (y.got u ≡ []) × (g.received u ≡ [])). (put_at_there y.got t [] u n ∙ h.0, put_at_there g.received t [] u n ∙ h.1)) b.tickets in_tickets k.later)
          (put_at_here y.got t [], put_at_here g.received t []);
      down = search (rules, k, flat_same, ahead, append-nil, put_at, filter, flat_map-append, filter-append);
      up = k.up;
      rising = subst Rising longer (rising_more (ahead b) t k.rising below);
    }
  where
    nothing : (c : ℕ) (b : Bool) → flat_map (put_at g.way t []) (if b then t ∷ [] else []) ≡ []
    nothing c v = search (rules, append-nil, put_at, put_at_here)

-- the newest ticket of a client is the last of its tickets there
pub last_of : (t : Ticket) (q : List Ticket) → Among t q → Rising q → AllByRecursion (λ (u : Ticket). t.client ≡ u.client → u.index < t.index ⊎ (t ≡ u)) q → LastOf t q
last_of t [] a r k = a
last_of t (u ∷ us) (inl is) r k = grind (arith, each_both, num_cases, k)
last_of t (u ∷ us) (inr a) r k =
    ⊎_elim
    (λ (is : t ≡ u). let l = each_at t us a r.0 (ap (λ (u : Ticket). u.client) (sym is)) in let i : t.index ≡ u.index = ap (λ (t : Ticket). t.index) is in absurd (omega (arith, l)))
    (λ (other : same t u ≡ false). inl (other, last_of t us a r.1 k.1))
    (ticket_cases t u)
  where
    each_at : (t : Ticket) (us : List Ticket) → Among t us → AllByRecursion (λ (v : Ticket). u.client ≡ v.client → u.index < v.index) us → u.client ≡ t.client → u.index < t.index
    each_at t [] a h e = absurd a
    each_at t (v ∷ vs) (inl is) h e = let l = h.0 (e ∙ ap (λ (t : Ticket). t.client) is) in let i : t.index ≡ v.index = ap (λ (t : Ticket). t.index) is in omega (arith, l)
    each_at t (v ∷ vs) (inr a) h e = each_at t vs a h.1 e

-- the ticket for which an object comes is the one that is served
pub up_serving : (mine : List Ticket) (x : HeldState) (b : ObjectView) (y : ClientLog) (g : HandlerLog) (t : Ticket) (o : HeldState) (os : List HeldState) → IsObject mine x b y g → b.up t.client ≡ o ∷ os
    → ((u : Ticket) → serving b.handler ≡ u ∷ [] → u.client ≡ t.client → (u ≡ t) ⊎ (y.stands u ≡ gone))
    → AllByRecursion (λ t. ClientLane t false (y.sent t) (y.got t) (y.events t) (y.stands t)) (ahead b)
    → serving b.handler ≡ t ∷ []
up_serving mine x b y g t o os k e older lanes' = by_case (serving b.handler) refl (shape b.handler)
  where
    shape : (s : Handler) → (serving s ≡ []) ⊎ ((u : Ticket) × (serving s ≡ u ∷ []))
    shape s = search rules

    nothing : (xs ys : List HeldState) → xs ≡ xs ++ ys → ys ≡ []
    nothing [] ys e = sym e
    nothing (z ∷ xs) ys e = nothing xs ys (cc)

    by_case : (q : List Ticket) → serving b.handler ≡ q → (serving b.handler ≡ []) ⊎ ((u : Ticket) × (serving b.handler ≡ u ∷ [])) → serving b.handler ≡ t ∷ []
    by_case q sq given = search (rules, stance, gone_got, nothing, num_cases)
