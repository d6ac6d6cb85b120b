-- Each object can be found in each state that the optimised machine comes to: its handler has it, or it lies in a lane,
-- or the client to which it was given has it. The states that a run shows are taken from there, and isolation speaks of
-- them. Where the handler gave the object away, both ends of the lane are compared, by induction on what the handler
-- received.
use Rattle.std.proofs.Common.{◌≡◌, ◌≤◌, ℕ, suc, Bool, true, false, true≢false, if◌then◌else◌, ◌==◌, ◌&&◌, List, [], ◌∷◌, ◌++◌, filter, flat_map, refl, sym, ap, ap₂, ◌∙◌, subst, ◌⊎◌, inl, inr, Option, Some, None, rules, arith}
use Rattle.qs_played.proofs.Names.{AllByRecursion, HeldState, part, Event, Ticket, Request, eqb_self, apart_eqb, num_cases, reserves, ProgramShape}
use Rattle.qs_chunk.specs.LaneViews.{ObjectStance, sends, asks, holds, gone, ClientLane, HandlerLane, HandlerGives, object_of}
use Rattle.qs_core_laws.proofs.Names.{Parcel, away_at, Handler, free, serves, spares, gives, away, closed, serving, Client, ClientStage, Core, found_by}
use Rattle.qs_chunk.specs.LaneViews as views
use Rattle.qs_chunk.specs.declared.parcel.Parcel.TheVariants as parcels
use Rattle.qs_core_laws.proofs.protocol.ObjectViews.{stance, as_list, HandlerLog, ahead}
use Rattle.qs_core_laws.proofs.protocol.ClientInvariants.{in_hand, objects_of_block, Lined, standing_at}
use Rattle.qs_core_laws.proofs.protocol.LaneWays.{LastOf, none_of}
use Rattle.qs_core_laws.proofs.CoreInvariant.{LaneHistory, post, CoreInvariant}
use Rattle.qs_core_laws.proofs.HandlerSteps.{deeds_ok, of_ahead, may_ahead}
use Rattle.qs_core_laws.proofs.SendingPreserved.{newest}

-- where an object is that was given: on its way up, in hand, or on its way home
abbrev pub Where : List Parcel → List HeldState → ObjectStance → HeldState → Type 0
Where way up c z = ((way ≡ []) × (up ≡ z ∷ []) × (c ≡ asks)) ⊎ (((way ≡ []) × (up ≡ []) × ((y : HeldState) × (c ≡ holds y))) ⊎ ((y : HeldState) × (w : List Parcel) × (way ≡ parcels.Home y ∷ w) × (up ≡ [])))

pub list_some : (o : Option HeldState) (x : HeldState) → as_list o ≡ x ∷ [] → o ≡ Some x
list_some v x e = search rules

pub list_none : (o : Option HeldState) → as_list o ≡ [] → o ≡ None
list_none v e = search rules

tail_is : (a b : HeldState) (xs ys : List HeldState) → a ∷ xs ≡ b ∷ ys → xs ≡ ys
tail_is a b xs ys e = cc

no_more : (more up : List HeldState) → [] ≡ more ++ up → up ≡ []
no_more [] up e = sym e
no_more (m ∷ more) up e = absurd (cc)

waits_where : (t : Ticket) (x z : HeldState) (way : List Parcel) (gots gave up : List HeldState) (es : List Event) (c : ObjectStance)
    → ClientLane t true way gots es c → HandlerGives x gave (views.lent z) → gave ≡ gots ++ up → Where way up c z
waits_where t x z way gots gave up es c k l e = search (rules, no_more, tail_is)

pub lent_where : (t : Ticket) (x z : HeldState) (received way : List Parcel) (gots gave up : List HeldState) (es : List Event) (c : ObjectStance)
    → ClientLane t false (received ++ way) gots es c → HandlerLane t false x received gave (views.lent z) → gave ≡ gots ++ up → Where way up c z
lent_where t x z [] way gots gave up es c k l e = absurd (cc (l.1))
lent_where t x z (parcels.Work chunk ∷ received) way gots gave up es c k l e = lent_where t _ z received way gots gave up k.0 c k.3 l e
lent_where t x z (parcels.End ∷ received) way gots gave up es c k l e = absurd (cc (l.2))
lent_where t x z (parcels.Sync ∷ []) way gots gave up es c k l e = waits_where t x z way gots gave up es c k l e
lent_where t x z (parcels.Sync ∷ (parcels.Home y ∷ received)) way gots gave up es c k l e = search (rules, k, tail_is, lent_where t y z received way k.1 l.0 up k.3 c k.7 l.2 (tail_is x k.0 l.0 (k.1 ++ up) (sym l.1 ∙ (e ∙ ap (λ gs. gs ++ up) k.4))))
lent_where t x z (_ ∷ _) way gots gave up es c k l e = absurd k

hand_holds : (o : Option HeldState) (c : Option (List Request)) (y : HeldState) → in_hand o c ≡ holds y → o ≡ Some y
hand_holds v c y e = search rules

awaits_holds : (b : Bool) (o : Option HeldState) (c : Option (List Request)) (y : HeldState) → (if b then asks else in_hand o c) ≡ holds y → o ≡ Some y
awaits_holds v o c y e = search (rules, hand_holds)

gone_holds : (b : Bool) (y : HeldState) → (if b then gone else sends []) ≡ holds y → ⊥
gone_holds v y e = search rules

leaves_holds : (a b : Bool) (o : Option HeldState) (c : Option (List Request)) (y : HeldState) → (if a then in_hand o c else (if b then gone else sends [])) ≡ holds y → o ≡ Some y
leaves_holds v b o c y e = search (rules, hand_holds, gone_holds)

place_holds : (program : ProgramShape) (t : Ticket) (m : Client) (pl : ClientStage) (h : ℕ) (y : HeldState) → standing_at program t m pl h ≡ holds y → m.held h ≡ Some y
place_holds program t m pl h y e = search (rules, gone_holds, awaits_holds, leaves_holds, hand_holds)

-- the object, wherever it is, where the handler gave `lent` last
abbrev pub object_now : LaneHistory → ℕ → Handler → HeldState → (Ticket → List Parcel) → HeldState
object_now y h (free x) lent way = x
object_now y h (serves t x) lent way = x
object_now y h (spares t x n) lent way = x
object_now y h (gives t x) lent way = x
object_now y h (away t) lent way = object_of (views.lent lent) (y.stands t h) (way t)
object_now y h (closed x) lent way = x

module _ (program : ProgramShape) (lined : (t : Ticket) → Lined (reserves program t) (objects_of_block program t)) (s : Core) (y : LaneHistory) (g : ℕ → HandlerLog) (k : CoreInvariant program s y g) where
  abbrev pub now : ℕ → HeldState
  now h = object_now y h (s.handler h) (g h).lent (g h).way

  -- who holds an object is in its client's last block
  in_block : (t : Ticket) (h : ℕ) → reserves program t h ≡ true → suc t.index ≤ (s.client t.client).begun → (y.stands t h ≡ gone → ⊥) → (s.client t.client).begun ≡ suc t.index
  in_block t h m lt non = search (rules, apart_eqb, num_cases)

  away_found : (h : ℕ) (t : Ticket) → s.handler h ≡ away t → away_at (s.up t.client h) (s.down t.client h) ((s.client t.client).held h) ≡ Some (object_now y h (away t) (g h).lent (g h).way)
  away_found h t v =
      let o = k.objects h in
      let one : serving (s.handler h) ≡ t ∷ [] = ap serving v in
      let here : ahead (post s h) ≡ t ∷ s.tickets h = ap (λ q. q ++ s.tickets h) one in
      let sent = (subst (AllByRecursion (λ t. y.sent t h ≡ (g h).received t ++ (g h).way t)) here o.sent).0 in
      let lane = (subst (AllByRecursion (λ t. HandlerLane t false (g h).found ((g h).received t) ((g h).gave t) (stance (s.handler h) (g h).lent))) one o.lane).0 in
      let lane' = subst (λ v. HandlerLane t false (g h).found ((g h).received t) ((g h).gave t) (stance v (g h).lent)) v lane in
      let gots = (subst (AllByRecursion (λ (t : Ticket). (g h).gave t ≡ y.got t h ++ as_list (s.up t.client h))) one o.gots).0 in
      let client = (subst (AllByRecursion (λ t. ClientLane t false (y.sent t h) (y.got t h) (part h (y.block_record t).trace) (y.stands t h))) here (deeds_ok program s y g k h).lane).0 in
      let m = (subst (AllByRecursion (λ u. reserves program u h ≡ true)) here (may_ahead program s y g k h)).0 in
      let lt = (subst (AllByRecursion (λ (u : Ticket). suc u.index ≤ (s.client u.client).begun)) here (of_ahead program s y g k (λ (u : Ticket). suc u.index ≤ (s.client u.client).begun) h k.below)).0 in
      let down : s.down t.client h ≡ (g h).way t ++ flat_map (g h).way (filter (λ (u : Ticket). u.client == t.client) (s.tickets h)) = o.down t.client ∙ (ap (λ q. flat_map (g h).way (filter (λ (u : Ticket). u.client == t.client) q)) here ∙ first) in
      by_case t m lt down (λ b e. subst (LastOf t) here (newest program lined (record { dynamic = false; size = 0 }) 0 s y g k t.client t.index h b m e))
      (lent_where t (g h).found (g h).lent ((g h).received t) ((g h).way t) (y.got t h) ((g h).gave t) (as_list (s.up t.client h)) (part h (y.block_record t).trace) (y.stands t h)
      (subst (λ ps. ClientLane t false ps (y.got t h) (part h (y.block_record t).trace) (y.stands t h)) sent client) lane' gots)
    where
      first : flat_map (g h).way (filter (λ (u : Ticket). u.client == t.client) (t ∷ s.tickets h)) ≡ (g h).way t ++ flat_map (g h).way (filter (λ (u : Ticket). u.client == t.client) (s.tickets h))
      first = rw (eqb_self t.client) refl

      holds_gone : (z : HeldState) → holds z ≡ gone → ⊥
      holds_gone z e = cc

      same_no : (t : Ticket) (us : List Ticket) → LastOf t (t ∷ us) → AllByRecursion (λ (v : Ticket). (v.client == t.client) ≡ false) us
      same_no t us v = search (rules, true≢false, eqb_self)

      by_case : (t : Ticket) → reserves program t h ≡ true → suc t.index ≤ (s.client t.client).begun
          → s.down t.client h ≡ (g h).way t ++ flat_map (g h).way (filter (λ (u : Ticket). u.client == t.client) (s.tickets h))
          → ((s.client t.client).begun ≡ suc t.index → (y.stands t h ≡ gone → ⊥) → LastOf t (t ∷ s.tickets h))
          → Where ((g h).way t) (as_list (s.up t.client h)) (y.stands t h) (g h).lent
          → away_at (s.up t.client h) (s.down t.client h) ((s.client t.client).held h) ≡ Some (object_of (views.lent (g h).lent) (y.stands t h) ((g h).way t))
      by_case t m lt down last given = search (rules, list_some, holds_gone, in_block, place_holds, none_of, same_no, list_none)

  is_found : (h : ℕ) (v : Handler) → s.handler h ≡ v → found_by s h v ≡ Some (object_now y h v (g h).lent (g h).way)
  is_found h v e = search (rules, away_found)

  -- the object that the run shows
  pub object_found : (h : ℕ) → found_by s h (s.handler h) ≡ Some (now h)
  object_found h = is_found h (s.handler h) refl
