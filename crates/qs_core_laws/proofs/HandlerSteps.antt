-- Each step of a handler keeps the invariant of the optimised machine. The proof that every step does (`CoreSteps`)
-- stands on it. A handler's step moves one object's view along the lane of the ticket that is served, and nothing else
-- changes; what lies first in that lane is of this ticket and may come, by cases on the parcel.
use Rattle.std.proofs.Common.{◌≡◌, ◌≤◌, arith, ℕ, suc, true, false, ◌==◌, List, [], ◌∷◌, ◌++◌, filter, flat_map, refl, sym, ap, ◌∙◌, subst, Option, Some, None, rules}
use Rattle.qs_played.proofs.Names.{AllByRecursion, fun_ext, HeldState, Ticket, num_cases, put, each_map, each_back, each_kept, each_passes, put_here, put_there, reserves, ProgramShape, fresh_held}
use Rattle.qs_core_laws.proofs.Names.{ran_all, Parcel, Handler, free, serves, spares, gives, away, accept_parcel, serving, put_at, put_field, each_among, Core, put_lane}
use Rattle.qs_chunk.specs.LaneViews as views
use Rattle.qs_chunk.specs.declared.parcel.Parcel.TheVariants as parcels
use Rattle.qs_core_laws.proofs.protocol.ObjectViews.{stance, as_list, ObjectView, HandlerLog, ahead, IsObject, IsClientLog}
use Rattle.qs_core_laws.proofs.protocol.LaneMoves.{HandlerGoes, handler_work, handler_sync, handler_home}
use Rattle.qs_core_laws.proofs.protocol.LaneWays.{MayCome}
use Rattle.qs_core_laws.proofs.protocol.ObjectSteps.{take_ok, give_ok, spare_ok, way_head, may_come, parcel_on, parcel_end}
use Rattle.qs_core_laws.proofs.CoreInvariant.{LaneHistory, post, deeds, TicketOk, CoreInvariant}

pub put_lane_at : {A : Type 0} (f : ℕ → ℕ → A) (c h : ℕ) (a : A) (d : ℕ) → put_lane f c h a d h ≡ put (λ c. f c h) c a d
put_lane_at f c h a d = search (rules, put_here, put_there, num_cases)

pub put_lane_there : {A : Type 0} (f : ℕ → ℕ → A) (c h : ℕ) (a : A) (d g : ℕ) → (h == g) ≡ false → put_lane f c h a d g ≡ f d g
put_lane_there f c h a d g n = search (rules, put_here, put_there, num_cases)

-- of what lies on the way up
pub put_up_at : (f : ℕ → ℕ → Option HeldState) (c h : ℕ) (o : Option HeldState) (d : ℕ) → as_list (put_lane f c h o d h) ≡ put (λ c. as_list (f c h)) c (as_list o) d
put_up_at f c h o d = ap as_list (put_lane_at f c h o d) ∙ put_field as_list (λ c. f c h) (λ c. as_list (f c h)) c o (as_list o) (λ m. refl) refl d

pub put_up_there : (f : ℕ → ℕ → Option HeldState) (c h : ℕ) (o : Option HeldState) (d g : ℕ) → (h == g) ≡ false → as_list (put_lane f c h o d g) ≡ as_list (f d g)
put_up_there f c h o d g other = ap as_list (put_lane_there f c h o d g other)

pub post_path : (a b : ObjectView) → a.handler ≡ b.handler → a.tickets ≡ b.tickets → a.down ≡ b.down → a.up ≡ b.up → a ≡ b
post_path a b p q r u = λ i. record { handler = p i; tickets = q i; down = r i; up = u i }

pub some_is : {A : Type 0} (a b : A) → Some a ≡ Some b → a ≡ b
some_is a b e = cc

module _ (program : ProgramShape) (s : Core) (y : LaneHistory) (g : ℕ → HandlerLog) (k : CoreInvariant program s y g) where
  abbrev Mine : ℕ → List Ticket
  Mine h = filter (λ t. reserves program t h) s.order

  -- a step at one object that no client makes
  at_post : (handler : ℕ → Handler) (tickets : ℕ → List Ticket) (down : ℕ → ℕ → List Parcel) (up : ℕ → ℕ → Option HeldState) (spare : ℕ → ℕ → ℕ) (h : ℕ) (b : ObjectView) (new : HandlerLog)
      → post (record s { handler = handler; tickets = tickets; down = down; up = up; spare = spare }) h ≡ b
      → ((j : ℕ) → (h == j) ≡ false → post (record s { handler = handler; tickets = tickets; down = down; up = up; spare = spare }) j ≡ post s j)
      → IsObject (Mine h) (fresh_held program h) b (deeds y h) new
      → CoreInvariant program (record s { handler = handler; tickets = tickets; down = down; up = up; spare = spare }) y (put g h new)
  at_post handler tickets down up spare h b new e out ok = search (rules, post, deeds, put_here, put_there, num_cases)

  pub take_kept : (h : ℕ) (z : HeldState) (t : Ticket) (ts : List Ticket) → s.handler h ≡ free z → s.tickets h ≡ t ∷ ts
      → CoreInvariant program (record s { tickets = put s.tickets h ts; handler = put s.handler h (serves t z) }) y (put g h (record (g h) { gave = put_at (g h).gave t [] }))
  take_kept h z t ts e q =
      at_post (put s.handler h (serves t z)) (put s.tickets h ts) s.down s.up s.spare h (record (post s h) { handler = serves t z; tickets = ts }) (record (g h) { gave = put_at (g h).gave t [] })
      (post_path _ _ (put_here s.handler h (serves t z)) (put_here s.tickets h ts) refl refl)
      (λ j other. post_path _ _ (put_there s.handler h (serves t z) j other) (put_there s.tickets h ts j other) refl refl)
      (take_ok (Mine h) (fresh_held program h) (post s h) (deeds y h) (g h) z t ts e q (k.objects h))

  -- what holds of each ticket of the order holds of each before the handler
  pub of_ahead : (P : Ticket → Type 0) (h : ℕ) → AllByRecursion P s.order → AllByRecursion P (ahead (post s h))
  of_ahead P h all = each_back P (g h).past (ahead (post s h)) (subst (AllByRecursion P) (k.objects h).split (each_kept P (λ t. reserves program t h) s.order all))

  pub may_ahead : (h : ℕ) → AllByRecursion (λ u. reserves program u h ≡ true) (ahead (post s h))
  may_ahead h = each_back (λ u. reserves program u h ≡ true) (g h).past (ahead (post s h)) (subst (AllByRecursion (λ u. reserves program u h ≡ true)) (k.objects h).split (each_passes (λ u. reserves program u h) s.order))

  pub deeds_ok : (h : ℕ) → IsClientLog (ahead (post s h)) (deeds y h)
  deeds_ok h = record {
    lane = each_map (λ t (tickets_ok : TicketOk program y t). tickets_ok.lane h) (ahead (post s h)) (of_ahead (TicketOk program y) h k.tickets_ok);
    older = λ t u in_t in_u same_client less.
        let m = each_among (λ u. reserves program u h ≡ true) t (ahead (post s h)) (may_ahead h) in_t in
        let b : suc u.index ≤ (s.client u.client).begun = each_among (λ (t : Ticket). suc t.index ≤ (s.client t.client).begun) u (ahead (post s h)) (of_ahead (λ (t : Ticket). suc t.index ≤ (s.client t.client).begun) h k.below) in_u in
        let b' : suc u.index ≤ (s.client t.client).begun = subst (λ c. suc u.index ≤ (s.client c).begun) (sym same_client) b in
        k.older t.client t.index (omega arith) h m;
  }

  -- a parcel after which the ticket is served on
  on_kept : (h : ℕ) (v : Handler) (t : Ticket) (p : Parcel) (ps w : List Parcel) → (one : serving (s.handler h) ≡ t ∷ []) → serving v ≡ t ∷ [] → (g h).way t ≡ p ∷ w
      → ps ≡ w ++ flat_map (g h).way (filter (λ (u : Ticket). u.client == t.client) (s.tickets h)) → HandlerGoes t (stance (s.handler h) (g h).lent) (p ∷ []) [] (stance v (g h).lent)
      → (g' : ℕ → HandlerLog) × CoreInvariant program (record s { down = put_lane s.down t.client h ps; handler = put s.handler h v }) y g'
  on_kept h v t p ps w one one' e i goes =
      let new : HandlerLog = record (g h) { received = put_at (g h).received t ((g h).received t ++ p ∷ []); way = put_at (g h).way t w } in (
        put g h new,
        at_post (put s.handler h v) s.tickets (put_lane s.down t.client h ps) s.up s.spare h (record (post s h) { handler = v; down = put (λ c. s.down c h) t.client ps }) new
            (post_path _ _ (put_here s.handler h v) refl (fun_ext (put_lane_at s.down t.client h ps)) refl)
            (λ j other. post_path _ _ (put_there s.handler h v j other) refl (fun_ext (λ d. put_lane_there s.down t.client h ps d j other)) refl)
            (parcel_on (Mine h) (fresh_held program h) (post s h) (deeds y h) (g h) t one (k.objects h) (deeds_ok h) v p ps w one' e i goes),
      )

  serves_not_over : (z v : HeldState) → views.serves z ≡ views.over v → ⊥
  serves_not_over z v e = cc

  lent_not_over : (z v : HeldState) → views.lent z ≡ views.over v → ⊥
  lent_not_over z v e = cc

  -- with the parcel that was taken, and this handler after it
  abbrev Takes : ℕ → ℕ → List Parcel → Handler → Type 0
  Takes h c ps v = (g' : ℕ → HandlerLog) × CoreInvariant program (record s { down = put_lane s.down c h ps; handler = put s.handler h v }) y g'

  -- what is first in the lane is of the ticket that is served, and may come
  first_comes : (h : ℕ) (t : Ticket) (p : Parcel) (ps : List Parcel) → (one : serving (s.handler h) ≡ t ∷ []) → s.down t.client h ≡ p ∷ ps → ((v : HeldState) → stance (s.handler h) (g h).lent ≡ views.over v → ⊥)
      → (w : List Parcel) × ((g h).way t ≡ p ∷ w) × (ps ≡ w ++ flat_map (g h).way (filter (λ (u : Ticket). u.client == t.client) (s.tickets h))) × MayCome (stance (s.handler h) (g h).lent) p w
  first_comes h t p ps one d not_over =
      let head = way_head (Mine h) (fresh_held program h) (post s h) (deeds y h) (g h) t one (k.objects h) (deeds_ok h) p ps d not_over in
      (head.0, head.1, head.2, may_come (Mine h) (fresh_held program h) (post s h) (deeds y h) (g h) t one (k.objects h) (deeds_ok h) p head.0 head.1)

  pub serves_first : (h : ℕ) (t : Ticket) (z : HeldState) (p : Parcel) (ps : List Parcel) → s.handler h ≡ serves t z → s.down t.client h ≡ p ∷ ps
      → (w : List Parcel) × ((g h).way t ≡ p ∷ w) × (ps ≡ w ++ flat_map (g h).way (filter (λ (u : Ticket). u.client == t.client) (s.tickets h))) × MayCome (views.serves z) p w
  serves_first h t z p ps e d = search (rules, stance, first_comes, serves_not_over)

  pub away_first : (h : ℕ) (t : Ticket) (p : Parcel) (ps : List Parcel) → s.handler h ≡ away t → s.down t.client h ≡ p ∷ ps
      → (w : List Parcel) × ((g h).way t ≡ p ∷ w) × (ps ≡ w ++ flat_map (g h).way (filter (λ (u : Ticket). u.client == t.client) (s.tickets h))) × MayCome (views.lent (g h).lent) p w
  away_first h t p ps e d = search (rules, stance, first_comes, lent_not_over)

  pub serves_kept : (h : ℕ) (t : Ticket) (z : HeldState) (p : Parcel) (ps : List Parcel) (v : Handler) → s.handler h ≡ serves t z → s.down t.client h ≡ p ∷ ps
      → accept_parcel (serves t z) p ≡ Some v → Takes h t.client ps v
  serves_kept h t z p ps v e d r =
      let f = serves_first h t z p ps e d in
      by_parcel p f.0 (ap serving e) (ap (λ v. stance v (g h).lent) e) f.1 f.2 f.3 r
    where
      by_parcel : (p : Parcel) (w : List Parcel) → (one : serving (s.handler h) ≡ t ∷ []) → stance (s.handler h) (g h).lent ≡ views.serves z → (g h).way t ≡ p ∷ w → ps ≡ w ++ flat_map (g h).way (filter (λ (u : Ticket). u.client == t.client) (s.tickets h)) → MayCome (views.serves z) p w
          → accept_parcel (serves t z) p ≡ Some v → Takes h t.client ps v
      by_parcel (parcels.Work chunk) w one st a i come r =
          subst (Takes h t.client ps) (some_is _ v r)
          (on_kept h (spares t (ran_all z t chunk.items) chunk.capacity) t (parcels.Work chunk) ps w one refl a i (subst (λ v. HandlerGoes t v (parcels.Work chunk ∷ []) [] (views.serves (ran_all z t chunk.items))) (sym st) (handler_work t z chunk)))
      by_parcel parcels.Sync w one st a i come r =
          subst (Takes h t.client ps) (some_is _ v r)
          (on_kept h (gives t z) t parcels.Sync ps w one refl a i (subst (λ v. HandlerGoes t v (parcels.Sync ∷ []) [] (views.gives z)) (sym st) (handler_sync t z)))
      by_parcel (parcels.Home x) w one st a i come r = absurd come
      by_parcel parcels.End w one st a i come r =
          let new : HandlerLog = record (g h) { past = (g h).past ++ t ∷ []; found = z } in
          subst (Takes h t.client ps) (some_is _ v r) (
            put g h new,
            at_post (put s.handler h (free z)) s.tickets (put_lane s.down t.client h ps) s.up s.spare h (record (post s h) { handler = free z; down = put (λ c. s.down c h) t.client ps }) new
                (post_path _ _ (put_here s.handler h (free z)) refl (fun_ext (put_lane_at s.down t.client h ps)) refl)
                (λ j other. post_path _ _ (put_there s.handler h (free z) j other) refl (fun_ext (λ d. put_lane_there s.down t.client h ps d j other)) refl)
                (parcel_end (Mine h) (fresh_held program h) (post s h) (deeds y h) (g h) t one (k.objects h) (deeds_ok h) z ps e (a ∙ ap (λ w. parcels.End ∷ w) come) (i ∙ ap (λ w. w ++ flat_map (g h).way (filter (λ (u : Ticket). u.client == t.client) (s.tickets h))) come)),
          )

  pub away_kept : (h : ℕ) (t : Ticket) (p : Parcel) (ps : List Parcel) (v : Handler) → s.handler h ≡ away t → s.down t.client h ≡ p ∷ ps → accept_parcel (away t) p ≡ Some v → Takes h t.client ps v
  away_kept h t p ps v e d r =
      let f = away_first h t p ps e d in
      by_parcel p f.0 (ap serving e) (ap (λ v. stance v (g h).lent) e) f.1 f.2 f.3 r
    where
      by_parcel : (p : Parcel) (w : List Parcel) → (one : serving (s.handler h) ≡ t ∷ []) → stance (s.handler h) (g h).lent ≡ views.lent (g h).lent → (g h).way t ≡ p ∷ w → ps ≡ w ++ flat_map (g h).way (filter (λ (u : Ticket). u.client == t.client) (s.tickets h)) → MayCome (views.lent (g h).lent) p w
          → accept_parcel (away t) p ≡ Some v → Takes h t.client ps v
      by_parcel (parcels.Home x) w one st a i come r =
          subst (Takes h t.client ps) (some_is _ v r)
          (on_kept h (serves t x) t (parcels.Home x) ps w one refl a i (subst (λ v. HandlerGoes t v (parcels.Home x ∷ []) [] (views.serves x)) (sym st) (handler_home t (g h).lent x)))
      by_parcel _ w one st a i come r = absurd come

  pub give_kept : (h : ℕ) (t : Ticket) (z : HeldState) → s.handler h ≡ gives t z → s.up t.client h ≡ None
      → (g' : ℕ → HandlerLog) × CoreInvariant program (record s { up = put_lane s.up t.client h (Some z); handler = put s.handler h (away t) }) y g'
  give_kept h t z e n =
      let new : HandlerLog = record (g h) { gave = put_at (g h).gave t ((g h).gave t ++ z ∷ []); lent = z } in (
        put g h new,
        at_post (put s.handler h (away t)) s.tickets s.down (put_lane s.up t.client h (Some z)) s.spare h (record (post s h) { handler = away t; up = put (λ c. as_list (s.up c h)) t.client (z ∷ []) }) new
            (post_path _ _ (put_here s.handler h (away t)) refl refl (fun_ext (put_up_at s.up t.client h (Some z))))
            (λ j other. post_path _ _ (put_there s.handler h (away t) j other) refl refl (fun_ext (λ d. put_up_there s.up t.client h (Some z) d j other)))
            (give_ok (Mine h) (fresh_held program h) (post s h) (deeds y h) (g h) t z e (ap as_list n) (k.objects h)),
      )

  pub spare_kept : (h : ℕ) (t : Ticket) (z : HeldState) (n : ℕ) (spare : ℕ → ℕ → ℕ) → s.handler h ≡ spares t z n
      → (g' : ℕ → HandlerLog) × CoreInvariant program (record s { spare = spare; handler = put s.handler h (serves t z) }) y g'
  spare_kept h t z n spare e = (
    put g h (g h),
    at_post (put s.handler h (serves t z)) s.tickets s.down s.up spare h (record (post s h) { handler = serves t z }) (g h)
        (post_path _ _ (put_here s.handler h (serves t z)) refl refl refl)
        (λ j other. post_path _ _ (put_there s.handler h (serves t z) j other) refl refl refl)
        (spare_ok (Mine h) (fresh_held program h) (post s h) (deeds y h) (g h) t z n e (k.objects h)),
  )
