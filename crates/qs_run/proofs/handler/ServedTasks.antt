-- What each act of a handler's thread keeps: its tasks grow by one, and its ends of lanes and of its queue show it.
use Rattle.std.proofs.Common.{◌≡◌, ◌<◌, ◌≤◌, ◌+◌, ◌⊎◌, arith, ℕ, true, false, true≢false, ◌==◌, List, [], ◌∷◌, ◌++◌, length, refl, sym, ap, ◌∙◌, subst, inl, inr, append-nil, Option, Some, None, rules}
use Rattle.qs_run.proofs.Names.{AllByRecursion, Batch, HasServed, HeldState, InView, IsAllServed, IsFor, IsFresh, IsServing, IsSome, IsTrue, MayFollow, Next, Parcel, ProgramShape, Request}
use Rattle.qs_run.proofs.Names.{Task, TasksLead, Ticket, TicketsView, apart_eqb, batch, each_snoc, eqb_self, get_or-set_other, given_to, in_lane_at, is_asked, is_away, may_stand}
use Rattle.qs_run.proofs.Names.{most_clients, num_cases, parcels_stand, received_from, reserves, serving, slice_set, syncs, taken_by, tickets_are_asked_for}
use Rattle.qs_objects.specs.declared.held.Next.TheVariants as nexts
use Rattle.qs_handler.specs.audit.Handler.{Handler, free, spares, gives, closed, act_of, gave, accept_parcel, accept_next}
use Rattle.qs_handler.specs.HandlerLanes.{HandlerFitsLane}
use Rattle.qs_handler.specs.audit.HandlerRuns as tasks
use Rattle.qs_handler.specs.declared.mind.Act.TheVariants as acts
use Rattle.qs_handler.specs.declared.mind.Act.{Act}
use Rattle.qs_handler.proofs.LaneTurns.{handler_lane_laws}
use Rattle.qs_handler.proofs.Runs.{handler_run_laws}
use Rattle.qs_run.proofs.ListPlaces.{set_here, some_there}
use Rattle.qs_run.proofs.handler.Tasks.{given_more, received_more, spared_more, taken_more, tasks_lead}

-- where there was a lane there is one
still_there : (c : ℕ) (done : List Task) (a b : Option InView) → HasServed c done a b → IsSome a → IsSome b
still_there c done v b served some = search (rules, true≢false)

-- another task says nothing of this lane
unchanged : (c : ℕ) (done : List Task) (d : Task) (a b : Option InView) → received_from c (d ∷ []) ≡ [] → given_to c (d ∷ []) ≡ []
    → HasServed c done a b → HasServed c (done ++ d ∷ []) a b
unchanged c done d v w u z served = grind (arith, received_more, append-nil, given_more, spared_more)

-- what a task adds to what is known of its own lane
received_here : (c : ℕ) (done : List Task) (parcel : Parcel) (start : Option InView) (lane : InView) → HasServed c done start (Some lane)
    → MayFollow lane.size (is_asked false lane.received) parcel
    → HasServed c (done ++ tasks.receives c parcel ∷ []) start (Some (record lane { received = lane.received ++ parcel ∷ [] }))
received_here c done parcel v lane served follows = grind (arith, tasks.receives, received_more, eqb_self, given_more, append-nil, each_snoc, spared_more)

given_here : (c : ℕ) (done : List Task) (y : HeldState) (start : Option InView) (lane : InView) → HasServed c done start (Some lane)
    → HasServed c (done ++ tasks.gives c y ∷ []) start (Some (record lane { given = lane.given ++ y ∷ [] }))
given_here c done y v lane served = grind (arith, tasks.gives, given_more, eqb_self, received_more, append-nil, spared_more)

spared_here : (c : ℕ) (done : List Task) (chunk : Batch Request) (start : Option InView) (lane : InView) → HasServed c done start (Some lane)
    → HasServed c (done ++ tasks.spares c chunk ∷ []) start (Some (record lane { spared = lane.spared + 1 }))
spared_here c done chunk v lane served = grind (arith, tasks.spares, received_more, append-nil, given_more, spared_more, eqb_self)

module _ (start lanes lanes' : List (Option InView)) (done : List Task) (c : ℕ) (lane : InView)
    (ends : (a : ℕ) → HasServed a done (in_lane_at start a) (in_lane_at lanes a)) (is : in_lane_at lanes c ≡ Some lane) where
  -- all ends after a task that shows at the lane from client c alone
  at_one_lane : (d : Task) (new : InView) → lanes' ≡ slice_set lanes c (Some new) → HasServed c (done ++ d ∷ []) (in_lane_at start c) (Some new)
      → ((a : ℕ) → (c == a) ≡ false → (received_from a (d ∷ []) ≡ []) × (given_to a (d ∷ []) ≡ []))
      → (a : ℕ) → HasServed a (done ++ d ∷ []) (in_lane_at start a) (in_lane_at lanes' a)
  at_one_lane d new put here others a = search (rules, set_here, get_or-set_other, apart_eqb, unchanged, num_cases)

  -- all ends after a chunk was given back, or was not needed
  at_spared : (chunk : Batch Request) → (lanes' ≡ slice_set lanes c (Some (record lane { spared = lane.spared + 1 }))) ⊎ (lanes' ≡ lanes)
      → HasServed c done (in_lane_at start c) (Some lane) → (a : ℕ) → HasServed a (done ++ tasks.spares c chunk ∷ []) (in_lane_at start a) (in_lane_at lanes' a)
  at_spared chunk (inl put) here a = at_one_lane (tasks.spares c chunk) (record lane { spared = lane.spared + 1 }) put (spared_here c done chunk (in_lane_at start c) lane here) (λ a other. (refl, refl)) a
  at_spared chunk (inr same) here a = search (rules, unchanged)

-- a handler fits its lane
fits : (c : ℕ) (x : HeldState) (done : List Task) (m : Handler) (start : Option InView) (lane : InView) → TasksLead (free x) done m → HasServed c done start (Some lane)
    → HandlerFitsLane lane.size c m lane.received lane.given
fits c x done m None lane lead served = absurd served
fits c x done m (Some was) lane lead served =
    subst (λ (q : ℕ × (List Parcel × List HeldState)). HandlerFitsLane q.0 c m q.1.0 q.1.1) (λ i. (sym served.1 i, (sym served.2 i, sym served.3 i)))
    (handler_run_laws.lanes was.size c x done m lead served.4)

-- what a handler that does this serves
record Serves (m : Handler) (c : ℕ) : Type 0 where
  pub ticket : Ticket
  pub own : serving m ≡ ticket ∷ []
  pub client : ticket.client ≡ c

-- the client whose lane an act uses
abbrev pub client_of : Act → Option ℕ
client_of (acts.TakeParcel c) = Some c
client_of (acts.Give c y) = Some c
client_of (acts.Spare c b) = Some c
client_of _ = None

serves_client : (m : Handler) (c : ℕ) → client_of (act_of m) ≡ Some c → Serves m c
serves_client v c e = search rules

-- what is served stays, or is over
serving_gave : (P : Ticket → Type 0) (m : Handler) → AllByRecursion P (serving m) → AllByRecursion P (serving (gave m))
serving_gave P v all = search rules

serving_received : (P : Ticket → Type 0) (m m' : Handler) (parcel : Parcel) → accept_parcel m parcel ≡ Some m' → AllByRecursion P (serving m) → AllByRecursion P (serving m')
serving_received P v m' w e all = search rules

module _ (p : ProgramShape) (h : ℕ) where
  serving_taken : (m m' : Handler) (next : Next) → accept_next m next ≡ Some m' → IsFor p h next → AllByRecursion (λ t. reserves p t h ≡ true) (serving m')
  serving_taken v m' next e own = search rules

  module _ (x : HeldState) (start : List (Option InView)) where
    -- what the thread has done so far, whatever it was
    abbrev pub HasTasks : Handler → TicketsView → List (Option InView) → Type 0
    HasTasks m tickets lanes = (done : List Task) × IsServing p h x start done m tickets lanes

    -- before its first ticket
    pub begins : (m : Handler) (tickets : TicketsView) → m ≡ free x → tickets.handler ≡ h → tickets.taken ≡ [] → ((c : ℕ) → IsFresh (in_lane_at start c))
        → HasTasks m tickets start
    begins m tickets is handler none fresh = grind arith

    -- the act of a handler that takes a ticket, and its ends after it
    pub took_ticket : (m n m' : Handler) (next : Next) (tickets tickets' : TicketsView) (lanes : List (Option InView)) → HasTasks m tickets lanes
        → n ≡ gave m → act_of m ≡ acts.TakeTicket → accept_next n next ≡ Some m' → IsFor p tickets.handler next
        → tickets' ≡ record { handler = tickets.handler; taken = tickets.taken ++ next ∷ [] } → HasTasks m' tickets' lanes
    took_ticket m n m' next tickets tickets' lanes k at asks takes own more =
        let done = k.0 in
        let same : gave m ≡ m = (tickets_are_asked_for m next).1 asks in
        let here : accept_next m next ≡ Some m' = ap (λ m. accept_next m next) (sym (at ∙ same)) ∙ takes in (
          done ++ tasks.takes next ∷ [],
          record {
            lead = tasks_lead done (tasks.takes next ∷ []) (free x) m m' k.1.lead (m', here, refl);
            queue = search (rules, k, taken_more, tasks.takes);
            ends = λ c. unchanged c done (tasks.takes next) (in_lane_at start c) (in_lane_at lanes c) refl refl (k.1.ends c);
            own = serving_taken m m' next here (subst (λ h. IsFor p h next) (ap (λ (v : TicketsView). v.handler) k.1.queue) own);
          },
        )

    module _ (m n : Handler) (tickets : TicketsView) (lanes : List (Option InView)) (k : HasTasks m tickets lanes) (at : n ≡ gave m)
        (reached : (t : Ticket) → reserves p t h ≡ true → (t.client < most_clients) × IsSome (in_lane_at start t.client)) where
      -- it has a lane to the client that it serves
      pub reaches : (c : ℕ) → client_of (act_of m) ≡ Some c → (c < most_clients) × IsSome (in_lane_at lanes c)
      reaches c asks = let s = serves_client m c asks in search (rules, k, still_there, s)

      found : (c : ℕ) → client_of (act_of m) ≡ Some c → (lane : InView) × (in_lane_at lanes c ≡ Some lane)
      found c asks = some_there (in_lane_at lanes c) (reaches c asks).1

      lane_is : (c : ℕ) (lane : InView) → in_lane_at lanes c ≡ Some lane → HasServed c k.0 (in_lane_at start c) (Some lane)
      lane_is c lane is = subst (HasServed c k.0 (in_lane_at start c)) is (k.1.ends c)

      -- how it stands to a lane
      stands : (c : ℕ) (lane : InView) → in_lane_at lanes c ≡ Some lane → HandlerFitsLane lane.size c m lane.received lane.given
      stands c lane is = fits c x k.0 m (in_lane_at start c) lane k.1.lead (lane_is c lane is)

      -- what it serves stays
      own_still : AllByRecursion (λ t. reserves p t h ≡ true) (serving n)
      own_still = subst (λ m. AllByRecursion (λ t. reserves p t h ≡ true) (serving m)) (sym at) (serving_gave (λ t. reserves p t h ≡ true) m k.1.own)

      -- with one task more, which takes no ticket
      one_more : (m' : Handler) (d : Task) (lanes' : List (Option InView)) → TasksLead m (d ∷ []) m' → taken_by (d ∷ []) ≡ []
          → AllByRecursion (λ t. reserves p t h ≡ true) (serving m')
          → ((a : ℕ) → HasServed a (k.0 ++ d ∷ []) (in_lane_at start a) (in_lane_at lanes' a)) → HasTasks m' tickets lanes'
      one_more m' d lanes' lead none own ends = (
        k.0 ++ d ∷ [],
        record { lead = tasks_lead k.0 (d ∷ []) (free x) m m' k.1.lead lead; queue = search (rules, k, taken_more, append-nil); ends = ends; own = own },
      )

      -- it gives its object only where that was asked for
      pub is_asked_for : (c : ℕ) (y : HeldState) (lane : InView) → act_of m ≡ acts.Give c y → in_lane_at lanes c ≡ Some lane
          → (is_asked false lane.received ≡ true) × (length lane.given + 1 ≡ syncs lane.received)
      is_asked_for c y lane asks is =
          let g = handler_lane_laws.gives lane.size c m y lane.received lane.given asks (stands c lane is) in
          (g.0, g.1)

      -- a chunk that it gives back is empty and has the lane's size
      pub is_empty : (c : ℕ) (chunk : Batch Request) (lane : InView) → act_of m ≡ acts.Spare c chunk → in_lane_at lanes c ≡ Some lane → chunk ≡ batch [] lane.size
      is_empty c chunk lane asks is = handler_lane_laws.spares lane.size c m chunk lane.received lane.given asks (stands c lane is)

      -- by what the calls on a lane's end say of the lane that is there
      abbrev pub Took : ℕ → Parcel → List (Option InView) → Type 0
      Took c parcel lanes' =
          (lane : InView) → in_lane_at lanes c ≡ Some lane
          → (lanes' ≡ slice_set lanes c (Some (record lane { received = lane.received ++ parcel ∷ [] }))) × MayFollow lane.size (is_asked false lane.received) parcel

      -- what comes may stand at the handler
      pub parcel_stands : (c : ℕ) (parcel : Parcel) (lanes' : List (Option InView)) → act_of m ≡ acts.TakeParcel c → Took c parcel lanes'
          → IsTrue (may_stand (is_away n) parcel)
      parcel_stands c parcel lanes' asks took =
          let lane = found c (ap client_of asks) in
          let same : gave m ≡ m = (parcels_stand m c parcel asks).1 in
          subst (λ b. IsTrue (may_stand b parcel))
          (sym (handler_lane_laws.asks lane.0.size c m lane.0.received lane.0.given asks (stands c lane.0 lane.1)) ∙ ap is_away (sym (at ∙ same)))
          (took lane.0 lane.1).1.0

      pub kept_by_parcel : (m' : Handler) (c : ℕ) (parcel : Parcel) (lanes' : List (Option InView)) → act_of m ≡ acts.TakeParcel c → accept_parcel n parcel ≡ Some m'
          → Took c parcel lanes' → HasTasks m' tickets lanes'
      kept_by_parcel m' c parcel lanes' asks receives took =
          let lane = found c (ap client_of asks) in
          let did = took lane.0 lane.1 in
          let d = tasks.receives c parcel in
          let here : accept_parcel m parcel ≡ Some m' = ap (λ m. accept_parcel m parcel) (sym (at ∙ (parcels_stand m c parcel asks).1)) ∙ receives in
          one_more m' d lanes' (m', asks, here, refl) refl (serving_received (λ t. reserves p t h ≡ true) m m' parcel here k.1.own)
          (at_one_lane start lanes lanes' k.0 c lane.0 k.1.ends lane.1 d (record lane.0 { received = lane.0.received ++ parcel ∷ [] }) did.0
          (received_here c k.0 parcel (in_lane_at start c) lane.0 (lane_is c lane.0 lane.1) did.1) (λ a other. (rw other refl, refl)))

      pub kept_by_object : (c : ℕ) (y : HeldState) (lanes' : List (Option InView)) → act_of m ≡ acts.Give c y
          → ((lane : InView) → in_lane_at lanes c ≡ Some lane → lanes' ≡ slice_set lanes c (Some (record lane { given = lane.given ++ y ∷ [] }))) → HasTasks n tickets lanes'
      kept_by_object c y lanes' asks did =
          let lane = found c (ap client_of asks) in
          let d = tasks.gives c y in
          one_more n d lanes' (asks, sym at) refl own_still
          (at_one_lane start lanes lanes' k.0 c lane.0 k.1.ends lane.1 d (record lane.0 { given = lane.0.given ++ y ∷ [] }) (did lane.0 lane.1)
          (given_here c k.0 y (in_lane_at start c) lane.0 (lane_is c lane.0 lane.1)) (λ a other. (refl, rw other refl)))

      pub kept_by_chunk : (c : ℕ) (chunk : Batch Request) (lanes' : List (Option InView)) → act_of m ≡ acts.Spare c chunk
          → ((lane : InView) → in_lane_at lanes c ≡ Some lane → (lanes' ≡ slice_set lanes c (Some (record lane { spared = lane.spared + 1 }))) ⊎ (lanes' ≡ lanes)) → HasTasks n tickets lanes'
      kept_by_chunk c chunk lanes' asks did =
          let lane = found c (ap client_of asks) in
          one_more n (tasks.spares c chunk) lanes' (asks, sym at) refl own_still
          (at_spared start lanes lanes' k.0 c lane.0 k.1.ends lane.1 chunk (did lane.0 lane.1) (lane_is c lane.0 lane.1))

    -- a handler that has ended
    pub kept_to_end : (m n : Handler) (y : HeldState) (tickets : TicketsView) (lanes : List (Option InView)) → HasTasks m tickets lanes → n ≡ gave m → act_of m ≡ acts.Closed
        → n ≡ closed y → HasTasks (closed y) tickets lanes
    kept_to_end m n y tickets lanes k at asks is = search rules

    -- a handler that has ended has given as many objects as it received Syncs
    pub all_served : (y : HeldState) (tickets : TicketsView) (lanes : List (Option InView)) → HasTasks (closed y) tickets lanes
        → (c : ℕ) → IsAllServed (in_lane_at lanes c)
    all_served y tickets lanes k c = at_lane (in_lane_at lanes c) (k.1.ends c)
      where
        at_lane : (b : Option InView) → HasServed c k.0 (in_lane_at start c) b → IsAllServed b
        at_lane None served = tt
        at_lane (Some b) served = handler_lane_laws.ends b.size c (closed y) b.received b.given refl (fits c x k.0 (closed y) (in_lane_at start c) b k.1.lead served)
