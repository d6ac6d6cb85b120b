-- An actor that has no step has none after a step that does not concern it. A client's step changes the client itself,
-- its own lanes, and as it reserves the queues of tickets; a handler's step changes the handler itself, its queue, and
-- the lane from the client that it turns to. So a client is freed by the step of a handler at its lane alone, and a
-- handler by the step of a client at its lane or by a reservation. The invariant of the machine with its flags rests on
-- this.
use Rattle.std.proofs.Common.{◌≡◌, ◌==◌, ℕ, suc, Bool, true, false, true≢false, if◌then◌else◌, List, ◌∷◌, get_or, set, Option, Some, None, ◌⊎◌, refl, sym, subst, rules}
use Rattle.qs_played.proofs.Names.{same_Some, get_or-set_other, HeldState, Ticket, apart_eqb, num_cases, put_there}
use Rattle.qs_played.specs.declared.schedule.actor.Actor.{Actor}
use Rattle.qs_core_laws.proofs.Names.{ClientCode, blocks_in, Parcel, Handler, ClientStage, act_of, Act}
use Rattle.qs_handler.specs.audit.Handler as handlers
use Rattle.qs_handler.specs.declared.mind.Act.{Act as HandlerAct}
use Rattle.qs_played.specs.declared.schedule.actor.Actor.TheVariants as actor
use Rattle.qs_core_laws.specs.audit.Core.{Core, after_handler, client_step, core_step, gets, gives, handler_step, reserves_from, settings_of, takes_chunk, takes_parcel, takes_ticket}
use Rattle.qs_core_laws.proofs.HandlerSteps.{put_lane_there}
use Rattle.qs_core.specs.parts.CoreClients.{turns_to}
use Rattle.qs_core.specs.parts.CoreHandlers.{turns_to as client_turned_to}
use Rattle.qs_core.specs.state.CoreState.{CoreState, CoreSteps, codes_of, core_of}
use Rattle.qs_core.specs.state.CoreStuck.{AreStuck, AreWoken, IsStuck, IsWoken, StuckFlags}

-- a client and its lanes are as they were
record SameClient (s x : Core) (d : ℕ) : Type 0 where
  client : x.client d ≡ s.client d
  down : x.down d ≡ s.down d
  up : x.up d ≡ s.up d
  spare : x.spare d ≡ s.spare d

-- a handler, its queue of tickets and the lanes to it are as they were
record SameHandler (s x : Core) (g : ℕ) : Type 0 where
  handler : x.handler g ≡ s.handler g
  tickets : x.tickets g ≡ s.tickets g
  down : (c : ℕ) → x.down c g ≡ s.down c g
  up : (c : ℕ) → x.up c g ≡ s.up c g
  spare : (c : ℕ) → x.spare c g ≡ s.spare c g

-- ---- what is there, or not

still_none : {A : Type 0} (a b : Bool) (y z : A) → b ≡ a → (if a then Some y else None) ≡ None → (if b then Some z else None) ≡ None
still_none v b y z is e = search rules

unwrap_if : {A : Type 0} (b : Bool) (y x : A) → (if b then Some y else None) ≡ Some x → y ≡ x
unwrap_if v y x e = search rules

module _ (code : ℕ → ClientCode) (size : ℕ) where
  -- ---- who has no step, has none where all that it sees is the same

  module _ (s x : Core) (d : ℕ) (same : SameClient s x d) where
    no_reservation : (g : ClientStage) → reserves_from code size s d g ≡ None → reserves_from code size x d g ≡ None
    no_reservation v e = search rules

    no_object : (h : ℕ) (o : Option HeldState) → gets code size s d h o ≡ None → gets code size x d h o ≡ None
    no_object h v e = search rules

    no_chunk : (h n : ℕ) → takes_chunk code size s d h n ≡ None → takes_chunk code size x d h n ≡ None
    no_chunk h v e = search rules

    no_act : (a : Act) → client_step code size s d a ≡ None → client_step code size x d a ≡ None
    no_act v e = search (rules, same, no_reservation, still_none, no_object, no_chunk)

    client_stays : core_step code size s (actor.Client d) ≡ None → core_step code size x (actor.Client d) ≡ None
    client_stays e = search (rules, same, no_act)

  module _ (s x : Core) (g : ℕ) (same : SameHandler s x g) where
    no_handler : (y z : Core) (o : Option Handler) → after_handler code size y g o ≡ None → after_handler code size z g o ≡ None
    no_handler y z v e = search rules

    no_ticket : (ts : List Ticket) → takes_ticket code size s g ts ≡ None → takes_ticket code size x g ts ≡ None
    no_ticket v e = search (rules, same, no_handler)

    no_parcel : (c : ℕ) (ps : List Parcel) → takes_parcel code size s g c ps ≡ None → takes_parcel code size x g c ps ≡ None
    no_parcel c v e = search (rules, same, no_handler)

    no_gift : (c : ℕ) (y : HeldState) (o : Option HeldState) → gives code size s g c y o ≡ None → gives code size x g c y o ≡ None
    no_gift c y v e = search rules

    no_duty : (a : HandlerAct) → handler_step code size s g a ≡ None → handler_step code size x g a ≡ None
    no_duty v e = search (rules, same, no_ticket, no_parcel, no_gift, still_none)

    handler_stays : core_step code size s (actor.Handler g) ≡ None → core_step code size x (actor.Handler g) ≡ None
    handler_stays e = search (rules, same, no_duty)

  -- ---- what a step of a client leaves

  module _ (s x : Core) (c : ℕ) where
    reserved_apart : (g : ClientStage) → reserves_from code size s c g ≡ Some x → (d : ℕ) → (c == d) ≡ false → SameClient s x d
    reserved_apart v e d other = search (rules, same_Some, put_there)

    got_apart : (h : ℕ) (o : Option HeldState) → gets code size s c h o ≡ Some x → (d : ℕ) → (c == d) ≡ false → SameClient s x d
    got_apart h v e d other = search (rules, same_Some, put_there)

    took_apart : (h n : ℕ) → takes_chunk code size s c h n ≡ Some x → (d : ℕ) → (c == d) ≡ false → SameClient s x d
    took_apart h v e d other = search (rules, same_Some, put_there)

    client_apart : (a : Act) → client_step code size s c a ≡ Some x → (d : ℕ) → (c == d) ≡ false → SameClient s x d
    client_apart v e d other = search (rules, reserved_apart, unwrap_if, put_there, got_apart, took_apart)

    got_beside : (h : ℕ) (o : Option HeldState) → gets code size s c h o ≡ Some x → (g : ℕ) → (h == g) ≡ false → SameHandler s x g
    got_beside h v e g other = search (rules, same_Some, put_lane_there)

    took_beside : (h n : ℕ) → takes_chunk code size s c h n ≡ Some x → (g : ℕ) → (h == g) ≡ false → SameHandler s x g
    took_beside h v e g other = search (rules, same_Some, put_lane_there)

    lane_beside : (a : Act) → client_step code size s c a ≡ Some x → (h : ℕ) → turns_to a ≡ Some h → (g : ℕ) → (h == g) ≡ false → SameHandler s x g
    lane_beside v e h turned g other = search (rules, same_Some, unwrap_if, put_lane_there, got_beside, took_beside)

  -- ---- what a step of a handler leaves

  -- a client that this lane is not of
  abbrev IsApart : Option ℕ → ℕ → Type 0
  IsApart None d = Unit {0}
  IsApart (Some c) d = (c == d) ≡ false

  module _ (s x : Core) (h : ℕ) where
    after_beside : (y : Core) (o : Option Handler) → after_handler code size y h o ≡ Some x → (g : ℕ) → (h == g) ≡ false → SameHandler s y g → SameHandler s x g
    after_beside y v e g other same = search (rules, same_Some, put_there, same)

    ticket_beside : (ts : List Ticket) → takes_ticket code size s h ts ≡ Some x → (g : ℕ) → (h == g) ≡ false → SameHandler s x g
    ticket_beside v e g other = search (rules, after_beside, put_there)

    parcel_beside : (c : ℕ) (ps : List Parcel) → takes_parcel code size s h c ps ≡ Some x → (g : ℕ) → (h == g) ≡ false → SameHandler s x g
    parcel_beside c v e g other = search (rules, after_beside, put_lane_there)

    gift_beside : (c : ℕ) (y : HeldState) (o : Option HeldState) → gives code size s h c y o ≡ Some x → (g : ℕ) → (h == g) ≡ false → SameHandler s x g
    gift_beside c y v e g other = search (rules, same_Some, put_there, put_lane_there)

    handler_beside : (a : HandlerAct) → handler_step code size s h a ≡ Some x → (g : ℕ) → (h == g) ≡ false → SameHandler s x g
    handler_beside v e g other = search (rules, ticket_beside, parcel_beside, gift_beside, unwrap_if, put_there, put_lane_there)

    after_apart : (y : Core) (o : Option Handler) → after_handler code size y h o ≡ Some x → (d : ℕ) → SameClient s y d → SameClient s x d
    after_apart y v e d same = search (rules, same_Some, same)

    ticket_apart : (ts : List Ticket) → takes_ticket code size s h ts ≡ Some x → (d : ℕ) → SameClient s x d
    ticket_apart v e d = search (rules, after_apart)

    parcel_apart : (c : ℕ) (ps : List Parcel) → takes_parcel code size s h c ps ≡ Some x → (d : ℕ) → (c == d) ≡ false → SameClient s x d
    parcel_apart c v e d other = search (rules, after_apart, put_there)

    gift_apart : (c : ℕ) (y : HeldState) (o : Option HeldState) → gives code size s h c y o ≡ Some x → (d : ℕ) → (c == d) ≡ false → SameClient s x d
    gift_apart c y v e d other = search (rules, same_Some, put_there)

    handler_apart : (a : HandlerAct) → handler_step code size s h a ≡ Some x → (d : ℕ) → IsApart (client_turned_to a) d → SameClient s x d
    handler_apart v e d other = search (rules, ticket_apart, parcel_apart, gift_apart, unwrap_if, put_there)

-- ---- flags

-- a flag that was cleared
cleared : (l : List Bool) (i : ℕ) → get_or (set l i false) i false ≡ false
cleared (b ∷ l) (suc i) = cleared l i
cleared _ _ = refl

-- a flag that is still set was set before, and another was cleared
still_set : (l : List Bool) (i j : ℕ) → get_or (set l i false) j false ≡ true → ((i == j) ≡ false) × (get_or l j false ≡ true)
still_set l i j e = search (rules, true≢false, set, cleared, get_or-set_other, apart_eqb, num_cases)

-- a flag that is set now was set before, or is the one that was put
set_or_old : (l : List Bool) (i j : ℕ) → get_or (set l i true) j false ≡ true → (i ≡ j) ⊎ (get_or l j false ≡ true)
set_or_old l i j e = search (rules, get_or-set_other, apart_eqb, num_cases)

-- a set flag is not at a place where none is set
elsewhere : (l : List Bool) (i j : ℕ) → get_or l i false ≡ false → get_or l j false ≡ true → (i == j) ≡ false
elsewhere l i j free e = search (rules, true≢false, num_cases)

-- after a step, or without one, from where no flag was wrong
module _ (f g : StuckFlags) (s x : CoreState) (stuck : AreStuck f s) where
  still : (a : Actor) → codes_of x ≡ codes_of s → x.size ≡ s.size → core_step (codes_of s) s.size (core_of x) a ≡ None → IsStuck x a
  still a codes size e = subst (λ k. core_step k x.size (core_of x) a ≡ None) (sym codes) (subst (λ n. core_step (codes_of s) n (core_of x) a ≡ None) (sym size) e)

  module _ (c : ℕ) (steps : CoreSteps s (actor.Client c) x) (free : get_or f.clients c false ≡ false) where
    abbrev act : Act
    act = act_of (settings_of (codes_of s) s.size c) (blocks_in (codes_of s) c) ((core_of s).client c)

    other_client : (d : ℕ) → get_or f.clients d false ≡ true → IsStuck x (actor.Client d)
    other_client d e =
        still (actor.Client d) steps.codes steps.size
        (client_stays (codes_of s) s.size (core_of s) (core_of x) d
        (client_apart (codes_of s) s.size (core_of s) (core_of x) c act steps.steps d (elsewhere f.clients c d free e)) (stuck.clients d e))

    any_handler : (lane : Option ℕ) → lane ≡ turns_to act → AreWoken lane f.handlers g.handlers → (h : ℕ) → get_or g.handlers h false ≡ true → IsStuck x (actor.Handler h)
    any_handler v is woken h e = search (rules, true≢false, still_set, still, steps, handler_stays, lane_beside, act, stuck)

    pub client_stepped : (lane : Option ℕ) → lane ≡ turns_to act → g.clients ≡ f.clients → AreWoken lane f.handlers g.handlers → AreStuck g x
    client_stepped lane is clients woken = search (rules, other_client, any_handler)

  module _ (h : ℕ) (steps : CoreSteps s (actor.Handler h) x) (free : get_or f.handlers h false ≡ false) where
    abbrev duty : HandlerAct
    duty = handlers.act_of ((core_of s).handler h)

    other_handler : (j : ℕ) → get_or f.handlers j false ≡ true → IsStuck x (actor.Handler j)
    other_handler j e = search (rules, still, steps, handler_stays, handler_beside, elsewhere, stuck)

    apart_from : (lane : Option ℕ) → IsWoken lane f.clients g.clients → (d : ℕ) → get_or g.clients d false ≡ true
        → IsApart (codes_of s) s.size lane d × (get_or f.clients d false ≡ true)
    apart_from v woken d e = search (rules, still_set)

    pub handler_stepped : (lane : Option ℕ) → lane ≡ client_turned_to duty → g.handlers ≡ f.handlers → IsWoken lane f.clients g.clients → AreStuck g x
    handler_stepped lane is handlers woken = record {
      clients = λ d e.
          let (apart, was) = apart_from lane woken d e in
          still (actor.Client d) steps.codes steps.size
          (client_stays (codes_of s) s.size (core_of s) (core_of x) d
          (handler_apart (codes_of s) s.size (core_of s) (core_of x) h duty steps.steps d (subst (λ o. IsApart (codes_of s) s.size o d) is apart)) (stuck.clients d was));
      handlers = λ j e. other_handler j (subst (λ l. get_or l j false ≡ true) handlers e);
    }

  pub client_rests : (c : ℕ) → IsStuck s (actor.Client c) → x ≡ s → g.clients ≡ set f.clients c true → g.handlers ≡ f.handlers → AreStuck g x
  client_rests c none same put others = search (rules, stuck, set_or_old)

  pub handler_rests : (h : ℕ) → IsStuck s (actor.Handler h) → x ≡ s → g.handlers ≡ set f.handlers h true → g.clients ≡ f.clients → AreStuck g x
  handler_rests h none same put others = search (rules, stuck, set_or_old)
