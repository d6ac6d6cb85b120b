-- A client that has its block alone always has a step: where it sends, the lane is empty; where it waits for an object,
-- that is on its way up; where it needs a chunk, one lies ready. Each step changes one corner, as the client's act
-- says, and fewer steps are left after it. Which act it is follows from the client's stage and from what it has in
-- hand, by what is known of each place in a block (`PlaceOk`).
use Rattle.std.proofs.Common.{◌≡◌, ◌<◌, ◌∙◌, ◌==◌, ◌+◌, ◌*◌, ◌-◌, ◌&&◌, ◌∷◌, [], ℕ, suc, Bool, true, false, true≢false, if◌then◌else◌, is_some, List, Option, Some, None, refl, sym, ap, subst, length, arith, rules}
use Rattle.qs_played.proofs.Names.{HeldState, Ticket, Request, eqb_self, ticket_path, ProgramShape, is_in, IsSound, Locals, BlockRecord, reserves, put, put_here, put_there, or_stay}
use Rattle.qs_core_laws.proofs.Names.{Synced, Call, Sync, Mode, ClientCode, AreCodes, reserved_of, blocks_in, Batch, batch, spare_room, Parcel, Client, ClientStage, Settings, Settlement, act_at, act_of, after_end, after_home, after_parcel, after_sync, after_work, awaits, between, call, call_act, clear, full, leaves, runs, set_chunk, set_held, set_stage, settle, stop_at, take_chunk, take_object, Act, Await, Finished, NeedChunk, Send, is_between, reserved_inside}
use Rattle.qs_chunk.specs.declared.parcel.Parcel.TheVariants as parcels
use Rattle.qs_played.specs.declared.schedule.actor.Actor.TheVariants as actor
use Rattle.qs_core_laws.proofs.protocol.ClientInvariants.{NotBoth, PlaceOk, objects_of_block}
use Rattle.qs_core_laws.specs.audit.Core.{Core, after_act, client_step, core_step, gets, lies, sends, settings_of, takes_chunk, with_spare, with_up}
use Rattle.qs_core_laws.specs.audit.Core as core
use Rattle.qs_core_laws.proofs.protocol.ProgramTrees.{reserved_is}
use Rattle.qs_core_laws.proofs.CoreSteps.{HasInvariant}
use Rattle.qs_core_laws.proofs.orders.Settling.{Asks, Gone, Holds, IsLeft, IsSettled, Sends, busy, busy_few, called, hand, settled, stance_at}
use Rattle.qs_core_laws.proofs.orders.Corners.{Away, ComesHome, Corner, Due, Ends, Free, IsChangedAt, Lent, Serves, Syncs, Waits, Works, corner, corner_of, lane_elsewhere, lane_here, lane_of_others, spare_of, stance_of}
use Rattle.qs_core_laws.proofs.orders.Turns.{IsActAt, IsWithin, act_on, at_rest, chunks_open, stance_in}

-- which corner it is where the handler waits, by the stance
serves_of : (d : Due) → Waits d → stance_of d ≡ Sends → (x : HeldState) × (n : ℕ) × (d ≡ Serves x n)
serves_of d w e = search rules

away_of : (d : Due) → Waits d → stance_of d ≡ Holds → (n : ℕ) × (d ≡ Away n)
away_of d w e = search rules

lent_of : (d : Due) → Waits d → stance_of d ≡ Asks → (x : HeldState) × (n : ℕ) × (d ≡ Lent x n)
lent_of d w e = search rules

pub free_of : (d : Due) → Waits d → stance_of d ≡ Gone → (x : HeldState) × (n : ℕ) × (d ≡ Free x n)
free_of d w e = search rules

-- with one of the two in hand the other is not
no_chunk : (m : Client) (h : ℕ) (x : HeldState) → NotBoth m h → m.held h ≡ Some x → m.chunk h ≡ None
no_chunk m h x either e = search rules

no_object : (m : Client) (h : ℕ) (rs : List Request) → NotBoth m h → m.chunk h ≡ Some rs → m.held h ≡ None
no_object m h rs either e = search rules

not_busy : (m : Client) (h : ℕ) → m.held h ≡ None → m.chunk h ≡ None → busy m h ≡ 0
not_busy m h held chunk = rw (held, chunk) refl

busy_holding : (m : Client) (h : ℕ) (x : HeldState) → m.held h ≡ Some x → busy m h ≡ 1
busy_holding m h x held = rw held refl

busy_open : (m : Client) (h : ℕ) (rs : List Request) → m.held h ≡ None → m.chunk h ≡ Some rs → busy m h ≡ 1
busy_open m h rs held chunk = rw (held, chunk) refl

and_false : (b : Bool) → (b && false) ≡ false
and_false true = refl
and_false false = refl

-- the stance to an object goes by the stage and by whether the client holds it
same_stance : (a b : Client) (g : ClientStage) (h : ℕ) → is_some (a.held h) ≡ is_some (b.held h) → stance_at a g h ≡ stance_at b g h
same_stance a b g h e = search (rules, hand)

module _ (p : ProgramShape) (sound : IsSound p) (mode : Mode) (code : ℕ → ClientCode) (codes : AreCodes p mode code) (size : ℕ) (so_far : List Ticket) (counts : ℕ → ℕ) (t : Ticket)
    (latest : counts t.client ≡ suc t.index) (n : ℕ) (s : Core) (now : IsWithin p so_far counts t (length p.objects) n s) where
  abbrev m : Client
  m = s.client t.client

  abbrev names : List ℕ
  names = objects_of_block p t

  abbrev settings : Settings
  settings = settings_of code size t.client

  -- the ticket as the machine reads it off the client
  abbrev u : Ticket
  u = core.current code size t.client (s.client t.client)

  abbrev next_act : Act
  next_act = act_of (settings_of code size t.client) (blocks_in code t.client) (s.client t.client)

  names_are : reserved_of code u ≡ objects_of_block p t
  names_are =
      let index : m.begun - 1 ≡ t.index = (let b = now.begun t.client ∙ latest in omega (arith, b)) in
      let same : u ≡ t = ticket_path refl index in
      reserved_is p sound mode code codes u ∙ ap (objects_of_block p) same

  -- the client's step leads to a state in which fewer steps are left
  abbrev Goes : Type 0
  Goes = (k : ℕ) × (k < n) × IsWithin p so_far counts t 0 k (or_stay s (core_step code size s (actor.Client t.client)))

  goes : (h k : ℕ) (due : Due) (r : Client) (later : Core) → k < n → core_step code size s (actor.Client t.client) ≡ Some later
      → IsActAt p so_far counts t code size h k due s r later → Goes
  goes h k due r later less step act =
      (k, less, subst (λ o. IsWithin p so_far counts t 0 k (or_stay s o)) (sym step) (act_on p so_far counts t code size h n k due s r later now act))

  -- the three kinds of acts, with what the client comes to
  abbrev sent : ℕ → Parcel → Settlement → Core
  sent h parcel r = after_act code size (lies code size s t.client h parcel) t.client u r

  abbrev got : ℕ → Settlement → Core
  got h r = after_act code size (with_up code size s t.client h None) t.client u r

  abbrev took : ℕ → ℕ → Settlement → Core
  took h k r = after_act code size (with_spare code size s t.client h k) t.client u r

  send_step : (h : ℕ) (parcel : Parcel) (r : Settlement) → next_act ≡ Send h parcel → s.down t.client h ≡ []
      → after_parcel settings u names m h parcel ≡ r → core_step code size s (actor.Client t.client) ≡ Some (sent h parcel r)
  send_step h parcel r act empty is = search (rules, names_are)

  get_step : (h : ℕ) (x : HeldState) (r : Settlement) → next_act ≡ Await h → s.up t.client h ≡ Some x
      → take_object settings u names m x m.stage ≡ r → core_step code size s (actor.Client t.client) ≡ Some (got h r)
  get_step h x r act up is =
      ap (client_step code size s t.client) act
      ∙ (ap (gets code size s t.client h) up ∙ ap (λ y. Some (got h y)) (ap (λ ns. take_object settings u ns m x m.stage) names_are ∙ is))

  chunk_step : (h k : ℕ) (r : Settlement) → next_act ≡ NeedChunk h → s.spare t.client h ≡ suc k
      → take_chunk settings u names m h m.stage ≡ r → core_step code size s (actor.Client t.client) ≡ Some (took h k r)
  chunk_step h k r act some is =
      ap (client_step code size s t.client) act
      ∙ (ap (takes_chunk code size s t.client h) some ∙ ap (λ y. Some (took h k y)) (ap (λ ns. take_chunk settings u ns m h m.stage) names_are ∙ is))

  -- what they change
  sent_at : (h : ℕ) (parcel : Parcel) (r : Settlement) (q : Corner) → corner s t.client h ≡ q → q.down ≡ []
      → IsChangedAt t.client h (record { handler = q.handler; tickets = q.tickets; down = parcel ∷ []; up = q.up; spare = q.spare }) s (sent h parcel r)
  sent_at h parcel r q e empty = search (rules, lane_elsewhere, lane_of_others, lane_here)

  got_at : (h : ℕ) (r : Settlement) (q : Corner) → corner s t.client h ≡ q
      → IsChangedAt t.client h (record { handler = q.handler; tickets = q.tickets; down = q.down; up = None; spare = q.spare }) s (got h r)
  got_at h r q e = search (rules, lane_here, lane_elsewhere, lane_of_others)

  took_at : (h k : ℕ) (r : Settlement) (q : Corner) → corner s t.client h ≡ q
      → IsChangedAt t.client h (record { handler = q.handler; tickets = q.tickets; down = q.down; up = q.up; spare = k }) s (took h k r)
  took_at h k r q e = search (rules, lane_here, lane_elsewhere, lane_of_others)

  -- the corner of a handler that waits, by the client's stance
  stance_now : (h : ℕ) → reserves p t h ≡ true → stance_in p t m h ≡ stance_at m m.stage h
  stance_now h listed = rw listed refl

  serves_at : (h : ℕ) → reserves p t h ≡ true → stance_at m m.stage h ≡ Sends
      → (x : HeldState) × (k : ℕ) × (corner s t.client h ≡ corner_of t (Serves x k)) × (k + chunks_open m h ≡ spare_room)
  serves_at h listed e =
      let at = now.corners h in
      let found = serves_of at.due (at_rest p so_far counts t code size n h s now) (at.stance ∙ (stance_now h listed ∙ e)) in
      (found.0, found.1, at.is ∙ ap (corner_of t) found.2, sym (ap (λ d. spare_of d + chunks_open m h) found.2) ∙ at.spare)

  away_at : (h : ℕ) → reserves p t h ≡ true → stance_at m m.stage h ≡ Holds
      → (k : ℕ) × (corner s t.client h ≡ corner_of t (Away k)) × (k + chunks_open m h ≡ spare_room)
  away_at h listed e =
      let at = now.corners h in
      let found = away_of at.due (at_rest p so_far counts t code size n h s now) (at.stance ∙ (stance_now h listed ∙ e)) in
      (found.0, at.is ∙ ap (corner_of t) found.1, sym (ap (λ d. spare_of d + chunks_open m h) found.1) ∙ at.spare)

  lent_at : (h : ℕ) → reserves p t h ≡ true → stance_at m m.stage h ≡ Asks
      → (x : HeldState) × (k : ℕ) × (corner s t.client h ≡ corner_of t (Lent x k)) × (k + chunks_open m h ≡ spare_room)
  lent_at h listed e =
      let at = now.corners h in
      let found = lent_of at.due (at_rest p so_far counts t code size n h s now) (at.stance ∙ (stance_now h listed ∙ e)) in
      (found.0, found.1, at.is ∙ ap (corner_of t) found.2, sym (ap (λ d. spare_of d + chunks_open m h) found.2) ∙ at.spare)

  -- stances in the block, by those to reserved objects
  stances_by : (r : Client) (g : ℕ) → (reserves p t g ≡ true → stance_at r r.stage g ≡ stance_at m m.stage g) → stance_in p t r g ≡ stance_in p t m g
  stances_by r g same = search (rules, stance_in)

  -- a step after which the client has settled from another
  settled_act : (h k : ℕ) (due : Due) (later : Core) (other r : Client) → reserves p t h ≡ true → IsSettled names k other r
      → later.order ≡ s.order → later.client ≡ put s.client t.client r → IsChangedAt t.client h (corner_of t due) s later
      → other.begun ≡ m.begun → stance_of due ≡ hand (is_some (other.held h)) → spare_of due + chunks_open other h ≡ spare_room
      → ((g : ℕ) → (h == g) ≡ false → other.held g ≡ m.held g) → ((g : ℕ) → (h == g) ≡ false → other.chunk g ≡ m.chunk g)
      → ((g : ℕ) → (h == g) ≡ false → stance_at m m.stage g ≡ hand (is_some (m.held g)))
      → IsActAt p so_far counts t code size h k due s r later
  settled_act h k due later other r listed is order client changed begun stance spare held chunk before = record {
    order = order;
    client = client;
    changed = changed;
    begun = is.begun ∙ begun;
    inside = reserved_inside p sound t h listed;
    stance = stance ∙ (sym (ap hand (is.held h)) ∙ (sym (is.stance h listed) ∙ sym (in_block r)));
    spare = ap (λ b. spare_of due + (if b then 1 else 0)) (is.chunks h) ∙ spare;
    stances = λ g apart. stances_by r g (λ there. is.stance g there ∙ (ap hand (is.held g ∙ ap is_some (held g apart)) ∙ sym (before g apart)));
    chunks = λ g apart. is.chunks g ∙ ap is_some (chunk g apart);
    left = is.left;
  }
    where
      in_block : (a : Client) → stance_in p t a h ≡ stance_at a a.stage h
      in_block a = rw listed refl

  -- a step after which the client is at the same stage, or another
  stopped_act : (h k : ℕ) (due : Due) (later : Core) (other : Client) (g : ClientStage) → reserves p t h ≡ true
      → later.order ≡ s.order → later.client ≡ put s.client t.client (set_stage other g) → IsChangedAt t.client h (corner_of t due) s later
      → other.begun ≡ m.begun → stance_of due ≡ stance_at other g h → spare_of due + chunks_open other h ≡ spare_room
      → ((i : ℕ) → (h == i) ≡ false → stance_at other g i ≡ stance_at m m.stage i) → ((i : ℕ) → (h == i) ≡ false → other.chunk i ≡ m.chunk i)
      → IsLeft (length names) k (set_stage other g) g
      → IsActAt p so_far counts t code size h k due s (set_stage other g) later
  stopped_act h k due later other g listed order client changed begun stance spare before chunk left = search (rules, reserved_inside, same_stance, stances_by, stance_in, stance_at)

  -- the object goes home
  home : (h k : ℕ) (g : ClientStage) (x : HeldState) → m.stage ≡ g → reserves p t h ≡ true → ((a : Client) → stance_at a g h ≡ hand (is_some (a.held h)))
      → m.held h ≡ Some x → m.chunk h ≡ None → next_act ≡ Send h (parcels.Home x)
      → after_home settings u names m h g ≡ stop_at (set_held m h None) g → k < n → IsLeft (length names) k (set_stage (set_held m h None) g) g → Goes
  home h k g x at listed own held chunk act is less left =
      let had = away_at h listed (ap (λ z. stance_at m z h) at ∙ (own m ∙ ap (λ o. hand (is_some o)) held)) in
      let j = had.0 in
      let other = set_held m h None in
      let r = stop_at other g in
      let empty : s.down t.client h ≡ [] = ap (λ (q : Corner). q.down) had.1 in
      goes h k (ComesHome x j) (set_stage other g) (sent h (parcels.Home x) r) less
      (send_step h (parcels.Home x) r act empty (ap (after_home settings u names m h) at ∙ is))
      (stopped_act h k (ComesHome x j) (sent h (parcels.Home x) r) other g listed refl refl
      (sent_at h (parcels.Home x) r (corner_of t (Away j)) had.1 refl) refl
      (sym (own other ∙ ap (λ o. hand (is_some o)) (put_here m.held h None))) had.2
      (λ i apart. same_stance other m g i (ap is_some (put_there m.held h None i apart)) ∙ ap (λ z. stance_at m z i) (sym at))
      (λ i apart. refl) left)

  -- an open chunk goes
  work : (h k : ℕ) (g : ClientStage) (rs : List Request) (chunk : Batch Request) → m.stage ≡ g → reserves p t h ≡ true → ((a : Client) → stance_at a g h ≡ hand (is_some (a.held h)))
      → m.held h ≡ None → m.chunk h ≡ Some rs → next_act ≡ Send h (parcels.Work chunk)
      → after_work settings u names m h g ≡ stop_at (set_chunk m h None) g → k < n → IsLeft (length names) k (set_stage (set_chunk m h None) g) g → Goes
  work h k g rs chunk at listed own held opened act is less left =
      let had = serves_at h listed (ap (λ z. stance_at m z h) at ∙ (own m ∙ ap (λ o. hand (is_some o)) held)) in
      let x = had.0 in
      let few : had.1 + 1 ≡ spare_room = sym (ap (λ o. had.1 + (if is_some o then 1 else 0)) opened) ∙ had.3 in
      let three : had.1 ≡ 3 = omega (arith, few) in
      let here : corner s t.client h ≡ corner_of t (Serves x 3) = had.2 ∙ ap (λ j. corner_of t (Serves x j)) three in
      let other = set_chunk m h None in
      let r = stop_at other g in
      let empty : s.down t.client h ≡ [] = ap (λ (q : Corner). q.down) had.2 in
      goes h k (Works x chunk) (set_stage other g) (sent h (parcels.Work chunk) r) less
      (send_step h (parcels.Work chunk) r act empty (ap (after_work settings u names m h) at ∙ is))
      (stopped_act h k (Works x chunk) (sent h (parcels.Work chunk) r) other g listed refl refl
      (sent_at h (parcels.Work chunk) r (corner_of t (Serves x 3)) here refl) refl
      (sym (own other ∙ ap (λ o. hand (is_some o)) held))
      (ap (λ o. 4 + (if is_some o then 1 else 0)) (put_here m.chunk h None))
      (λ i apart. same_stance other m g i refl ∙ ap (λ z. stance_at m z i) (sym at))
      (λ i apart. put_there m.chunk h None i apart) left)

  -- with nothing in hand a client stops at a command and at a synchronisation
  stops_at_call : (r : Request) (next : Synced) (a : Client) → a.held r.object ≡ None → a.chunk r.object ≡ None
      → settle settings u names (Call r next) a ≡ stop_at a (runs (Call r next))
  stops_at_call r next a held chunk = λ i. call settings u names a r next (λ z. settle settings u names next z) (held i) (chunk i)

  stops_at_sync : (h : ℕ) (next : Synced) (a : Client) → a.held h ≡ None → settle settings u names (Sync h next) a ≡ stop_at a (runs (Sync h next))
  stops_at_sync h next a held =
      let not_skipped : (settings.dynamic && is_some (a.held h)) ≡ false = ap (λ o. settings.dynamic && is_some o) held ∙ and_false settings.dynamic in
      ap (λ b. if b then settle settings u names next a else stop_at a (runs (Sync h next))) not_skipped

  module _ (snt : ℕ → List Parcel) (gt : ℕ → List HeldState) (pg : BlockRecord) where
    -- before a command
    at_call : (r : Request) (next : Synced) → m.stage ≡ runs (Call r next) → PlaceOk p t snt gt m pg (runs (Call r next))
        → IsLeft (length names) n m (runs (Call r next)) → Goes
    at_call r next at (ready, stops) (d, (k, fewer, deep), low) = by_hand (m.held r.object) (m.chunk r.object) refl refl
      where
        due_act : next_act ≡ call_act settings r.object (m.held r.object) (m.chunk r.object)
        due_act = ap (act_at settings (blocks_in code t.client) m) at

        by_hand : (x : Option HeldState) (o : Option (List Request)) → m.held r.object ≡ x → m.chunk r.object ≡ o → Goes
        by_hand (Some x) o held opened =
            let none = no_chunk m r.object x (ready.not_both r.object) held in
            let clear_now = put_here m.held r.object None in
            home r.object (3 * d + 2 * length names + 1) (runs (Call r next)) x at ready.on.0 (λ a. refl) held none
            (due_act ∙ ap (λ z. call_act settings r.object z (m.chunk r.object)) held)
            (stops_at_call r next (set_held m r.object None) clear_now none)
            (let b = busy_holding m r.object x held in omega (arith, low, b))
            (d, (k, fewer, deep), let b = not_busy (set_held m r.object None) r.object clear_now none in omega (arith, b))
        by_hand None (Some rs) held opened =
            let clear_now = put_here m.chunk r.object None in
            work r.object (3 * d + 2 * length names + 1) (runs (Call r next)) rs (batch rs settings.size) at ready.on.0 (λ a. refl) held opened
            (due_act ∙ (λ i. call_act settings r.object (held i) (opened i)))
            (stops_at_call r next (set_chunk m r.object None) held clear_now)
            (let b = busy_open m r.object rs held opened in omega (arith, low, b))
            (d, (k, fewer, deep), let b = not_busy (set_chunk m r.object None) r.object held clear_now in omega (arith, b))
        by_hand None None held opened =
            let had = serves_at r.object ready.on.0 (ap (λ z. stance_at m z r.object) at ∙ ap (λ z. hand (is_some z)) held) in
            let whole : had.1 + 0 ≡ spare_room = sym (ap (λ z. had.1 + (if is_some z then 1 else 0)) opened) ∙ had.3 in
            let four : had.1 ≡ 4 = omega (arith, whole) in
            let some : s.spare t.client r.object ≡ suc 3 = ap (λ (q : Corner). q.spare) had.2 ∙ four in
            let other = set_chunk m r.object (Some []) in
            let now_open = put_here m.chunk r.object (Some []) in
            let rr = call settings u names other r next (λ z. settle settings u names next z) None (Some []) in
            goes r.object (3 * k + 2 * length names + 3) (Serves had.0 3) rr.client (took r.object 3 rr)
            (let b = not_busy m r.object held opened in omega (arith, low, b, fewer))
            (chunk_step r.object 3 rr (due_act ∙ (λ i. call_act settings r.object (held i) (opened i))) some
            (ap (take_chunk settings u names m r.object) at ∙ (λ i. call settings u names other r next (λ z. settle settings u names next z) (held i) (now_open i))))
            (settled_act r.object (3 * k + 2 * length names + 3) (Serves had.0 3) (took r.object 3 rr) other rr.client ready.on.0
            (called settings u names k other r next [] deep now_open (settled settings u names k next deep)) refl refl
            (took_at r.object 3 rr (corner_of t (Serves had.0 had.1)) had.2) refl
            (sym (ap (λ z. hand (is_some z)) held)) (ap (λ z. 3 + (if is_some z then 1 else 0)) now_open)
            (λ g apart. refl) (λ g apart. put_there m.chunk r.object (Some []) g apart) (λ g apart. ap (λ z. stance_at m z g) at))

    -- before a synchronisation
    at_sync : (h : ℕ) (next : Synced) → m.stage ≡ runs (Sync h next) → PlaceOk p t snt gt m pg (runs (Sync h next))
        → IsLeft (length names) n m (runs (Sync h next)) → Goes
    at_sync h next at (ready, stops) (d, (k, fewer, deep), low) = by_hand (m.held h) (m.chunk h) refl refl
      where
        due_act : next_act ≡ clear settings h (m.held h) (m.chunk h) (Send h parcels.Sync)
        due_act = ap (act_at settings (blocks_in code t.client) m) at

        by_hand : (x : Option HeldState) (o : Option (List Request)) → m.held h ≡ x → m.chunk h ≡ o → Goes
        by_hand (Some x) o held opened =
            let none = no_chunk m h x (ready.not_both h) held in
            let clear_now = put_here m.held h None in
            home h (3 * d + 2 * length names + 1) (runs (Sync h next)) x at ready.on.0 (λ a. refl) held none
            (due_act ∙ ap (λ z. clear settings h z (m.chunk h) (Send h parcels.Sync)) held)
            (stops_at_sync h next (set_held m h None) clear_now)
            (let b = busy_holding m h x held in omega (arith, low, b))
            (d, (k, fewer, deep), let b = not_busy (set_held m h None) h clear_now none in omega (arith, b))
        by_hand None (Some rs) held opened =
            let clear_now = put_here m.chunk h None in
            work h (3 * d + 2 * length names + 1) (runs (Sync h next)) rs (batch rs settings.size) at ready.on.0 (λ a. refl) held opened
            (due_act ∙ (λ i. clear settings h (held i) (opened i) (Send h parcels.Sync)))
            (stops_at_sync h next (set_chunk m h None) held)
            (let b = busy_open m h rs held opened in omega (arith, low, b))
            (d, (k, fewer, deep), let b = not_busy (set_chunk m h None) h held clear_now in omega (arith, b))
        by_hand None None held opened =
            let had = serves_at h ready.on.0 (ap (λ z. stance_at m z h) at ∙ ap (λ z. hand (is_some z)) held) in
            let r = stop_at m (awaits h next) in
            let empty : s.down t.client h ≡ [] = ap (λ (q : Corner). q.down) had.2 in
            goes h (3 * d + 2 * length names) (Syncs had.0 had.1) (set_stage m (awaits h next)) (sent h parcels.Sync r)
            (let b = not_busy m h held opened in omega (arith, low, b))
            (send_step h parcels.Sync r (due_act ∙ (λ i. clear settings h (held i) (opened i) (Send h parcels.Sync))) empty (ap (after_sync settings u names m) at))
            (stopped_act h (3 * d + 2 * length names) (Syncs had.0 had.1) (sent h parcels.Sync r) m (awaits h next) ready.on.0 refl refl
            (sent_at h parcels.Sync r (corner_of t (Serves had.0 had.1)) had.2 refl) refl
            (sym (ap (λ b. if b then Asks else hand (is_some (m.held h))) (eqb_self h))) had.3
            (λ i apart. ap (λ b. if b then Asks else hand (is_some (m.held i))) apart ∙ ap (λ z. stance_at m z i) (sym at))
            (λ i apart. refl) (k, deep, omega (arith, fewer)))

    -- with a full chunk
    at_full : (h : ℕ) (rest : Synced) → m.stage ≡ full h rest → PlaceOk p t snt gt m pg (full h rest) → IsLeft (length names) n m (full h rest) → Goes
    at_full h rest at ready (some, d, deep, low) = by_chunk (m.chunk h) refl
      where
        by_chunk : (o : Option (List Request)) → m.chunk h ≡ o → Goes
        by_chunk None opened = absurd (true≢false (sym some ∙ ap is_some opened))
        by_chunk (Some rs) opened =
            let held = no_object m h rs (ready.not_both h) opened in
            let listed = by_list (reserves p t h) refl in
            let had = serves_at h listed (ap (λ z. stance_at m z h) at ∙ ap (λ z. hand (is_some z)) held) in
            let few : had.1 + 1 ≡ spare_room = sym (ap (λ z. had.1 + (if is_some z then 1 else 0)) opened) ∙ had.3 in
            let three : had.1 ≡ 3 = omega (arith, few) in
            let here : corner s t.client h ≡ corner_of t (Serves had.0 3) = had.2 ∙ ap (λ j. corner_of t (Serves had.0 j)) three in
            let other = set_chunk m h None in
            let now_none = put_here m.chunk h None in
            let rr = settle settings u names rest other in
            let parcel = parcels.Work (batch rs settings.size) in
            let empty : s.down t.client h ≡ [] = ap (λ (q : Corner). q.down) had.2 in
            goes h (3 * d + 2 * length names + 2) (Works had.0 (batch rs settings.size)) rr.client (sent h parcel rr) (omega (arith, low))
            (send_step h parcel rr (ap (act_at settings (blocks_in code t.client) m) at ∙ ap (λ o. clear settings h None o Finished) opened) empty
            (ap (after_work settings u names m h) at))
            (settled_act h (3 * d + 2 * length names + 2) (Works had.0 (batch rs settings.size)) (sent h parcel rr) other rr.client listed (settled settings u names d rest deep other) refl refl
            (sent_at h parcel rr (corner_of t (Serves had.0 3)) here refl) refl
            (sym (ap (λ z. hand (is_some z)) held)) (ap (λ z. 4 + (if is_some z then 1 else 0)) now_none)
            (λ g apart. refl) (λ g apart. put_there m.chunk h None g apart) (λ g apart. ap (λ z. stance_at m z g) at))
          where
            by_list : (b : Bool) → reserves p t h ≡ b → reserves p t h ≡ true
            by_list true e = e
            by_list false e = absurd (let f : Some rs ≡ None = sym opened ∙ (ready.own h e).1 in cc)

    -- as the object comes
    at_wait : (h : ℕ) (rest : Synced) → m.stage ≡ awaits h rest → PlaceOk p t snt gt m pg (awaits h rest) → IsLeft (length names) n m (awaits h rest) → Goes
    at_wait h rest at waiting (d, deep, low) =
        let had = lent_at h waiting.at (ap (λ z. stance_at m z h) at ∙ ap (λ b. if b then Asks else hand (is_some (m.held h))) (eqb_self h)) in
        let x = had.0 in
        let up : s.up t.client h ≡ Some x = ap (λ (q : Corner). q.up) had.2 in
        let other = set_held m h (Some x) in
        let now_held = put_here m.held h (Some x) in
        let rr = settle settings u names rest other in
        goes h (3 * d + 2 * length names + 2) (Away had.1) rr.client (got h rr) (omega (arith, low))
        (get_step h x rr (ap (act_at settings (blocks_in code t.client) m) at) up (ap (take_object settings u names m x) at))
        (settled_act h (3 * d + 2 * length names + 2) (Away had.1) (got h rr) other rr.client waiting.at (settled settings u names d rest deep other) refl refl
        (got_at h rr (corner_of t (Lent x had.1)) had.2) refl
        (sym (ap (λ z. hand (is_some z)) now_held)) had.3
        (λ g apart. put_there m.held h (Some x) g apart) (λ g apart. refl)
        (λ g apart. ap (λ z. stance_at m z g) at ∙ ap (λ b. if b then Asks else hand (is_some (m.held g))) apart))

    -- at the end of its block
    at_end : (h : ℕ) (hs : List ℕ) (l : Locals) → m.stage ≡ leaves h hs l → is_in hs h ≡ false → reserves p t h ≡ true → m.held h ≡ None → m.chunk h ≡ None
        → IsLeft (length names) n m (leaves h hs l) → Goes
    at_end h hs l at lined listed held opened low =
        let had = serves_at h listed (ap (λ z. stance_at m z h) at ∙ (ap (λ b. if b then hand (is_some (m.held h)) else Gone) first ∙ ap (λ z. hand (is_some z)) held)) in
        by_rest hs at lined low had
      where
        first : is_in (h ∷ hs) h ≡ true
        first = rw (eqb_self h) refl

        due_act : (gs : List ℕ) → m.stage ≡ leaves h gs l → next_act ≡ Send h parcels.End
        due_act gs is = ap (act_at settings (blocks_in code t.client) m) is ∙ (λ i. clear settings h (held i) (opened i) (Send h parcels.End))

        by_rest : (gs : List ℕ) → m.stage ≡ leaves h gs l → is_in gs h ≡ false → IsLeft (length names) n m (leaves h gs l)
            → (x : HeldState) × (k : ℕ) × (corner s t.client h ≡ corner_of t (Serves x k)) × (k + chunks_open m h ≡ spare_room) → Goes
        by_rest [] is apart left had =
            let r = stop_at m (between l) in
            let empty : s.down t.client h ≡ [] = ap (λ (q : Corner). q.down) had.2 in
            goes h 0 (Ends had.0 had.1) (set_stage m (between l)) (sent h parcels.End r) (omega (arith, left))
            (send_step h parcels.End r (due_act [] is) empty (ap (after_end settings u names m) is))
            (stopped_act h 0 (Ends had.0 had.1) (sent h parcels.End r) m (between l) listed refl refl
            (sent_at h parcels.End r (corner_of t (Serves had.0 had.1)) had.2 refl) refl refl had.3
            (λ i other. sym (ap (λ z. stance_at m z i) is ∙ ap (λ b. if b then hand (is_some (m.held i)) else Gone) (not_there i other)))
            (λ i other. refl) tt)
          where
            not_there : (i : ℕ) → (h == i) ≡ false → is_in (h ∷ []) i ≡ false
            not_there i other = rw other refl
        by_rest (g ∷ gs) is apart left had =
            let r = stop_at m (leaves g gs l) in
            let empty : s.down t.client h ≡ [] = ap (λ (q : Corner). q.down) had.2 in
            goes h (2 * length gs + 2) (Ends had.0 had.1) (set_stage m (leaves g gs l)) (sent h parcels.End r) (omega (arith, left))
            (send_step h parcels.End r (due_act (g ∷ gs) is) empty (ap (after_end settings u names m) is))
            (stopped_act h (2 * length gs + 2) (Ends had.0 had.1) (sent h parcels.End r) m (leaves g gs l) listed refl refl
            (sent_at h parcels.End r (corner_of t (Serves had.0 had.1)) had.2 refl) refl
            (sym (ap (λ b. if b then hand (is_some (m.held h)) else Gone) apart)) had.3
            (λ i other. ap (λ b. if b then hand (is_some (m.held i)) else Gone) (sym (as_before i other)) ∙ ap (λ z. stance_at m z i) (sym is))
            (λ i other. refl) (let b = busy_few m g in omega (arith, b)))
          where
            as_before : (i : ℕ) → (h == i) ≡ false → is_in (h ∷ g ∷ gs) i ≡ is_in (g ∷ gs) i
            as_before i other = rw other refl

    -- leaving its objects
    at_leaving : (h : ℕ) (hs : List ℕ) (l : Locals) → m.stage ≡ leaves h hs l → PlaceOk p t snt gt m pg (leaves h hs l) → IsLeft (length names) n m (leaves h hs l) → Goes
    at_leaving h hs l at leaving low = by_hand (m.held h) (m.chunk h) refl refl
      where
        listed : reserves p t h ≡ true
        listed = leaving.lined.1

        first : is_in (h ∷ hs) h ≡ true
        first = rw (eqb_self h) refl

        own : (a : Client) → stance_at a (leaves h hs l) h ≡ hand (is_some (a.held h))
        own a = ap (λ b. if b then hand (is_some (a.held h)) else Gone) first

        due_act : next_act ≡ clear settings h (m.held h) (m.chunk h) (Send h parcels.End)
        due_act = ap (act_at settings (blocks_in code t.client) m) at

        by_hand : (x : Option HeldState) (o : Option (List Request)) → m.held h ≡ x → m.chunk h ≡ o → Goes
        by_hand (Some x) o held opened =
            let none = no_chunk m h x (leaving.not_both h) held in
            let clear_now = put_here m.held h None in
            home h (2 * length hs + 1) (leaves h hs l) x at listed own held none
            (due_act ∙ ap (λ z. clear settings h z (m.chunk h) (Send h parcels.End)) held) refl
            (let b = busy_holding m h x held in omega (arith, low, b))
            (let b = not_busy (set_held m h None) h clear_now none in omega (arith, b))
        by_hand None (Some rs) held opened =
            let clear_now = put_here m.chunk h None in
            work h (2 * length hs + 1) (leaves h hs l) rs (batch rs settings.size) at listed own held opened
            (due_act ∙ (λ i. clear settings h (held i) (opened i) (Send h parcels.End))) refl
            (let b = busy_open m h rs held opened in omega (arith, low, b))
            (let b = not_busy (set_chunk m h None) h held clear_now in omega (arith, b))
        by_hand None None held opened = at_end h hs l at leaving.lined.0 listed held opened low

    by_stage : (g : ClientStage) → m.stage ≡ g → is_between g ≡ false → PlaceOk p t snt gt m pg g → IsLeft (length names) n m g → Goes
    by_stage (between l) at out place left = absurd (true≢false out)
    by_stage (runs (Call r next)) at out place left = at_call r next at place left
    by_stage (runs (Sync h next)) at out place left = at_sync h next at place left
    by_stage (full h rest) at out place left = at_full h rest at place left
    by_stage (awaits h rest) at out place left = at_wait h rest at place left
    by_stage (leaves h hs l) at out place left = at_leaving h hs l at place left
    by_stage (runs _) at out place left = absurd place.1

  -- in its block the client has a step, after which fewer are left
  pub client_turns : HasInvariant p sound mode code codes size s → is_between m.stage ≡ false → Goes
  client_turns kept inside =
      let place = kept.2.places t.client t.index (now.begun t.client ∙ latest) in
      by_stage (kept.0.sent t) (kept.0.got t) (kept.0.block_record t) m.stage refl inside place now.left

  -- a client that is between two blocks has nothing in hand
  pub nothing_open : HasInvariant p sound mode code codes size s → is_between m.stage ≡ true → (h : ℕ) → m.chunk h ≡ None
  nothing_open kept outside h =
      let place = kept.2.places t.client t.index (now.begun t.client ∙ latest) in
      by_stage_out m.stage outside place
    where
      by_stage_out : (g : ClientStage) → is_between g ≡ true → PlaceOk p t (kept.0.sent t) (kept.0.got t) m (kept.0.block_record t) g → m.chunk h ≡ None
      by_stage_out (between l) out leaving = (leaving.empty h refl).1
      by_stage_out _ out place = absurd (true≢false (sym out))
