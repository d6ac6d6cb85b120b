-- Each step of the optimised machine keeps its invariant, so every list of actors does, from the beginning on.
-- Isolation is read off the invariant (`run_kept`), and the bounds and the counts are kept along the same steps. The
-- proof goes by cases on the actor and on its act, where each kind of step has its own lemma in another file, and then
-- by induction on the list.
use Rattle.std.proofs.Common.{◌≡◌, ◌<◌, ◌-◌, ℕ, zero, suc, nat_lt, Bool, true, false, if◌then◌else◌, List, [], ◌∷◌, ◌++◌, length, refl, sym, ap, ◌∙◌, subst, Option, Some, None, arith, rules}
use Rattle.qs_played.proofs.Names.{HeldState, Ticket, block_tree, ProgramShape, blocks_of, zeros, put, is_in, IsSound, Locals, blocks_ask_only, ticket, fresh_held, or_stay}
use Rattle.qs_played.specs.declared.schedule.actor.Actor.{Actor}
use Rattle.qs_objects.specs.declared.held.Next.TheVariants as nexts
use Rattle.qs_core_laws.proofs.Names.{Mode, ClientCode, AreCodes, blocks_in, sends, Parcel, Handler, free, serves, spares, gives, away, closed, accept_next, accept_parcel, gave, Settlement, act_of, between, after_parcel, take_object, take_chunk, begin, Act, Reserve, Send, Await, NeedChunk, Finished, lane_room, spare_room, Core, client_step, core_begin, core_step, gets, gives_chunk, after_handler, handler_step, handles, lies, put_lane, reserves_from, settings_of, after_act, syncs_after, takes_chunk, takes_parcel, takes_ticket, with_down, with_spare, with_tickets, with_up, synced_block, core_plays}
use Rattle.qs_handler.specs.audit.Handler as handlers
use Rattle.qs_played.specs.declared.schedule.actor.Actor.TheVariants as actor
use Rattle.qs_core_laws.proofs.protocol.ObjectViews.{HandlerLog}
use Rattle.qs_core_laws.proofs.protocol.ActObjects.{not_send, not_await, not_need, reserve_at}
use Rattle.qs_core_laws.proofs.CoreInvariant.{LaneHistory, CoreInvariant}
use Rattle.qs_core_laws.proofs.protocol.ReservedLists.{lined}
use Rattle.qs_core_laws.proofs.protocol.ProgramTrees.{blocks_are, reserved_is, block_walk}
use Rattle.qs_core_laws.proofs.HandlerSteps.{some_is, take_kept, serves_kept, away_kept, give_kept, spare_kept}
use Rattle.qs_core_laws.proofs.SendingPreserved.{send_kept, get_kept, chunk_kept}
use Rattle.qs_core_laws.proofs.BookingPreserved.{reserve_kept}
use Rattle.qs_core_laws.specs.audit.Core as core

positive : (n : ℕ) → (n ≡ 0 → ⊥) → n ≡ suc (n - 1)
positive v non = grind arith

-- a client that reserves has a block left
reserves_more : (b : Bool) → (if b then Reserve else Finished) ≡ Reserve → b ≡ true
reserves_more v e = search rules

module _ (program : ProgramShape) (sound : IsSound program) (mode : Mode) (code : ℕ → ClientCode) (codes : AreCodes program mode code) (size : ℕ) where
  abbrev pub HasInvariant : Core → Type 0
  HasInvariant s = (y : LaneHistory) × (g : ℕ → HandlerLog) × CoreInvariant program s y g

  module _ (s : Core) (y : LaneHistory) (g : ℕ → HandlerLog) (k : CoreInvariant program s y g) where
    one_of : (b : Bool) (a s' : Core) → (if b then Some a else None) ≡ Some s' → HasInvariant a → HasInvariant s'
    one_of v a s' e h = search (rules, some_is)

    -- what the client does next
    abbrev pub next_of : ℕ → Act
    next_of c = act_of (settings_of code size c) (blocks_in code c) (s.client c)

    pub begun_by : (c : ℕ) (act : Act) → next_of c ≡ act → ((l : Locals) → (s.client c).stage ≡ between l → next_of c ≡ act → ⊥) → (s.client c).begun ≡ suc ((s.client c).begun - 1)
    begun_by c act e non = positive (s.client c).begun (λ z. non zeros (k.idle c z).0 e)

    abbrev now : ℕ → Ticket
    now c = ticket c ((s.client c).begun - 1)

    send_does : (c h : ℕ) (parcel : Parcel) (s' : Core) → next_of c ≡ Send h parcel → core.sends code size s c h parcel ≡ Some s' → HasInvariant s'
    send_does c h parcel s' act e =
        one_of (nat_lt (length (s.down c h)) lane_room) _ s' e
        (subst (λ names. HasInvariant (after_act code size (lies code size s c h parcel) c (now c) (after_parcel (settings_of code size c) (now c) names (s.client c) h parcel))) (sym (reserved_is program sound mode code codes (now c)))
        (send_kept program (lined program sound) (settings_of code size c) (blocks_in code c) s y g k c ((s.client c).begun - 1) h parcel (syncs_after code size s.syncs c parcel)
        (core.sync_counts_after code size s.sync_counts (now c) h parcel)
        (begun_by c (Send h parcel) act (λ l i a. not_send (settings_of code size c) (blocks_in code c) (s.client c) l h parcel i a)) act))

    get_does : (c h : ℕ) (o : Option HeldState) (s' : Core) → s.up c h ≡ o → next_of c ≡ Await h → gets code size s c h o ≡ Some s' → HasInvariant s'
    get_does c h None s' up act e = absurd (cc)
    get_does c h (Some x) s' up act e =
        subst HasInvariant (some_is _ s' e)
        (subst (λ names. HasInvariant (after_act code size (with_up code size s c h None) c (now c) (take_object (settings_of code size c) (now c) names (s.client c) x (s.client c).stage))) (sym (reserved_is program sound mode code codes (now c)))
        (get_kept program (lined program sound) (settings_of code size c) (blocks_in code c) s y g k c ((s.client c).begun - 1) h x
        (begun_by c (Await h) act (λ l i a. not_await (settings_of code size c) (blocks_in code c) (s.client c) l h i a)) act up))

    chunk_does : (c h n : ℕ) (s' : Core) → next_of c ≡ NeedChunk h → takes_chunk code size s c h n ≡ Some s' → HasInvariant s'
    chunk_does c h zero s' act e = absurd (cc)
    chunk_does c h (suc n) s' act e =
        subst HasInvariant (some_is _ s' e)
        (subst (λ names. HasInvariant (after_act code size (with_spare code size s c h n) c (now c) (take_chunk (settings_of code size c) (now c) names (s.client c) h (s.client c).stage))) (sym (reserved_is program sound mode code codes (now c)))
        (chunk_kept program (lined program sound) (settings_of code size c) (blocks_in code c) s y g k c ((s.client c).begun - 1) h (put_lane s.spare c h n)
        (begun_by c (NeedChunk h) act (λ l i a. not_need (settings_of code size c) (blocks_in code c) (s.client c) l h i a)) act))

    pub is_between : (c n : ℕ) → (s.client c).begun ≡ n → next_of c ≡ Reserve → (l : Locals) × ((s.client c).stage ≡ between l)
    is_between c v b act = search (rules, k, reserve_at)

    pub has_more : (c : ℕ) (l : Locals) → (s.client c).stage ≡ between l → next_of c ≡ Reserve → (s.client c).begun < blocks_of program c
    has_more c l at act = search (rules, reserves_more, blocks_are)

    -- the machine's own reservation, by the list that the program's text has
    abbrev booked_core : ℕ → Ticket → Locals → List ℕ → Core
    booked_core c t l names =
        let r : Settlement = begin (settings_of code size c) t names (s.client c) (synced_block code t l) in
        record {
          order = s.order ++ t ∷ [];
          client = put s.client c r.client;
          syncs = s.syncs;
          sync_counts = s.sync_counts;
          down = s.down;
          up = s.up;
          spare = s.spare;
          handler = s.handler;
          tickets = λ h. if is_in names h then s.tickets h ++ t ∷ [] else s.tickets h;
          entry = core.put_ticket s.entry t l;
          trace = core.put_ticket s.trace t r.events;
        }

    reserve_does : (c : ℕ) (s' : Core) → next_of c ≡ Reserve → reserves_from code size s c (s.client c).stage ≡ Some s' → HasInvariant s'
    reserve_does c s' act e =
        let at = is_between c (s.client c).begun refl act in
        let t : Ticket = ticket c (s.client c).begun in
        let some = has_more c at.0 at.1 act in
        let w = block_walk program sound mode code codes t at.0 some in
        subst HasInvariant (some_is _ s' (sym (ap (reserves_from code size s c) at.1) ∙ e))
        (subst (λ names. HasInvariant (booked_core c t at.0 names)) (sym (reserved_is program sound mode code codes t))
        (reserve_kept program (blocks_ask_only program sound) (lined program sound) s y g k (settings_of code size c) c (s.client c).begun refl some at.0 at.1 (synced_block code t at.0) w.0 w.1 w.2))

    client_does : (c : ℕ) (act : Act) (s' : Core) → next_of c ≡ act → client_step code size s c act ≡ Some s' → HasInvariant s'
    client_does c act s' act' e = search (rules, reserve_does, send_does, get_does, chunk_does)

    ticket_does : (h : ℕ) (x : HeldState) (ts : List Ticket) (s' : Core) → s.handler h ≡ free x → s.tickets h ≡ ts → takes_ticket code size s h ts ≡ Some s' → HasInvariant s'
    ticket_does h x [] s' v q e = absurd (cc)
    ticket_does h x (t ∷ ts) s' v q e =
        subst HasInvariant (some_is _ s' (sym (ap (λ v. after_handler code size (with_tickets code size s h ts) h (accept_next v (nexts.Ticket t))) v) ∙ e)) (y, _, take_kept program s y g k h x t ts v q)

    -- a parcel that was taken leads the handler somewhere
    handled_to : (a : Core) (h : ℕ) (o : Option Handler) (s' : Core) → after_handler code size a h o ≡ Some s' → (v : Handler) × (o ≡ Some v) × (handles code size a h v ≡ s')
    handled_to a h w s' e = search (rules, some_is)

    serves_does : (h : ℕ) (t : Ticket) (x : HeldState) (ps : List Parcel) (s' : Core) → s.handler h ≡ serves t x → s.down t.client h ≡ ps → takes_parcel code size s h t.client ps ≡ Some s' → HasInvariant s'
    serves_does h t x [] s' v q e = absurd (cc)
    serves_does h t x (parcel ∷ ps) s' v q e =
        let to = handled_to (with_down code size s t.client h ps) h (accept_parcel (s.handler h) parcel) s' e in
        let r = serves_kept program s y g k h t x parcel ps to.0 v q (sym (ap (λ v. accept_parcel v parcel) v) ∙ to.1) in
        subst HasInvariant to.2 (y, r.0, r.1)

    away_does : (h : ℕ) (t : Ticket) (ps : List Parcel) (s' : Core) → s.handler h ≡ away t → s.down t.client h ≡ ps → takes_parcel code size s h t.client ps ≡ Some s' → HasInvariant s'
    away_does h t [] s' v q e = absurd (cc)
    away_does h t (parcel ∷ ps) s' v q e =
        let to = handled_to (with_down code size s t.client h ps) h (accept_parcel (s.handler h) parcel) s' e in
        let r = away_kept program s y g k h t parcel ps to.0 v q (sym (ap (λ v. accept_parcel v parcel) v) ∙ to.1) in
        subst HasInvariant to.2 (y, r.0, r.1)

    give_does : (h : ℕ) (t : Ticket) (x : HeldState) (o : Option HeldState) (s' : Core) → s.handler h ≡ gives t x → s.up t.client h ≡ o → core.gives code size s h t.client x o ≡ Some s' → HasInvariant s'
    give_does h t x None s' v q e =
        let r = give_kept program s y g k h t x v q in
        subst HasInvariant (some_is _ s' (sym (ap (λ v. Some (handles code size (with_up code size s t.client h (Some x)) h (gave v))) v) ∙ e)) (y, r.0, r.1)
    give_does h t x (Some u) s' v q e = absurd (cc)

    spare_does : (h : ℕ) (t : Ticket) (x : HeldState) (n : ℕ) (s' : Core) → s.handler h ≡ spares t x n → gives_chunk code size s h t.client ≡ Some s' → HasInvariant s'
    spare_does h t x n s' v e =
        let m = suc (s.spare t.client h) in
        let r = spare_kept program s y g k h t x n (put_lane s.spare t.client h m) v in
        one_of (nat_lt (s.spare t.client h) spare_room) (handles code size (with_spare code size s t.client h m) h (serves t x)) s'
        (sym (ap (λ v. if nat_lt (s.spare t.client h) spare_room then Some (handles code size (with_spare code size s t.client h m) h (gave v)) else None) v) ∙ e) (y, r.0, r.1)

    handler_does : (h : ℕ) (v : Handler) (s' : Core) → s.handler h ≡ v → handler_step code size s h (handlers.act_of v) ≡ Some s' → HasInvariant s'
    handler_does h (free x) s' v e = ticket_does h x (s.tickets h) s' v refl e
    handler_does h (serves t x) s' v e = serves_does h t x (s.down t.client h) s' v refl e
    handler_does h (spares t x n) s' v e = spare_does h t x n s' v e
    handler_does h (gives t x) s' v e = give_does h t x (s.up t.client h) s' v refl e
    handler_does h (away t) s' v e = away_does h t (s.down t.client h) s' v refl e
    handler_does h (closed x) s' v e = absurd (cc)

    pub step_kept : (a : Actor) (s' : Core) → core_step code size s a ≡ Some s' → HasInvariant s'
    step_kept v s' e = search (rules, client_does, next_of, handler_does)

  stays_kept : (s : Core) (o : Option Core) → ((s' : Core) → o ≡ Some s' → HasInvariant s') → HasInvariant s → HasInvariant (or_stay s o)
  stays_kept s None step k = k
  stays_kept s (Some s') step k = step s' refl

  pub plays_kept : (actors : List Actor) (s : Core) → HasInvariant s → HasInvariant (core_plays code size actors s)
  plays_kept [] s k = k
  plays_kept (a ∷ rest) s k = plays_kept rest (or_stay s (core_step code size s a)) (stays_kept s (core_step code size s a) (λ s' e. step_kept s k.0 k.1 k.2 a s' e) k)

  pub begin_kept : HasInvariant (core_begin program)
  begin_kept = (
    record {
      block_record = λ t. record { entry = []; trace = []; rest = block_tree program (ticket 0 0) [] };
      sent = λ t h. [];
      got = λ t h. [];
      stands = λ t h. sends [];
    },
    (λ h. record { received = λ t. []; way = λ t. []; gave = λ t. []; lent = fresh_held program h; past = []; found = fresh_held program h }),
    record {
      legal = tt;
      counts = λ c. refl;
      below = tt;
      tickets_ok = tt;
      entry = λ t. refl;
      trace = λ t. refl;
      idle = λ c e. (refl, λ h. (refl, refl));
      places = λ c n e. absurd (cc);
      stands = λ c n e h. absurd (cc);
      older = λ c n lt h m. absurd (omega (arith, lt));
      outside = λ t h no. (refl, refl);
      objects = search rules;
    },
  )

  pub run_kept : (actors : List Actor) → HasInvariant (core_plays code size actors (core_begin program))
  run_kept actors = plays_kept actors (core_begin program) begin_kept
