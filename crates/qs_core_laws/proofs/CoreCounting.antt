-- Each step of the optimised machine keeps, for each block and object, how many Syncs the block has sent, and the
-- counts in the machine say these numbers. The exact counts at the end (`CoreSyncs`) are read off this. The proof goes
-- by cases on the actor and its act: only a client that sends a Sync changes a number, by one, and then induction on
-- the list of actors.
use Rattle.std.proofs.Common.{◌≡◌, ◌<◌, ◌≤◌, ℕ, zero, suc, ◌-◌, ◌==◌, nat_lt, Bool, true, false, if◌then◌else◌, is_some, List, [], ◌∷◌, ◌++◌, length, map, refl, sym, ap, ◌∙◌, subst, ⊎_elim, Option, Some, None, arith, rules}
use Rattle.qs_played.proofs.Names.{sum_by, range_with_len, sum_by_push, HeldState, same, Event, Ticket, apart_eqb, num_cases, ticket_cases, ProgramShape, blocks_of, text_of, put, IsSound, reserves, Locals, Among, legal_apart, syncs_along, object_of, with_sync, syncs_for, SyncCount, IsAsking, ticket, or_stay}
use Rattle.qs_played.specs.declared.schedule.actor.Actor.{Actor}
use Rattle.qs_core_laws.proofs.Names.{Mode, ClientCode, AreCodes, blocks_in, reserved_of, code_asks, Parcel, Handler, gave, accept_parcel, accept_next, Client, Settlement, between, begin, take_object, after_parcel, take_chunk, longest, Act, Reserve, Send, Await, NeedChunk, distinct_objects, reserved_inside, none_for, objects_none, objects_stay, sent_for, each_among, among_once, legal_among, put_all, put_at_here, put_at_there, no_block_beyond, legal_blocks, sum_tickets, sum_up, sum_zero, sum_of, total_of, spare_room, synced_block, core_plays, longest_covers}
use Rattle.qs_chunk.specs.declared.parcel.Parcel.TheVariants as parcels
use Rattle.qs_handler.specs.audit.Handler as handlers
use Rattle.qs_handler.specs.declared.mind.Act as handler_acts
use Rattle.qs_played.specs.declared.schedule.actor.Actor.TheVariants as actor
use Rattle.qs_core_laws.proofs.protocol.ActObjects.{not_send, not_await, not_need, send_at, settle_begun, sent_begun, got_begun, chunk_begun}
use Rattle.qs_core_laws.proofs.protocol.ClientCounts.{CountAt, Counts, Even, Over, chunk_counts, count_up, got_counts, send_counts, settle_counts}
use Rattle.qs_core_laws.proofs.protocol.ClientInvariants.{PlaceOk, Leaving}
use Rattle.qs_core_laws.proofs.protocol.ObjectViews.{HandlerLog}
use Rattle.qs_core_laws.specs.audit.Core.{Core, client_step, core_begin, core_step, gets, gives, gives_chunk, after_handler, handler_step, handles, lies, put_ticket, after_reserve, reserves_from, sends, settings_of, after_act, takes_chunk, takes_parcel, takes_ticket, with_spare, with_up}
use Rattle.qs_core_laws.proofs.CoreInvariant.{LaneHistory, CoreInvariant}
use Rattle.qs_core_laws.proofs.CoreSteps.{HasInvariant, begin_kept, begun_by, has_more, is_between, next_of, step_kept}
use Rattle.qs_core_laws.proofs.HandlerSteps.{some_is}

module _ (program : ProgramShape) (sound : IsSound program) (mode : Mode) (code : ℕ → ClientCode) (codes : AreCodes program mode code) (size : ℕ) where
  -- what a client sent in its block so far
  abbrev pub At : Ticket → Locals → List Event → (ℕ → ℕ) → Client → Type 0
  At t l tr n m = CountAt (settings_of code size t.client) t (reserved_of code t) (synced_block code t l) tr n m m.stage

  -- and in a block that has ended
  abbrev pub Past : Ticket → Locals → List Event → (ℕ → ℕ) → Type 0
  Past t l tr n = Over (settings_of code size t.client) t (reserved_of code t) (synced_block code t l) tr n

  -- `n` says how many Syncs each ticket has sent for each object
  pub record Counted (order : List Ticket) (client : ℕ → Client) (syncs : ℕ → ℕ) (entry : Ticket → Locals) (trace : Ticket → List Event)
      (n : Ticket → ℕ → ℕ) : Type 0 where
    pub newest : (c k : ℕ) → (client c).begun ≡ suc k → At (ticket c k) (entry (ticket c k)) (trace (ticket c k)) (n (ticket c k)) (client c)
    pub older : (c k : ℕ) → suc k < (client c).begun → Past (ticket c k) (entry (ticket c k)) (trace (ticket c k)) (n (ticket c k))
    pub fresh : (c k : ℕ) → (client c).begun ≤ k → (h : ℕ) → n (ticket c k) h ≡ 0
    pub total : total_of program n order ≡ sum_by syncs (range_with_len 0 (length program.clients))

  -- what a client has come to in its block, by these numbers
  abbrev CountsOf : Core → Ticket → (ℕ → ℕ) → Settlement → Type 0
  CountsOf s t f r = Counts (settings_of code size t.client) t (reserved_of code t) (synced_block code t (s.entry t)) (s.trace t) f r

  abbrev pub CountedBy : Core → (Ticket → ℕ → ℕ) → Type 0
  CountedBy s n = Counted s.order s.client s.syncs s.entry s.trace n

  -- the counts that are kept for a ticket are those of the objects of its block's list, in order, and say these numbers
  pub record HasCounts (n : Ticket → ℕ → ℕ) (counts : Ticket → List SyncCount) (t : Ticket) : Type 0 where
    pub objects : map object_of (counts t) ≡ (text_of program t).reserved
    pub numbers : (h : ℕ) → syncs_for (counts t) h ≡ n t h

  abbrev pub HaveCounts : (Ticket → ℕ → ℕ) → (Ticket → List SyncCount) → Type 0
  HaveCounts n counts = (t : Ticket) → HasCounts n counts t

  abbrev pub AreCounted : Core → Type 0
  AreCounted s = (n : Ticket → ℕ → ℕ) × CountedBy s n × HaveCounts n s.sync_counts

  one_of : (b : Bool) (a s' : Core) → (if b then Some a else None) ≡ Some s' → AreCounted a → AreCounted s'
  one_of v a s' e h = search (rules, some_is)

  module _ (s : Core) (n : Ticket → ℕ → ℕ) (k : CountedBy s n) (given : HaveCounts n s.sync_counts) where
    -- what a client does in its block, where this is counted of it then and others stay
    in_block : (c j : ℕ) → (s.client c).begun ≡ suc j → (r : Settlement) → r.client.begun ≡ (s.client c).begun → (syncs : ℕ → ℕ) (m : Ticket → ℕ → ℕ)
        → CountsOf s (ticket c j) (m (ticket c j)) r
        → ((u : Ticket) → same (ticket c j) u ≡ false → m u ≡ n u) → total_of program m s.order ≡ sum_by syncs (range_with_len 0 (length program.clients))
        → Counted s.order (put s.client c r.client) syncs s.entry (put_ticket s.trace (ticket c j) (s.trace (ticket c j) ++ r.events)) m
    in_block c j b r rb syncs m now others total =
        let t : Ticket = ticket c j in
        let tr : Ticket → List Event = put_ticket s.trace t (s.trace t ++ r.events) in
        record {
          newest = λ d i. put_all (λ d (x : Client). (i : ℕ) → x.begun ≡ suc i → At (ticket d i) (s.entry (ticket d i)) (tr (ticket d i))
              (m (ticket d i)) x) s.client c r.client
              (λ i e. let is : j ≡ i = omega (arith, b, rb, e) in
              subst (λ i. At (ticket c i) (s.entry (ticket c i)) (tr (ticket c i)) (m (ticket c i)) r.client) is
              (subst (λ es. At t (s.entry t) es (m t) r.client) (sym (put_at_here s.trace t (s.trace t ++ r.events))) now))
              (λ d other i e.
              let apart : same t (ticket d i) ≡ false = rw other refl in
              subst (λ es. At (ticket d i) (s.entry (ticket d i)) es (m (ticket d i)) (s.client d))
              (sym (put_at_there s.trace t (s.trace t ++ r.events) (ticket d i) apart))
              (subst (λ f. At (ticket d i) (s.entry (ticket d i)) (s.trace (ticket d i)) f (s.client d)) (sym (others (ticket d i) apart))
              (k.newest d i e))) d i;
          older = grind (arith, put_all, k, ticket_cases);
          fresh = λ d i. put_all (λ d (x : Client). (i : ℕ) → x.begun ≤ i → (h : ℕ) → m (ticket d i) h ≡ 0) s.client c r.client
              (λ i low h. ⊎_elim
              (λ (is : t ≡ ticket c i). let p : j ≡ i = ap (λ (t : Ticket). t.index) is in absurd (omega (arith, p, b, rb, low)))
              (λ (apart : same t (ticket c i) ≡ false). ap (λ (f : ℕ → ℕ). f h) (others (ticket c i) apart) ∙ k.fresh c i (omega (arith, rb, low)) h)
              (ticket_cases t (ticket c i)))
              (λ d other i low h. ap (λ (f : ℕ → ℕ). f h) (others (ticket d i) (rw other refl)) ∙ k.fresh d i low h) d i;
          total = total;
        }
      where
        past_still : (u : Ticket) → same (ticket c j) u ≡ false → Past u (s.entry u) (s.trace u) (n u)
            → Past u (s.entry u) (put_ticket s.trace (ticket c j) (s.trace (ticket c j) ++ r.events) u) (m u)
        past_still u apart past = search (rules, put_at_there)

    -- where no Sync is sent
    without_sync : (c j : ℕ) → (s.client c).begun ≡ suc j → (r : Settlement) → r.client.begun ≡ (s.client c).begun
        → CountsOf s (ticket c j) (n (ticket c j)) r
        → Counted s.order (put s.client c r.client) s.syncs s.entry (put_ticket s.trace (ticket c j) (s.trace (ticket c j) ++ r.events)) n
    without_sync c j b r rb now = in_block c j b r rb s.syncs n now (λ u apart. refl) k.total

    module _ (y : LaneHistory) (g : ℕ → HandlerLog) (kept : CoreInvariant program s y g) where
      abbrev asks_for : ℕ → Act
      asks_for c = next_of program sound mode code codes size s y g kept c

      -- the ticket of the block that a client is in stands in the order
      in_order : (c j : ℕ) → (s.client c).begun ≡ suc j → Among (ticket c j) s.order
      in_order c j b = let many = kept.counts c in legal_among program (λ _. 0) s.order c j kept.legal (omega arith) (omega (arith, b, many))

      is_client : (c j : ℕ) → (s.client c).begun ≡ suc j → c < length program.clients
      is_client c j b =
          let block = each_among (λ (t : Ticket). t.index < blocks_of program t.client) (ticket c j) s.order
          (legal_blocks program (λ _. 0) s.order kept.legal) (in_order c j b) in
          no_block_beyond program c (omega (arith, block))

      -- one more for h of the block that the client is in
      one_more : (c j h : ℕ) → (s.client c).begun ≡ suc j → h < length program.objects
          → total_of program (put_ticket n (ticket c j) (put (n (ticket c j)) h (suc (n (ticket c j) h)))) s.order
          ≡ sum_by (put s.syncs c (suc (s.syncs c))) (range_with_len 0 (length program.clients))
      one_more c j h b inside =
          let t : Ticket = ticket c j in
          let more : ℕ → ℕ = put (n t) h (suc (n t h)) in
          let new : Ticket → ℕ → ℕ = put_ticket n t more in
          let here : sum_of program (new t) ≡ suc (sum_of program (n t)) = ap (sum_of program) (put_at_here n t more) ∙ sum_up (n t) h
          (length program.objects) inside in
          let all = sum_tickets (λ u. sum_of program (new u)) (λ u. sum_of program (n u)) t here
          (λ u apart. ap (sum_of program) (put_at_there n t more u apart)) s.order in
          let once = among_once t s.order (legal_apart program (λ _. 0) s.order kept.legal) (in_order c j b) in
          let client = sum_up s.syncs c (length program.clients) (is_client c j b) in
          let old = k.total in
          omega (arith, all, once, client, old)

      begun_at : (c : ℕ) (act : Act) → asks_for c ≡ act → ((l : Locals) → (s.client c).stage ≡ between l → asks_for c ≡ act → ⊥)
          → (s.client c).begun ≡ suc ((s.client c).begun - 1)
      begun_at c act e other = begun_by program sound mode code codes size s y g kept c act e other

      abbrev now : ℕ → Ticket
      now c = ticket c ((s.client c).begun - 1)

      -- what the client did once it sent this
      abbrev after_sent : ℕ → ℕ → Parcel → Settlement
      after_sent c h parcel = after_parcel (settings_of code size c) (now c) (reserved_of code (now c)) (s.client c) h parcel

      sent_counts : (c h : ℕ) (parcel : Parcel) → asks_for c ≡ Send h parcel → (s.client c).begun ≡ suc ((s.client c).begun - 1)
          → CountsOf s (now c) (count_up (settings_of code size c) (now c) (reserved_of code (now c)) (synced_block code (now c) (s.entry (now c)))
          (n (now c)) h parcel)
          (after_sent c h parcel)
      sent_counts c h parcel act b =
          send_counts (settings_of code size c) (now c) (reserved_of code (now c)) (synced_block code (now c) (s.entry (now c))) (blocks_in code c)
          (s.trace (now c)) (n (now c)) (s.client c)
          (k.newest c ((s.client c).begun - 1) b) h parcel act

      asked_of : (c h : ℕ) (parcel : Parcel) → asks_for c ≡ Send h parcel → (s.client c).begun ≡ suc ((s.client c).begun - 1)
          → reserves program (now c) h ≡ true
      asked_of c h parcel act b =
          let t = now c in
          (send_at program t (y.sent t) (y.got t) (settings_of code size c) (blocks_in code c) (s.client c) (y.block_record t) (s.client c).stage
          (kept.places c ((s.client c).begun - 1) b) h parcel act).0

      -- the count that is kept is one more for h
      ok_more : (t : Ticket) (h : ℕ) → reserves program t h ≡ true
          → HaveCounts (put_ticket n t (put (n t) h (suc (n t h)))) (put_ticket s.sync_counts t (with_sync h (s.sync_counts t)))
      ok_more t h listed u = search (rules, put_at_here, objects_stay, sent_for, distinct_objects, put_at_there, ticket_cases)

      reserved_by : (c h : ℕ) (parcel : Parcel) → asks_for c ≡ Send h parcel → (s.client c).begun ≡ suc ((s.client c).begun - 1) → h < length program.objects
      reserved_by c h parcel act b =
          reserved_inside program sound (now c) h (asked_of c h parcel act b)

      begun_still : (c h : ℕ) (parcel : Parcel) → (after_sent c h parcel).client.begun ≡ (s.client c).begun
      begun_still c h parcel = sent_begun (settings_of code size c) (now c) (reserved_of code (now c)) (s.client c) h parcel

      sent_by : (c h : ℕ) (parcel : Parcel) → asks_for c ≡ Send h parcel → (s.client c).begun ≡ suc ((s.client c).begun - 1)
          → AreCounted (after_act code size (lies code size s c h parcel) c (now c) (after_sent c h parcel))
      sent_by c h (parcels.Home x) act b =
          let parcel = parcels.Home x in
          (n, without_sync c ((s.client c).begun - 1) b (after_sent c h parcel) (begun_still c h parcel) (sent_counts c h parcel act b), given)
      sent_by c h (parcels.Work rs) act b =
          let parcel = parcels.Work rs in
          (n, without_sync c ((s.client c).begun - 1) b (after_sent c h parcel) (begun_still c h parcel) (sent_counts c h parcel act b), given)
      sent_by c h parcels.End act b =
          (n, without_sync c ((s.client c).begun - 1) b (after_sent c h parcels.End) (begun_still c h parcels.End) (sent_counts c h parcels.End act b), given)
      sent_by c h parcels.Sync act b =
          let t = now c in
          let more : ℕ → ℕ = put (n t) h (suc (n t h)) in (
            put_ticket n t more,
            in_block c ((s.client c).begun - 1) b (after_sent c h parcels.Sync) (begun_still c h parcels.Sync)
                (put s.syncs c (suc (s.syncs c))) (put_ticket n t more)
                (subst (λ f. CountsOf s t f (after_sent c h parcels.Sync)) (sym (put_at_here n t more)) (sent_counts c h parcels.Sync act b))
                (λ u apart. put_at_there n t more u apart) (one_more c ((s.client c).begun - 1) h b (reserved_by c h parcels.Sync act b)),
            ok_more t h (asked_of c h parcels.Sync act b),
          )

      send_does : (c h : ℕ) (parcel : Parcel) (s' : Core) → asks_for c ≡ Send h parcel → sends code size s c h parcel ≡ Some s' → AreCounted s'
      send_does c h parcel s' act e = search (rules, begun_at, not_send, one_of, sent_by)

      get_does : (c h : ℕ) (o : Option HeldState) (s' : Core) → asks_for c ≡ Await h → gets code size s c h o ≡ Some s' → AreCounted s'
      get_does c h None s' act e = absurd (cc)
      get_does c h (Some x) s' act e =
          let t = now c in
          let j = (s.client c).begun - 1 in
          let b = begun_at c (Await h) act (λ l i a. not_await (settings_of code size c) (blocks_in code c) (s.client c) l h i a) in
          let r : Settlement = take_object (settings_of code size c) t (reserved_of code t) (s.client c) x (s.client c).stage in
          subst AreCounted (some_is (after_act code size (with_up code size s c h None) c t r) s' e) (
            n,
            without_sync c j b r (got_begun (settings_of code size c) t (reserved_of code t) (s.client c) h x (s.client c).stage)
                (got_counts (settings_of code size c) t (reserved_of code t) (synced_block code t (s.entry t)) (s.trace t) (n t) (s.client c) x
                (s.client c).stage (k.newest c j b)),
            given,
          )

      chunk_does : (c h m : ℕ) (s' : Core) → asks_for c ≡ NeedChunk h → takes_chunk code size s c h m ≡ Some s' → AreCounted s'
      chunk_does c h zero s' act e = absurd (cc)
      chunk_does c h (suc m) s' act e =
          let t = now c in
          let j = (s.client c).begun - 1 in
          let b = begun_at c (NeedChunk h) act (λ l i a. not_need (settings_of code size c) (blocks_in code c) (s.client c) l h i a) in
          let r : Settlement = take_chunk (settings_of code size c) t (reserved_of code t) (s.client c) h (s.client c).stage in
          subst AreCounted (some_is (after_act code size (with_spare code size s c h m) c t r) s' e) (
            n,
            without_sync c j b r (chunk_begun (settings_of code size c) t (reserved_of code t) (s.client c) h (s.client c).stage)
                (chunk_counts (settings_of code size c) t (reserved_of code t) (synced_block code t (s.entry t)) (s.trace t) (n t) (s.client c) h
                (s.client c).stage (k.newest c j b)),
            given,
          )

      -- a client between blocks holds nothing
      none_held : (c m : ℕ) (l : Locals) → (s.client c).begun ≡ m → (s.client c).stage ≡ between l → (h : ℕ) → (s.client c).held h ≡ None
      none_held c zero l b at h = ((kept.idle c b).1 h).0
      none_held c (suc j) l b at h =
          let t = ticket c j in
          let ok : Leaving program t (y.sent t) (y.got t) (s.client c) (y.block_record t) [] l =
          subst (PlaceOk program t (y.sent t) (y.got t) (s.client c) (y.block_record t)) at (kept.places c j b) in
          (ok.empty h refl).0

      -- and all its blocks have ended
      all_past : (c m i : ℕ) (l : Locals) → (s.client c).begun ≡ m → (s.client c).stage ≡ between l → suc i < suc m
          → Past (ticket c i) (s.entry (ticket c i)) (s.trace (ticket c i)) (n (ticket c i))
      all_past c m i l b at less = ⊎_elim
          (λ (is : m ≡ suc i).
          let t = ticket c i in
          subst (CountAt (settings_of code size c) t (reserved_of code t) (synced_block code t (s.entry t)) (s.trace t) (n t) (s.client c)) at
          (k.newest c i (b ∙ is)))
          (λ (other : (m == suc i) ≡ false). let apart = apart_eqb m (suc i) other in k.older c i (omega (arith, apart, b, less)))
          (num_cases m (suc i))

      -- the block that the client reserves next
      abbrev after_booked : ℕ → ℕ → Locals → Settlement
      after_booked c m l = begin (settings_of code size c) (ticket c m) (reserved_of code (ticket c m)) (s.client c) (synced_block code (ticket c m) l)

      reserved_counts : (c m : ℕ) (l : Locals) → (s.client c).begun ≡ m → (s.client c).stage ≡ between l → IsAsking (synced_block code (ticket c m) l)
          → Counted (s.order ++ ticket c m ∷ []) (put s.client c (after_booked c m l).client) s.syncs (put_ticket s.entry (ticket c m) l)
          (put_ticket s.trace (ticket c m) (after_booked c m l).events) n
      reserved_counts c m l b at asking =
          let t : Ticket = ticket c m in
          let r : Settlement = after_booked c m l in
          let tree = synced_block code t l in
          let settings = settings_of code size c in
          let names = reserved_of code t in
          let began : Client = record (s.client c) { begun = suc (s.client c).begun } in
          let rb : r.client.begun ≡ suc m = settle_begun settings t names tree began ∙ ap suc b in
          let en : Ticket → Locals = put_ticket s.entry t l in
          let tr : Ticket → List Event = put_ticket s.trace t r.events in
          let none : (h : ℕ) → n t h ≡ 0 = k.fresh c m (omega (arith, b)) in
          let start : Even settings t names tree [] (n t) (λ h. is_some ((s.client c).held h)) tree =
          λ h es. ap (λ x. syncs_along settings.dynamic h x tree es) (sym (ap is_some (none_held c m l b at h))) ∙ (let z = none h in omega (arith, z)) in
          let now : At t l r.events (n t) r.client = settle_counts settings t names tree tree [] (n t) began asking start in
          record {
            newest = λ d i. put_all (λ d (x : Client). (i : ℕ) → x.begun ≡ suc i → At (ticket d i) (en (ticket d i)) (tr (ticket d i))
                (n (ticket d i)) x) s.client c r.client
                (λ i e. let is : m ≡ i = omega (arith, rb, e) in
                subst (λ i. At (ticket c i) (en (ticket c i)) (tr (ticket c i)) (n (ticket c i)) r.client) is
                (subst (λ e. At t e (tr t) (n t) r.client) (sym (put_at_here s.entry t l))
                (subst (λ es. At t l es (n t) r.client) (sym (put_at_here s.trace t r.events)) now)))
                (λ d other i e.
                let apart : same t (ticket d i) ≡ false = rw other refl in
                subst (λ e. At (ticket d i) e (tr (ticket d i)) (n (ticket d i)) (s.client d)) (sym (put_at_there s.entry t l (ticket d i) apart))
                (subst (λ es. At (ticket d i) (s.entry (ticket d i)) es (n (ticket d i)) (s.client d))
                (sym (put_at_there s.trace t r.events (ticket d i) apart)) (k.newest d i e))) d i;
            older = grind (arith, put_all, all_past, ticket_cases, k);
            fresh = grind (arith, put_all, k);
            total = grind (arith, sum_by_push, sum_zero, k);
          }
        where
          past_still : (u : Ticket) → same (ticket c m) u ≡ false → Past u (s.entry u) (s.trace u) (n u)
              → Past u (put_ticket s.entry (ticket c m) l u) (put_ticket s.trace (ticket c m) (after_booked c m l).events u) (n u)
          past_still u apart past = search (rules, put_at_there)

      tree_asks : (c m : ℕ) (l : Locals) → m < blocks_of program c → IsAsking (synced_block code (ticket c m) l)
      tree_asks c m l inside =
          let own = no_block_beyond program c (omega (arith, inside)) in
          code_asks program mode c (code c) sound (codes.own c own) m (longest (code c).blocks) l inside (longest_covers (code c).blocks m)

      reserve_does : (c : ℕ) (s' : Core) → asks_for c ≡ Reserve → reserves_from code size s c (s.client c).stage ≡ Some s' → AreCounted s'
      reserve_does c s' act e =
          let at = is_between program sound mode code codes size s y g kept c (s.client c).begun refl act in
          let m = (s.client c).begun in
          subst AreCounted (some_is (after_reserve code size s c (ticket c m) at.0 (after_booked c m at.0)) s' (sym (ap (reserves_from code size s c) at.1) ∙ e))
          (n, reserved_counts c m at.0 refl at.1 (tree_asks c m at.0 (has_more program sound mode code codes size s y g kept c at.0 at.1 act)), given)

      client_does : (c : ℕ) (act : Act) (s' : Core) → asks_for c ≡ act → client_step code size s c act ≡ Some s' → AreCounted s'
      client_does c act s' act' e = search (rules, reserve_does, send_does, get_does, chunk_does)

    -- the steps of handlers change nothing of this
    handled_does : (a : Core) → CountedBy a n → HaveCounts n a.sync_counts → (h : ℕ) (o : Option Handler) (s' : Core) → after_handler code size a h o ≡ Some s' → AreCounted s'
    handled_does a counted has_counts h None s' e = absurd (cc)
    handled_does a counted has_counts h (Some x) s' e = subst AreCounted (some_is (handles code size a h x) s' e)
        (n, record { newest = counted.newest; older = counted.older; fresh = counted.fresh; total = counted.total }, has_counts)

    ticket_does : (h : ℕ) (ts : List Ticket) (s' : Core) → takes_ticket code size s h ts ≡ Some s' → AreCounted s'
    ticket_does h ts s' e = search (rules, handled_does)

    parcel_does : (h c : ℕ) (ps : List Parcel) (s' : Core) → takes_parcel code size s h c ps ≡ Some s' → AreCounted s'
    parcel_does h c ps s' e = search (rules, handled_does)

    give_does : (h c : ℕ) (x : HeldState) (o : Option HeldState) (s' : Core) → gives code size s h c x o ≡ Some s' → AreCounted s'
    give_does h c x None s' e =
        subst AreCounted (some_is (handles code size (with_up code size s c h (Some x)) h (gave (s.handler h))) s' e)
        (n, record { newest = k.newest; older = k.older; fresh = k.fresh; total = k.total }, given)
    give_does h c x (Some u) s' e = absurd (cc)

    spare_does : (h c : ℕ) (s' : Core) → gives_chunk code size s h c ≡ Some s' → AreCounted s'
    spare_does h c s' e = search (rules, one_of, k)

    handler_does : (h : ℕ) (act : handler_acts.Act) (s' : Core) → handler_step code size s h act ≡ Some s' → AreCounted s'
    handler_does h act s' e = search (rules, ticket_does, parcel_does, give_does, spare_does)

    step_counted : (y : LaneHistory) (g : ℕ → HandlerLog) → CoreInvariant program s y g → (a : Actor) (s' : Core) → core_step code size s a ≡ Some s' → AreCounted s'
    step_counted y g kept (actor.Client c) s' e = client_does y g kept c (next_of program sound mode code codes size s y g kept c) s' refl e
    step_counted y g kept (actor.Handler h) s' e = handler_does h (handlers.act_of (s.handler h)) s' e

  abbrev KeptCounted : Core → Type 0
  KeptCounted s = HasInvariant program sound mode code codes size s × AreCounted s

  stays_both : (s : Core) (o : Option Core) → ((s' : Core) → o ≡ Some s' → KeptCounted s') → KeptCounted s → KeptCounted (or_stay s o)
  stays_both s None step k = k
  stays_both s (Some s') step k = step s' refl

  plays_both : (actors : List Actor) (s : Core) → KeptCounted s → KeptCounted (core_plays code size actors s)
  plays_both [] s k = k
  plays_both (a ∷ rest) s k =
      plays_both rest (or_stay s (core_step code size s a))
      (stays_both s (core_step code size s a) (λ s' e. (
        step_kept program sound mode code codes size s k.0.0 k.0.1 k.0.2 a s' e,
        step_counted s k.1.0 k.1.1 k.1.2 k.0.0 k.0.1 k.0.2 a s' e,
      )) k)

  begin_counted : CountedBy (core_begin program) (λ t h. 0)
  begin_counted = search (rules, sum_zero)

  begin_ok : HaveCounts (λ t h. 0) (core_begin program).sync_counts
  begin_ok t = record { objects = objects_none (text_of program t).reserved; numbers = λ h. none_for (text_of program t).reserved h }

  pub run_counted : (actors : List Actor) → KeptCounted (core_plays code size actors (core_begin program))
  run_counted actors = plays_both actors (core_begin program) (begin_kept program sound mode code codes size, ((λ t h. 0), begin_counted, begin_ok))
