-- A run of the optimised machine makes no more steps than its blocks have. What is left is counted: of the block that
-- each client is in (`ClientCosts`), of its blocks to come, and of what handlers have still to take and to give. Each
-- step leaves one less.
use Rattle.std.proofs.Common.{◌≡◌, ◌<◌, ◌≤◌, ◌∙◌, ◌+◌, ◌-◌, ◌==◌, ℕ, zero, suc, nat_lt, Bool, true, false, if◌then◌else◌, List, [], ◌∷◌, ◌++◌, Option, Some, None, length, get_or, sum_by, refl, sym, ap, ap₂, subst, ⊎_elim, inl, inr, arith, rules}
use Rattle.qs_played.proofs.Names.{length-append, sum_by-cons, HeldState, Ticket, num_cases, is_in, IsSound, Locals, sound_block, reserves, put, put_here, put_there, IsAsking, ticket, or_stay}
use Rattle.qs_played.specs.declared.schedule.actor.Actor.{Actor}
use Rattle.qs_objects.specs.declared.held.Next.TheVariants as nexts
use Rattle.qs_program.specs.audit.Program.{BlockShape, ClientShape, ProgramShape, block_load, blocks_of, client_at, no_client, text_of}
use Rattle.qs_core_laws.proofs.Names.{Synced, without_syncs, Mode, ClientCode, AreCodes, blocks_in, reserved_of, code_asks, lane_room, spare_room, Parcel, Handler, free, serves, spares, gives, away, closed, accept_next, accept_parcel, gave, longest, Client, Settlement, between, runs, act_of, after_parcel, begin, take_chunk, take_object, Act, Reserve, Send, Await, NeedChunk, longest_covers, Core, after_handler, client_step, core_begin, core_step, gets, gives_chunk, handler_step, put_lane, reserves_from, settings_of, takes_chunk, takes_parcel, takes_ticket, with_down, with_tickets, synced_block, CoreStands, CoreStepsAreBounded, core_steps_made, core_steps_of_block, most_core_steps_of}
use Rattle.qs_handler.specs.audit.Handler as handlers
use Rattle.qs_plain_laws.specs.progress.Steps.{made}
use Rattle.qs_plain_laws.proofs.progress.BlocksLeft.{left_all, left_by, left_one}
use Rattle.qs_plain_laws.proofs.progress.RequestCounts.{AtMost, tree_within}
use Rattle.qs_core_laws.proofs.protocol.ActObjects.{await_at, chunk_begun, got_begun, need_at, not_await, not_need, not_send, send_at, sent_begun, settle_begun}
use Rattle.qs_core_laws.proofs.protocol.ClientInvariants.{Lined, PlaceOk, Stops}
use Rattle.qs_core_laws.proofs.protocol.ObjectViews.{HandlerLog}
use Rattle.qs_core_laws.proofs.protocol.ReservedLists.{lined}
use Rattle.qs_core_laws.specs.audit.Core as core
use Rattle.qs_core_laws.proofs.CoreBounds.{CoreBounded, run_both, step_bounded}
use Rattle.qs_core_laws.proofs.protocol.ProgramTrees.{block_walk, reserved_is}
use Rattle.qs_core_laws.proofs.CoreInvariant.{CoreInvariant, LaneHistory}
use Rattle.qs_core_laws.proofs.CoreReached.{stands_reached}
use Rattle.qs_core_laws.proofs.CoreSteps.{HasInvariant, begun_by, has_more, is_between, step_kept}
use Rattle.qs_core_laws.proofs.HandlerSteps.{some_is}
use Rattle.qs_core_laws.proofs.progress.Chunks.{lane_here, lane_there}
use Rattle.qs_core_laws.proofs.progress.ClientCosts.{Falls, Needs, chunk_cost, got_falls, hand, hands, held_cost, in_block, need_falls, parcel_cost, place_cost, sent_falls, settle_falls}
use Rattle.qs_core_laws.proofs.progress.Stuck.{stands_of}
use Rattle.qs_core_laws.proofs.progress.Sums.{below, below_changed, below_listed, below_same, one_if, total}

-- ---- what handlers have still to do

abbrev lane_cost : List Parcel → ℕ
lane_cost [] = 0
lane_cost (p ∷ ps) = parcel_cost p + lane_cost ps

abbrev handler_cost : Handler → ℕ
handler_cost (spares t x n) = 1
handler_cost (gives t x) = 1
handler_cost _ = 0

lane_more : (ps : List Parcel) (p : Parcel) → lane_cost (ps ++ p ∷ []) ≡ lane_cost ps + parcel_cost p
lane_more [] p = omega arith
lane_more (q ∷ ps) p = let ih = lane_more ps p in omega (arith, ih)

accepted_cost : (v w : Handler) (p : Parcel) → accept_parcel v p ≡ Some w
    → handler_cost w + 1 ≤ handler_cost v + parcel_cost p
accepted_cost v w p e = search (rules, some_is)

next_cost : (v w : Handler) (t : Ticket) → accept_next v (nexts.Ticket t) ≡ Some w → handler_cost w ≡ handler_cost v
next_cost v w t e = search (rules, some_is)

below_plus : (f g e : ℕ → ℕ) (n : ℕ) → ((i : ℕ) → g i ≡ f i + e i) → below g n ≡ below f n + below e n
below_plus f g e zero same = refl
below_plus f g e (suc n) same = let one = same n in let others = below_plus f g e n same in omega (arith, one, others)

below_first : (f : ℕ → ℕ) (n : ℕ) → below f (suc n) ≡ f 0 + below (λ i. f (suc i)) n
below_first f zero = omega arith
below_first f (suc n) = let ih = below_first f n in omega (arith, ih)

below_list : {X : Type 0} (f : X → ℕ) (xs : List X) (d : X) → below (λ i. f (get_or xs i d)) (length xs) ≡ sum_by f xs
below_list f [] d = refl
below_list f (x ∷ xs) d = grind (arith, below_first, sum_by-cons, below_list f xs d)

below_none : (f : ℕ → ℕ) (n : ℕ) → ((i : ℕ) → f i ≡ 0) → below f n ≡ 0
below_none f zero none = refl
below_none f (suc n) none = let one = none n in let others = below_none f n none in omega (arith, one, others)

hand_none : (m : Client) (h : ℕ) → m.held h ≡ None → m.chunk h ≡ None → hand m h ≡ 0
hand_none m h none none' = ap₂ (λ x c. held_cost x + chunk_cost c) none none'

-- of the blocks from the k-th on
abbrev left_from : List BlockShape → ℕ → ℕ
left_from bs k = left_by core_steps_of_block bs k

total_none : (f : ℕ → ℕ) (hs : List ℕ) → ((h : ℕ) → f h ≡ 0) → total f hs ≡ 0
total_none f [] none = refl
total_none f (h ∷ hs) none = let one = none h in let others = total_none f hs none in omega (arith, one, others)

module _ (p : ProgramShape) where
  abbrev clients_in : ℕ
  clients_in = length p.clients

  abbrev lanes_cost : (ℕ → ℕ → List Parcel) → ℕ → ℕ
  lanes_cost down h = below (λ c. lane_cost (down c h)) clients_in

  abbrev at_handler : (ℕ → List Ticket) → (ℕ → Handler) → (ℕ → ℕ → List Parcel) → ℕ → ℕ
  at_handler tickets handler down h = length (tickets h) + (handler_cost (handler h) + lanes_cost down h)

  abbrev transit : (ℕ → List Ticket) → (ℕ → Handler) → (ℕ → ℕ → List Parcel) → ℕ
  transit tickets handler down = below (at_handler tickets handler down) (length p.objects)

  module _ (tickets : ℕ → List Ticket) (handler : ℕ → Handler) (down : ℕ → ℕ → List Parcel) (h : ℕ) (inside : h < length p.objects) where
    lane_changed : (c : ℕ) (ps : List Parcel) → c < clients_in
        → transit tickets handler (put_lane down c h ps) + lane_cost (down c h) ≡ transit tickets handler down + lane_cost ps
    lane_changed c ps less =
        let outer = below_changed (at_handler tickets handler down) (at_handler tickets handler (put_lane down c h ps)) h (length p.objects) inside
        (λ i other. ap (λ n. length (tickets i) + (handler_cost (handler i) + n))
        (below_same (λ d. lane_cost (down d i)) (λ d. lane_cost (put_lane down c h ps d i)) clients_in (λ d. ap lane_cost (lane_there down c h ps d i (inr other))))) in
        let inner = below_changed (λ d. lane_cost (down d h)) (λ d. lane_cost (put_lane down c h ps d h)) c clients_in less
        (λ d other. ap lane_cost (lane_there down c h ps d h (inl other))) in
        let here : lane_cost (put_lane down c h ps c h) ≡ lane_cost ps = ap lane_cost (lane_here down c h ps) in
        omega (arith, outer, inner, here)

    handler_changed : (v : Handler)
        → transit tickets (put handler h v) down + handler_cost (handler h) ≡ transit tickets handler down + handler_cost v
    handler_changed v =
        let outer = below_changed (at_handler tickets handler down) (at_handler tickets (put handler h v) down) h (length p.objects) inside
        (λ i other. ap (λ v. length (tickets i) + (handler_cost v + lanes_cost down i)) (put_there handler h v i other)) in
        let here : handler_cost (put handler h v h) ≡ handler_cost v = ap handler_cost (put_here handler h v) in
        omega (arith, outer, here)

    tickets_changed : (ts : List Ticket)
        → transit (put tickets h ts) handler down + length (tickets h) ≡ transit tickets handler down + length ts
    tickets_changed ts =
        let outer = below_changed (at_handler tickets handler down) (at_handler (put tickets h ts) handler down) h (length p.objects) inside
        (λ i other. ap (λ ts. length ts + (handler_cost (handler i) + lanes_cost down i)) (put_there tickets h ts i other)) in
        let here : length (put tickets h ts h) ≡ length ts = ap length (put_here tickets h ts) in
        omega (arith, outer, here)

  reserved_changed : (tickets : ℕ → List Ticket) (handler : ℕ → Handler) (down : ℕ → ℕ → List Parcel) (names : List ℕ) (t : Ticket)
      → transit (λ h. if is_in names h then tickets h ++ t ∷ [] else tickets h) handler down ≤ transit tickets handler down + length names
  reserved_changed tickets handler down names t =
      let both = below_plus (at_handler tickets handler down) (at_handler (λ h. if is_in names h then tickets h ++ t ∷ [] else tickets h) handler down) (λ h. one_if (is_in names h)) (length p.objects)
      (λ h. one h (is_in names h)) in
      let few = below_listed names (length p.objects) in
      omega (arith, both, few)
    where
      one : (h : ℕ) (b : Bool)
          → length (if b then tickets h ++ t ∷ [] else tickets h) + (handler_cost (handler h) + lanes_cost down h) ≡ at_handler tickets handler down h + one_if b
      one h v = grind (arith, length-append)

module _ (p : ProgramShape) (sound : IsSound p) (mode : Mode) (code : ℕ → ClientCode) (codes : AreCodes p mode code) (size : ℕ) where
  abbrev names_at : ℕ → ℕ → List ℕ
  names_at c begun = reserved_of code (ticket c (begun - 1))

  -- what is left of a client's block and of those to come, with so many requests
  abbrev cost_with : ℕ → Client → ℕ → ℕ → ℕ
  cost_with c m n begun = place_cost (names_at c begun) m n m.stage + left_from (client_at p c).blocks begun

  abbrev cost_of : ℕ → Client → ℕ → ℕ
  cost_of c m n = cost_with c m n m.begun

  abbrev all_costs : (ℕ → Client) → (ℕ → ℕ) → ℕ
  all_costs client need = below (λ c. cost_of c (client c) (need c)) (length p.clients)

  record LeftOf (client : ℕ → Client) (tickets : ℕ → List Ticket) (handler : ℕ → Handler) (down : ℕ → ℕ → List Parcel) (n : ℕ) : Type 0 where
    pub need : ℕ → ℕ
    pub needs : (c : ℕ) → Needs (client c).stage (need c)
    pub most : all_costs client need + transit p tickets handler down ≤ n

  abbrev StepsLeft : Core → ℕ → Type 0
  StepsLeft s n = LeftOf s.client s.tickets s.handler s.down n

  -- one less is left
  abbrev Less : Core → ℕ → Type 0
  Less s n = (m : ℕ) × (suc m ≤ n) × StepsLeft s m

  module _ (s : Core) (y : LaneHistory) (g : ℕ → HandlerLog) (k : CoreInvariant p s y g) (st : CoreStands p code size s) (n : ℕ) (left : StepsLeft s n) where
    abbrev asks_for : ℕ → Act
    asks_for c = act_of (settings_of code size c) (blocks_in code c) (s.client c)

    abbrev now : ℕ → Ticket
    now c = ticket c ((s.client c).begun - 1)

    abbrev names_of : ℕ → List ℕ
    names_of c = reserved_of code (now c)

    abbrev in_transit : ℕ
    in_transit = transit p s.tickets s.handler s.down

    one_of : (test : Bool) (a s' : Core) → (if test then Some a else None) ≡ Some s' → Less a n → Less s' n
    one_of v a s' e h = search (rules, some_is)

    -- one client has moved
    client_moves : (c : ℕ) → c < length p.clients
        → (m : Client) (need : ℕ) (tickets : ℕ → List Ticket) (down : ℕ → ℕ → List Parcel) (e : ℕ) → Needs m.stage need
        → cost_of c m need + suc e ≤ cost_of c (s.client c) (left.need c)
        → transit p tickets s.handler down ≤ in_transit + e
        → (l : ℕ) × (suc l ≤ n) × LeftOf (put s.client c m) tickets s.handler down l
    client_moves c less m need tickets down e needs fewer few =
        let all = below_changed (λ d. cost_of d (s.client d) (left.need d)) (λ d. cost_of d (put s.client c m d) (put left.need c need d)) c (length p.clients) less
        (λ d other. ap₂ (λ m n. cost_of d m n) (put_there s.client c m d other) (put_there left.need c need d other)) in
        let here : cost_of c (put s.client c m c) (put left.need c need c) ≡ cost_of c m need = ap₂ (λ m n. cost_of c m n) (put_here s.client c m) (put_here left.need c need) in
        let most = left.most in (
          all_costs (put s.client c m) (put left.need c need) + transit p tickets s.handler down,
          omega (arith, all, here, most, fewer, few),
          record {
            need = put left.need c need;
            needs = search (rules, left, put_here, put_there, num_cases);
            most = omega arith;
          },
        )

    -- in its block
    acts_in_block : (c : ℕ) → c < length p.clients → (r : Settlement) → r.client.begun ≡ (s.client c).begun
        → (tickets : ℕ → List Ticket) (down : ℕ → ℕ → List Parcel) (e : ℕ)
        → Falls (names_of c) r.client (suc e) (place_cost (names_of c) (s.client c) (left.need c) (s.client c).stage)
        → transit p tickets s.handler down ≤ in_transit + e
        → (l : ℕ) × (suc l ≤ n) × LeftOf (put s.client c r.client) tickets s.handler down l
    acts_in_block c less r same_begun tickets down e f few =
        let same : cost_of c r.client f.need ≡ cost_with c r.client f.need (s.client c).begun = ap (λ b. cost_with c r.client f.need b) same_begun in
        let fits = f.fits in
        client_moves c less r.client f.need tickets down e f.needs (omega (arith, same, fits)) few

    names_are : (c : ℕ) → names_of c ≡ (text_of p (now c)).reserved
    names_are c = reserved_is p sound mode code codes (now c)

    in_line : (c : ℕ) → Lined (reserves p (now c)) (names_of c)
    in_line c = subst (Lined (reserves p (now c))) (sym (names_are c)) (lined p sound (now c))

    named : (c h : ℕ) → reserves p (now c) h ≡ true → is_in (names_of c) h ≡ true
    named c h e = subst (λ names. is_in names h ≡ true) (sym (names_are c)) e

    begun_of : (c : ℕ) (act : Act) → asks_for c ≡ act
        → ((l : Locals) → (s.client c).stage ≡ between l → asks_for c ≡ act → ⊥)
        → (s.client c).begun ≡ suc ((s.client c).begun - 1)
    begun_of c act e non = begun_by p sound mode code codes size s y g k c act e non

    place : (c : ℕ) → (s.client c).begun ≡ suc ((s.client c).begun - 1)
        → PlaceOk p (now c) (y.sent (now c)) (y.got (now c)) (s.client c) (y.block_record (now c)) (s.client c).stage
    place c begun = k.places c ((s.client c).begun - 1) begun

    module _ (c : ℕ) (less : c < length p.clients) where
      send_less : (h : ℕ) (parcel : Parcel) (s' : Core) → asks_for c ≡ Send h parcel
          → core.sends code size s c h parcel ≡ Some s' → Less s' n
      send_less h parcel s' act e =
          let begun = begun_of c (Send h parcel) act (λ l i a. not_send (settings_of code size c) (blocks_in code c) (s.client c) l h parcel i a) in
          let at = send_at p (now c) (y.sent (now c)) (y.got (now c)) (settings_of code size c) (blocks_in code c) (s.client c) (y.block_record (now c)) (s.client c).stage (place c begun) h parcel act in
          let r : Settlement = after_parcel (settings_of code size c) (now c) (names_of c) (s.client c) h parcel in
          let way = lane_changed p s.tickets s.handler s.down h (st.clients.sends c h parcel act) c (s.down c h ++ parcel ∷ []) less in
          let longer = lane_more (s.down c h) parcel in
          one_of (nat_lt (length (s.down c h)) lane_room) _ s' e
          (acts_in_block c less r (sent_begun (settings_of code size c) (now c) (names_of c) (s.client c) h parcel) s.tickets (put_lane s.down c h (s.down c h ++ parcel ∷ [])) (parcel_cost parcel)
          (sent_falls (names_of c) (settings_of code size c) (now c) (reserves p (now c)) (in_line c) (blocks_in code c) (s.client c) h (named c h at.0) (left.need c) parcel (left.needs c) act)
          (omega (arith, way, longer)))

      stops : PlaceOk p (now c) (y.sent (now c)) (y.got (now c)) (s.client c) (y.block_record (now c)) (s.client c).stage
          → (rest : Synced) → (s.client c).stage ≡ runs rest → Stops rest
      stops ok rest is = search (rules, now)

      get_less : (h : ℕ) (o : Option HeldState) (s' : Core) → asks_for c ≡ Await h → gets code size s c h o ≡ Some s'
          → Less s' n
      get_less h None s' act e = absurd (cc)
      get_less h (Some x) s' act e =
          let begun = begun_of c (Await h) act (λ l i a. not_await (settings_of code size c) (blocks_in code c) (s.client c) l h i a) in
          let at = await_at p (now c) (y.sent (now c)) (y.got (now c)) (settings_of code size c) (blocks_in code c) (s.client c) (y.block_record (now c)) (s.client c).stage (place c begun) h act in
          let r : Settlement = take_object (settings_of code size c) (now c) (names_of c) (s.client c) x (s.client c).stage in
          subst (λ s. Less s n) (some_is _ s' e)
          (acts_in_block c less r (got_begun (settings_of code size c) (now c) (names_of c) (s.client c) h x (s.client c).stage) s.tickets s.down 0
          (got_falls (names_of c) (settings_of code size c) (now c) (reserves p (now c)) (in_line c) (blocks_in code c) (s.client c) h (named c h at.0) (s.client c).stage (left.need c) x
          (stops (place c begun)) (left.needs c) act)
          (omega arith))

      chunk_less : (h m : ℕ) (s' : Core) → asks_for c ≡ NeedChunk h → takes_chunk code size s c h m ≡ Some s'
          → Less s' n
      chunk_less h zero s' act e = absurd (cc)
      chunk_less h (suc m) s' act e =
          let begun = begun_of c (NeedChunk h) act (λ l i a. not_need (settings_of code size c) (blocks_in code c) (s.client c) l h i a) in
          let mine = need_at p (now c) (y.sent (now c)) (y.got (now c)) (settings_of code size c) (blocks_in code c) (s.client c) (y.block_record (now c)) (s.client c).stage (place c begun) h act in
          let r : Settlement = take_chunk (settings_of code size c) (now c) (names_of c) (s.client c) h (s.client c).stage in
          subst (λ s. Less s n) (some_is _ s' e)
          (acts_in_block c less r (chunk_begun (settings_of code size c) (now c) (names_of c) (s.client c) h (s.client c).stage) s.tickets s.down 0
          (need_falls (names_of c) (settings_of code size c) (now c) (reserves p (now c)) (in_line c) (blocks_in code c) (s.client c) h (named c h mine) (s.client c).stage (left.need c) (left.needs c) act)
          (omega arith))

      -- between blocks it has nothing in hand
      empty_hands : (j : ℕ) (l : Locals) → (s.client c).begun ≡ j → (s.client c).stage ≡ between l → (names : List ℕ)
          → hands names (s.client c) ≡ 0
      empty_hands zero l b at names = search (rules, total_none, names, k, b, hand_none)
      empty_hands (suc j) l b at names =
          let ok = subst (PlaceOk p (ticket c j) (y.sent (ticket c j)) (y.got (ticket c j)) (s.client c) (y.block_record (ticket c j))) at (k.places c j b) in
          total_none _ names (λ h. let none = ok.empty h refl in hand_none (s.client c) h none.0 none.1)

      -- it reserves
      module _ (l : Locals) (at : (s.client c).stage ≡ between l) (some : (s.client c).begun < blocks_of p c) where
        abbrev b : ℕ
        b = (s.client c).begun

        abbrev t : Ticket
        t = ticket c b

        abbrev names : List ℕ
        names = reserved_of code t

        abbrev r : Settlement
        r = begin (settings_of code size c) t names (s.client c) (synced_block code t l)

        most : AtMost (without_syncs (synced_block code t l)) (block_load (text_of p t))
        most =
            subst (λ i. AtMost i (block_load (text_of p t))) (sym (block_walk p sound mode code codes t l some).0)
            (tree_within p.objects (text_of p t) l (sound_block p c b sound less some).body)

        asking : IsAsking (synced_block code t l)
        asking =
            code_asks p mode c (code c) sound (codes.own c less) b (longest (code c).blocks) l some (longest_covers (code c).blocks b)

        begun_falls : Falls names r.client 0 (in_block names (block_load (text_of p t)) (record (s.client c) { begun = suc b }))
        begun_falls = search (rules, settle_falls, names, b, most, asking)

        longer : r.client.begun ≡ suc b
        longer = search (rules, settle_begun, names, b)

        last : suc b - 1 ≡ b
        last = omega arith

        zero_first : (x : ℕ) → 0 + x ≡ x
        zero_first x = omega arith

        before : cost_of c (s.client c) (left.need c) ≡ left_from (client_at p c).blocks b
        before = search (rules, left, left_from, b, zero_first)

        after : (need : ℕ)
            → cost_of c r.client need ≡ place_cost names r.client need r.client.stage + left_from (client_at p c).blocks (suc b)
        after need = search (rules, b, longer, left_from, last)

        reserved_less : Less (core.after_reserve code size s c t l r) n
        reserved_less =
            client_moves c less r.client begun_falls.need _ s.down (length names) begun_falls.needs
            (let fits = begun_falls.fits in
            let one = left_one core_steps_of_block (client_at p c).blocks b some in
            let long : length names ≡ length (text_of p t).reserved = ap length (reserved_is p sound mode code codes t) in
            let none : hands names (s.client c) ≡ 0 = empty_hands b l refl at names in
            let old = before in
            let new = after begun_falls.need in
            omega (arith, fits, one, long, none, old, new))
            (reserved_changed p s.tickets s.handler s.down names t)

      reserve_less : (s' : Core) → asks_for c ≡ Reserve → reserves_from code size s c (s.client c).stage ≡ Some s'
          → Less s' n
      reserve_less s' act e = search (rules, is_between, some_is, reserved_less, has_more)

      client_less : (act : Act) (s' : Core) → asks_for c ≡ act → client_step code size s c act ≡ Some s' → Less s' n
      client_less act s' act' e = search (rules, reserve_less, send_less, get_less, chunk_less)

    -- one handler has moved
    module _ (h : ℕ) (inside : h < length p.objects) where
      handler_moves : (v : Handler) (tickets : ℕ → List Ticket) (down : ℕ → ℕ → List Parcel)
          → suc (transit p tickets (put s.handler h v) down) ≤ in_transit
          → (l : ℕ) × (suc l ≤ n) × LeftOf s.client tickets (put s.handler h v) down l
      handler_moves v tickets down fewer = search rules

      ticket_less : (ts : List Ticket) (s' : Core) → s.tickets h ≡ ts → takes_ticket code size s h ts ≡ Some s'
          → Less s' n
      ticket_less [] s' lies e = absurd (cc)
      ticket_less (t ∷ ts) s' lies e = by_next (accept_next (s.handler h) (nexts.Ticket t)) refl e
        where
          by_next : (o : Option Handler) → accept_next (s.handler h) (nexts.Ticket t) ≡ o
              → after_handler code size (with_tickets code size s h ts) h o ≡ Some s' → Less s' n
          by_next None o e = absurd (cc)
          by_next (Some v) o e =
              let one = handler_changed p (put s.tickets h ts) s.handler s.down h inside v in
              let other = tickets_changed p s.tickets s.handler s.down h inside ts in
              let same_cost = next_cost (s.handler h) v t o in
              let long = ap length lies in
              subst (λ s. Less s n) (some_is _ s' e) (handler_moves v (put s.tickets h ts) s.down (omega (arith, one, other, same_cost, long)))

      parcel_less : (c : ℕ) (ps : List Parcel) (s' : Core) → c < length p.clients → s.down c h ≡ ps
          → takes_parcel code size s h c ps ≡ Some s' → Less s' n
      parcel_less c [] s' less lies e = absurd (cc)
      parcel_less c (parcel ∷ ps) s' less lies e = by_next (accept_parcel (s.handler h) parcel) refl e
        where
          by_next : (o : Option Handler) → accept_parcel (s.handler h) parcel ≡ o
              → after_handler code size (with_down code size s c h ps) h o ≡ Some s' → Less s' n
          by_next None o e = absurd (cc)
          by_next (Some v) o e =
              let one = handler_changed p s.tickets s.handler (put_lane s.down c h ps) h inside v in
              let other = lane_changed p s.tickets s.handler s.down h inside c ps less in
              let paid = accepted_cost (s.handler h) v parcel o in
              let long = ap lane_cost lies in
              subst (λ s. Less s n) (some_is _ s' e) (handler_moves v s.tickets (put_lane s.down c h ps) (omega (arith, one, other, paid, long)))

      gave_less : handler_cost (s.handler h) ≡ 1 → handler_cost (gave (s.handler h)) ≡ 0
          → (l : ℕ) × (suc l ≤ n) × LeftOf s.client s.tickets (put s.handler h (gave (s.handler h))) s.down l
      gave_less before after =
          let one = handler_changed p s.tickets s.handler s.down h inside (gave (s.handler h)) in
          handler_moves (gave (s.handler h)) s.tickets s.down (omega (arith, one, before, after))

      give_less : (t : Ticket) (x : HeldState) (o : Option HeldState) (s' : Core) → s.handler h ≡ gives t x
          → core.gives code size s h t.client x o ≡ Some s' → Less s' n
      give_less t x w s' v e = search (rules, some_is, gave_less)

      spare_less : (t : Ticket) (x : HeldState) (m : ℕ) (s' : Core) → s.handler h ≡ spares t x m
          → gives_chunk code size s h t.client ≡ Some s' → Less s' n
      spare_less t x m s' v e = search (rules, one_of, gave_less)

      handler_less : (v : Handler) (s' : Core) → s.handler h ≡ v
          → handler_step code size s h (handlers.act_of v) ≡ Some s' → Less s' n
      handler_less (free x) s' v e = ticket_less (s.tickets h) s' refl e
      handler_less (serves t x) s' v e = search (rules, parcel_less, st)
      handler_less (spares t x m) s' v e = spare_less t x m s' v e
      handler_less (gives t x) s' v e = give_less t x (s.up t.client h) s' v e
      handler_less (away t) s' v e = search (rules, parcel_less, st)
      handler_less (closed x) s' v e = absurd (cc)

    step_less : (a : Actor) (s' : Core) → core_step code size s a ≡ Some s' → Less s' n
    step_less a s' e = search (rules, client_less, handler_less)

  abbrev Kept : Core → Type 0
  Kept s = HasInvariant p sound mode code codes size s × CoreBounded p sound mode code codes size s

  stands_kept : (s : Core) (k : Kept s) → CoreStands p code size s
  stands_kept s k = stands_of p code size s (stands_reached p sound mode code codes size s k.0.0 k.0.1 k.0.2 k.1)

  steps_within : (actors : List Actor) (s : Core) → Kept s → (n : ℕ) → StepsLeft s n
      → core_steps_made code size actors s ≤ n
  steps_within [] s k n left = omega arith
  steps_within (a ∷ rest) s k n left =
      by_step (core_step code size s a) refl (λ s k n left. steps_within rest s k n left)
    where
      by_step : (o : Option Core) → core_step code size s a ≡ o
          → ((s : Core) → Kept s → (n : ℕ) → StepsLeft s n → core_steps_made code size rest s ≤ n)
          → made o + core_steps_made code size rest (or_stay s o) ≤ n
      by_step None e later = let same = later s k n left in omega (arith, same)
      by_step (Some s') e later =
          let next = step_less s k.0.0 k.0.1 k.0.2 (stands_kept s k) n left a s' e in
          let less = next.1 in
          let kept : Kept s' = (step_kept p sound mode code codes size s k.0.0 k.0.1 k.0.2 a s' e, step_bounded p sound mode code codes size s k.0 k.1 a s' e) in
          let others = later s' kept next.0 next.2 in
          omega (arith, less, others)

  begin_left : StepsLeft (core_begin p) (most_core_steps_of p)
  begin_left = record {
    need = λ c. 0;
    needs = λ c. tt;
    most =
        (let each = below_same (λ c. sum_by core_steps_of_block (client_at p c).blocks) (λ c. 0 + left_from (client_at p c).blocks 0) (length p.clients)
        (λ c. let all = left_all core_steps_of_block (client_at p c).blocks in omega (arith, all)) in
        let all = below_list (λ (c : ClientShape). sum_by core_steps_of_block c.blocks) p.clients no_client in
        let none = below_none (at_handler p (core_begin p).tickets (core_begin p).handler (core_begin p).down) (length p.objects)
        (λ h. let lanes = below_none (λ c. 0) (length p.clients) (λ c. refl) in omega (arith, lanes)) in
        omega (arith, each, all, none));
  }

pub core_steps_bounded : CoreStepsAreBounded
core_steps_bounded p sound mode code codes size actors =
    steps_within p sound mode code codes size actors (core_begin p) (run_both p sound mode code codes size []) (most_core_steps_of p)
    (begin_left p sound mode code codes size)
