-- In each state that the optimised machine comes to, the next parcel of a lane may stand there, acts name clients and
-- objects of the program, tickets come once, and each object can be found. The code relies on this for each of its
-- steps, by `reached_keeps`. It is read off the invariant and the bounds that every run keeps; the order is no longer
-- than the program has blocks, since it is legal.
use Rattle.std.proofs.Common.{◌≡◌, ◌≢◌, ◌<◌, ◌≤◌, ◌+◌, ◌-◌, arith, ℕ, suc, ◌==◌, Bool, true, false, if◌then◌else◌, List, [], ◌∷◌, ◌++◌, length, filter, sum_by, refl, sym, ap, ◌∙◌, subst, ⊎_elim, IsSome, IsTrue, rules}
use Rattle.qs_played.proofs.Names.{AllByRecursion, range_with_len, length-append, HeldState, same, Ticket, Request, eqb_self, num_cases, not_same, same_self, ticket_cases, reserves, ProgramShape, blocks_of, LegalFrom, put, IsSound, Locals, each_both, Apart, legal_apart, put_here, put_there, ticket, fresh_held}
use Rattle.qs_played.specs.declared.schedule.actor.Actor.{Actor}
use Rattle.qs_core_laws.proofs.Names.{Mode, ClientCode, AreCodes, blocks_in, Batch, may_stand, Parcel, Handler, free, serves, spares, gives, away, closed, is_away, serving, act_of, between, Act, reserved_inside, apart_kept, counts_after, no_block_beyond, sum_changed, sum_same, Core, core_begin, settings_of, core_plays, found_by, before_it}
use Rattle.qs_chunk.specs.LaneViews as views
use Rattle.qs_chunk.specs.declared.parcel.Parcel.TheVariants as parcels
use Rattle.qs_handler.specs.audit.Handler as handlers
use Rattle.qs_handler.specs.declared.mind.Act.TheVariants as acts
use Rattle.qs_client.specs.declared.rules.act.Act.TheVariants as wants
use Rattle.qs_core_laws.proofs.protocol.ActObjects.{await_at, need_at, not_await, not_need, not_send, send_at}
use Rattle.qs_core_laws.proofs.protocol.LaneWays.{MayCome}
use Rattle.qs_core_laws.proofs.protocol.ObjectViews.{HandlerLog}
use Rattle.qs_core_laws.specs.CoreReached.{NextStands, IsBegun, HandlersServe, ClientsAsk, TicketsStand, OthersRest, CoreStands, ReachedCore}
use Rattle.qs_core_laws.proofs.CoreBounds.{CoreBounded, run_both}
use Rattle.qs_core_laws.proofs.protocol.ReservedLists.{lined}
use Rattle.qs_core_laws.proofs.CoreInvariant.{LaneHistory, CoreInvariant}
use Rattle.qs_core_laws.proofs.CoreObjects.{object_found}
use Rattle.qs_core_laws.proofs.CoreSteps.{begun_by}
use Rattle.qs_core_laws.proofs.HandlerSteps.{away_first, of_ahead, serves_first}

-- a legal order begins at most the blocks that there are
counts_within : (p : ProgramShape) (b : ℕ → ℕ) (ts : List Ticket) → LegalFrom p b ts → ((c : ℕ) → b c ≤ blocks_of p c) → (c : ℕ) → counts_after b ts c ≤ blocks_of p c
counts_within p b [] legal low = low
counts_within p b (t ∷ ts) legal low = counts_within p (put b t.client (suc t.index)) ts legal.2 (λ c.
    ⊎_elim
    (λ (is : t.client ≡ c).
    subst (λ c. put b t.client (suc t.index) c ≤ blocks_of p c) is (let l = legal.1 in let here = put_here b t.client (suc t.index) in omega (arith, l, here)))
    (λ (other : (t.client == c) ≡ false). let there = put_there b t.client (suc t.index) c other in let old = low c in omega (arith, there, old))
    (num_cases t.client c))

-- a client's tickets are as many as its counts say
counted_from : (p : ProgramShape) (b : ℕ → ℕ) (ts : List Ticket) (c : ℕ) → LegalFrom p b ts → length (filter (λ (t : Ticket). t.client == c) ts) + b c ≡ counts_after b ts c
counted_from p b [] c legal = omega arith
counted_from p b (t ∷ ts) c legal = grind (arith, put_here, eqb_self, put_there, num_cases, counted_from p (put b t.client (suc t.index)) ts c legal.2)

-- an order is no longer than the blocks that are to come
abbrev left_of : ProgramShape → (ℕ → ℕ) → ℕ
left_of p b = sum_by (λ c. blocks_of p c - b c) (range_with_len 0 (length p.clients))

length_fits : (p : ProgramShape) (b : ℕ → ℕ) (ts : List Ticket) → LegalFrom p b ts → length ts ≤ left_of p b
length_fits p b [] legal = omega arith
length_fits p b (t ∷ ts) legal =
    let c = t.client in
    let at : t.index ≡ b c = legal.0 in
    let less : b c < blocks_of p c = (let l = legal.1 in omega (arith, at, l)) in
    let ih = length_fits p (put b c (suc t.index)) ts legal.2 in
    let within : c < length p.clients = no_block_beyond p c (omega (arith, less)) in
    let new : put b c (suc t.index) c ≡ suc (b c) = put_here b c (suc t.index) ∙ ap suc at in
    let all = sum_changed (λ d. blocks_of p d - b d) (λ d. blocks_of p d - put b c (suc t.index) d) c 0 (length p.clients)
    (λ d other. ap (λ n. blocks_of p d - n) (sym (put_there b c (suc t.index) d other))) (omega arith) (omega (arith, within)) in
    let changed_one : blocks_of p c - put b c (suc t.index) c ≡ blocks_of p c - suc (b c) = ap (λ n. blocks_of p c - n) new in
    omega (arith, ih, all, changed_one, less)

all_left : (p : ProgramShape) → left_of p (λ _. 0) ≡ sum_by (blocks_of p) (range_with_len 0 (length p.clients))
all_left p = sum_same (λ c. blocks_of p c - 0) (blocks_of p) 0 (length p.clients) (λ c le. omega arith)

filter_shorter : {X : Type 0} (f : X → Bool) (xs : List X) → length (filter f xs) ≤ length xs
filter_shorter f [] = omega arith
filter_shorter f (x ∷ xs) = grind (arith, filter, filter_shorter f xs)

apart_back : (xs ys : List Ticket) → Apart (xs ++ ys) → Apart ys
apart_back [] ys a = a
apart_back (x ∷ xs) ys a = apart_back xs ys a.1

-- a ticket stands at most once where none stands twice
at_most_once : (t : Ticket) (ts : List Ticket) → Apart ts → length (filter (same t) ts) ≤ 1
at_most_once t [] a = omega arith
at_most_once t (u ∷ us) a =
    ⊎_elim
    (λ (is : t ≡ u).
    let own : same t u ≡ true = subst (λ v. same t v ≡ true) is (same_self t) in
    let rest : length (filter (same t) us) ≡ 0 = none us (subst (λ v. AllByRecursion (λ w. v ≢ w) us) (sym is) a.0) in
    rw own (omega (arith, rest)))
    (λ (other : same t u ≡ false). rw other (at_most_once t us a.1))
    (ticket_cases t u)
  where
    none : (us : List Ticket) → AllByRecursion (λ w. t ≢ w) us → length (filter (same t) us) ≡ 0
    none [] n = refl
    none (w ∷ ws) n = rw (not_same t w n.0) (none ws n.1)

no_filter : {X : Type 0} (f : X → Bool) (xs : List X) → ((x : X) → f x ≡ false) → filter f xs ≡ []
no_filter f [] none = refl
no_filter f (x ∷ xs) none = rw (none x) (no_filter f xs none)

both_none : (xs ys : List Ticket) → [] ≡ xs ++ ys → (xs ≡ []) × (ys ≡ [])
both_none [] ys e = (refl, sym e)
both_none (x ∷ xs) ys e = absurd (cc)

may_come_stands : (z : HeldState) (parcel : Parcel) (way : List Parcel) → MayCome (views.serves z) parcel way → may_stand false parcel ≡ true
may_come_stands z v way m = search rules

may_come_home : (z : HeldState) (parcel : Parcel) (way : List Parcel) → MayCome (views.lent z) parcel way → may_stand true parcel ≡ true
may_come_home z v way m = search rules

module _ (program : ProgramShape) (sound : IsSound program) (mode : Mode) (code : ℕ → ClientCode) (codes : AreCodes program mode code) (size : ℕ)
    (s : Core) (y : LaneHistory) (g : ℕ → HandlerLog) (k : CoreInvariant program s y g) (b : CoreBounded program sound mode code codes size s) where
  next_stands : NextStands s
  next_stands c h parcel ps act down = by_handler (s.handler h) refl act
    where
      by_handler : (v : Handler) → s.handler h ≡ v → handlers.act_of v ≡ acts.TakeParcel c → IsTrue (may_stand (is_away (s.handler h)) parcel)
      by_handler (serves t x) e a =
          let is : t.client ≡ c = cc in
          let f = serves_first program s y g k h t x parcel ps e (ap (λ c. s.down c h) is ∙ down) in
          subst (λ v. IsTrue (may_stand (is_away v) parcel)) (sym e) (may_come_stands x parcel f.0 f.3)
      by_handler (away t) e a =
          let is : t.client ≡ c = cc in
          let f = away_first program s y g k h t parcel ps e (ap (λ c. s.down c h) is ∙ down) in
          subst (λ v. IsTrue (may_stand (is_away v) parcel)) (sym e) (may_come_home (g h).lent parcel f.0 f.3)
      by_handler _ e a = absurd (cc)

  -- tickets

  inside_of : (n : ℕ → ℕ) (ts : List Ticket) → LegalFrom program n ts → AllByRecursion (λ (t : Ticket). t.client < length program.clients) ts
  inside_of n [] legal = tt
  inside_of n (t ∷ ts) legal = (no_block_beyond program t.client (let l = legal.1 in omega (arith, l)), inside_of (put n t.client (suc t.index)) ts legal.2)

  order_begun : AllByRecursion (IsBegun program s) s.order
  order_begun = each_both {R = IsBegun program s} (λ (t : Ticket) (i : t.client < length program.clients) (l : suc t.index ≤ (s.client t.client).begun). (i, omega (arith, l))) s.order (inside_of (λ _. 0) s.order k.legal) k.below

  before_begun : (h : ℕ) → AllByRecursion (IsBegun program s) (before_it s h)
  before_begun h = of_ahead program s y g k (IsBegun program s) h order_begun

  apart_ahead : (h : ℕ) → Apart (before_it s h)
  apart_ahead h = apart_back (g h).past (before_it s h) (subst Apart (k.objects h).split (apart_kept (λ t. reserves program t h) s.order (legal_apart program (λ _. 0) s.order k.legal)))

  few_before : (h : ℕ) → length (before_it s h) ≤ sum_by (blocks_of program) (range_with_len 0 (length program.clients))
  few_before h =
      let part : length (filter (λ t. reserves program t h) s.order) ≡ length (g h).past + length (before_it s h) = ap length (k.objects h).split ∙ length-append (g h).past (before_it s h) in
      let shorter = filter_shorter (λ t. reserves program t h) s.order in
      let fits = length_fits program (λ _. 0) s.order k.legal in
      let all = all_left program in
      omega (arith, part, shorter, fits, all)

  tickets_stand : TicketsStand program s
  tickets_stand = search (rules, counts_within, order_begun, before_begun, counted_from, at_most_once, apart_ahead, few_before)

  -- handlers

  served_inside : (h : ℕ) (t : Ticket) → serving (s.handler h) ≡ t ∷ [] → t.client < length program.clients
  served_inside h t one = (subst (AllByRecursion (IsBegun program s)) (ap (λ q. q ++ s.tickets h) one) (before_begun h)).0.0

  handler_takes : (h c : ℕ) (v : Handler) → s.handler h ≡ v → handlers.act_of v ≡ acts.TakeParcel c → c < length program.clients
  handler_takes h c v e a = search (rules, served_inside)

  handler_gives : (h c : ℕ) (x : HeldState) (v : Handler) → s.handler h ≡ v → handlers.act_of v ≡ acts.Give c x → c < length program.clients
  handler_gives h c x v e a = search (rules, served_inside)

  handler_spares : (h c : ℕ) (chunk : Batch Request) (v : Handler) → s.handler h ≡ v → handlers.act_of v ≡ acts.Spare c chunk → (c < length program.clients) × (chunk.capacity ≡ size)
  handler_spares h c chunk v e a = search (rules, served_inside)

  handlers_serve : HandlersServe program size s
  handlers_serve = search (rules, handler_takes, handler_gives, handler_spares)

  -- clients

  abbrev n_of : ℕ → ℕ
  n_of c = (s.client c).begun - 1

  abbrev asks_for : ℕ → Act
  asks_for c = act_of (settings_of code size c) (blocks_in code c) (s.client c)

  begun_of : (c : ℕ) (act : Act) → asks_for c ≡ act → ((l : Locals) → (s.client c).stage ≡ between l → asks_for c ≡ act → ⊥) → (s.client c).begun ≡ suc (n_of c)
  begun_of c act e non = begun_by program sound mode code codes size s y g k c act e non

  clients_ask : ClientsAsk program code size s
  clients_ask = record {
    sends = λ c h parcel a.
        reserved_inside program sound (ticket c (n_of c)) h
        (send_at program (ticket c (n_of c)) (y.sent (ticket c (n_of c))) (y.got (ticket c (n_of c))) (settings_of code size c) (blocks_in code c) (s.client c) (y.block_record (ticket c (n_of c))) (s.client c).stage
        (k.places c (n_of c) (begun_of c (wants.Send h parcel) a (λ l i a. not_send (settings_of code size c) (blocks_in code c) (s.client c) l h parcel i a))) h parcel a).0;
    awaits = λ c h a.
        reserved_inside program sound (ticket c (n_of c)) h
        (await_at program (ticket c (n_of c)) (y.sent (ticket c (n_of c))) (y.got (ticket c (n_of c))) (settings_of code size c) (blocks_in code c) (s.client c) (y.block_record (ticket c (n_of c))) (s.client c).stage
        (k.places c (n_of c) (begun_of c (wants.Await h) a (λ l i a. not_await (settings_of code size c) (blocks_in code c) (s.client c) l h i a))) h a).0;
    needs = λ c h a.
        reserved_inside program sound (ticket c (n_of c)) h
        (need_at program (ticket c (n_of c)) (y.sent (ticket c (n_of c))) (y.got (ticket c (n_of c))) (settings_of code size c) (blocks_in code c) (s.client c) (y.block_record (ticket c (n_of c))) (s.client c).stage
        (k.places c (n_of c) (begun_of c (wants.NeedChunk h) a (λ l i a. not_need (settings_of code size c) (blocks_in code c) (s.client c) l h i a))) h a);
  }

  -- beyond the program

  none_reserve : (h : ℕ) → length program.objects ≤ h → (t : Ticket) → reserves program t h ≡ false
  none_reserve h out t = search (rules, reserved_inside)

  nobody : (h : ℕ) → length program.objects ≤ h → ((g h).past ≡ []) × (before_it s h ≡ [])
  nobody h out = both_none (g h).past (before_it s h) (sym (no_filter (λ t. reserves program t h) s.order (none_reserve h out)) ∙ (k.objects h).split)

  rests : (h : ℕ) → (g h).past ≡ [] → (v : Handler) → s.handler h ≡ v → serving v ++ s.tickets h ≡ [] → (s.tickets h ≡ []) × (s.handler h ≡ free (fresh_held program h))
  rests h none v e q = search (rules, none)

  others_rest : OthersRest program code size s
  others_rest = search (rules, nobody, rests)

  object_somewhere : (h : ℕ) → IsSome (found_by s h (s.handler h))
  object_somewhere h = subst IsSome (sym (object_found program (lined program sound) s y g k h)) refl

  stands : CoreStands program code size s
  stands = search (rules, next_stands, handlers_serve, clients_ask, tickets_stand, others_rest, object_somewhere)

  pub stands_reached : ReachedCore program code size s
  unfolding ReachedCore
  stands_reached = stands

-- after every list of actors
pub reached_keeps : (program : ProgramShape) → IsSound program → (mode : Mode) (code : ℕ → ClientCode) → AreCodes program mode code → (size : ℕ) (actors : List Actor)
    → ReachedCore program code size (core_plays code size actors (core_begin program))
reached_keeps program sound mode code codes size actors =
    let r = run_both program sound mode code codes size actors in
    stands_reached program sound mode code codes size (core_plays code size actors (core_begin program)) r.0.0 r.0.1 r.0.2 r.1
