-- A client that has its block alone under the plain rules is never stuck: each request that it makes is served at once
-- by the handler, which has nobody else in its queue, and its end marks are taken away. So each turn, a step of the
-- client and then one of each handler of the block's list, leads on in the block's interaction tree, or to where nobody
-- is in a block. How many turns are left is known from the tree and from what the handlers hold, and falls with each
-- turn.
use Rattle.std.proofs.Common.{◌≡◌, ◌<◌, ◌≤◌, ◌∙◌, ◌==◌, ◌||◌, ◌⊎◌, ℕ, zero, suc, Bool, None, Some, get_or-set_same, get_or-set_other, true, false, if◌then◌else◌, nat_lt, ℤ, List, [], ◌∷◌, refl, sym, ap, subst, inl, inr, length, map, length-set, ⊎_elim, arith, rules}
use Rattle.qs_played.proofs.Names.{set, lt-ltb, AllByRecursion, HeldState, run_one, Ticket, Request, apart_eqb, eqb_true, num_cases, same_self, ticket_path, ProgramShape, text_of, is_in, IsSound, Locals, reserves, put, value_of, put_here, put_there, all_named, or_stay}
use Rattle.qs_played.specs.declared.schedule.actor.Actor.{Actor}
use Rattle.qs_meaning.specs.audit.Interaction.{Interaction, Done, Call, Query}
use Rattle.qs_plain_laws.proofs.Names.{apart, QueueItem, Handler, Plain, Private, StageOfClient, after_reply, asks, at_each, calls, client_at, current, ends, handler_at, leaves_queue, log_in, out, queue_step, reply_to, runs_command, runs_query, step, waiting, within, plays, IsQuiet}
use Rattle.qs_played.specs.declared.schedule.actor.Actor.TheVariants as actor
use Rattle.qs_plain_laws.specs.declared.item.QueueItem.TheVariants as item
use Rattle.qs_plain_laws.proofs.PlainPreserved.{each_is, in_list, reserved_list}
use Rattle.qs_plain_laws.proofs.orders.AloneSteps.{IsAlone, IsWithin, Reaches, client_moved, handler_moved, helds, left_at, left_of, moves, queue_set, requeued, stay, turns_left}

-- each handler of a list changed: there are as many
pub each_long : (f : Handler → Handler) (hs : List Handler) (ks : List ℕ) → length (at_each f hs ks) ≡ length hs
each_long f hs [] = refl
each_long f hs (k ∷ ks) = each_long f (set hs k (f (handler_at hs k))) ks ∙ length-set hs k (f (handler_at hs k))

module _ (p : ProgramShape) (sound : IsSound p) (order : List Ticket) (begun : ℕ → ℕ) (t : Ticket)
    (client : t.client < length p.clients) (current_is : begun t.client ≡ suc t.index) where
  abbrev private : List QueueItem → Private
  private items = record { ticket = t; items = items }

  -- the queues of the block's handlers, where each has served all so far
  abbrev served : ℕ → List Private
  served h = if reserves p t h then private [] ∷ [] else []

  abbrev At : (ℕ → List Private) → StageOfClient → Plain → Type 0
  At queue stage s = IsAlone p order begun t queue stage s

  abbrev Over : Plain → Type 0
  Over s = IsQuiet p order begun s

  inside : (h : ℕ) → reserves p t h ≡ true → h < length p.objects
  inside h e = in_list p (text_of p t).reserved h (reserved_list p sound t).within e

  served_at : (h : ℕ) → reserves p t h ≡ true → served h ≡ private [] ∷ []
  served_at h e = rw e refl

  is_mine : (queue : ℕ → List Private) (stage : StageOfClient) (s : Plain) → At queue stage s → current t.client (client_at s t.client) ≡ t
  is_mine queue stage s now = ticket_path refl (let b = now.begun t.client in omega (arith, b, current_is))

  named : nat_lt t.client (length p.clients) ≡ true
  named = lt-ltb t.client (length p.clients) client

  is_there : (queue : ℕ → List Private) (stage : StageOfClient) (s : Plain) → At queue stage s → nat_lt t.client (length s.clients) ≡ true
  is_there queue stage s now = lt-ltb t.client (length s.clients) (let long = now.clients in omega (arith, client, long))

  logged : (u : Ticket) (i : QueueItem) (g : Handler) → u ≡ t → g.queues ≡ private [] ∷ [] → (log_in u i g).queues ≡ private (i ∷ []) ∷ []
  logged u i g is e = search (rules, map, same_self)

  after : (h : ℕ) (i : QueueItem) → reserves p t h ≡ true → (g : ℕ) → put (put served h (private (i ∷ []) ∷ [])) h (private [] ∷ []) g ≡ served g
  after h i e g = search (rules, h, served, put_here, served_at, put_there, num_cases)

  in_queue : (s : Plain) (stage : StageOfClient) (h : ℕ) (i : QueueItem) → reserves p t h ≡ true → At served stage s → (u : Ticket) → u ≡ t
      → (g : ℕ) → (handler_at (set s.handlers h (log_in u i (handler_at s.handlers h))) g).queues ≡ put served h (private (i ∷ []) ∷ []) g
  in_queue s stage h i e now u is g = search (rules, h, queue_set, served, inside, logged, served_at)

  first_of : (s : Plain) (stage : StageOfClient) (h : ℕ) (i : QueueItem) → At (put served h (private (i ∷ []) ∷ [])) stage s
      → (handler_at s.handlers h).queues ≡ private (i ∷ []) ∷ []
  first_of s stage h i now = now.queues h ∙ put_here served h (private (i ∷ []) ∷ [])

  -- the handlers of the block's list, one after another; and before them the client
  abbrev handlers_in : List ℕ → List Actor
  handlers_in ks = map actor.Handler ks

  abbrev pub turn : List Actor
  turn = actor.Client t.client ∷ handlers_in (text_of p t).reserved

  nothing_waits : (s : Plain) (k : ℕ) (it : Handler) (b : Bool) → queue_step s k it (if b then private [] ∷ [] else []) ≡ None
  nothing_waits s k it v = search rules

  -- where each has served all so far, no handler has a step
  idle_plays : (stage : StageOfClient) (s : Plain) → At served stage s → (ks : List ℕ) → plays p (handlers_in ks) s ≡ s
  idle_plays stage s now [] = refl
  idle_plays stage s now (k ∷ ks) =
      ap (λ o. plays p (handlers_in ks) (or_stay s o))
      (ap (queue_step s k (handler_at s.handlers k)) (now.queues k) ∙ nothing_waits s k (handler_at s.handlers k) (reserves p t k))
      ∙ idle_plays stage s now ks

  still_in : (h k : ℕ) (ks : List ℕ) → (h == k) ≡ false → (b : Bool) → (k == h) ≡ b → (b || is_in ks h) ≡ true → is_in ks h ≡ true
  still_in h k ks other v e is = search (rules, h, apart_eqb, eqb_true)

  -- of the handlers of a list only the one steps at which the request waits
  settle : (stage later : StageOfClient) (h : ℕ) (i : QueueItem) (n m : Plain) → At (put served h (private (i ∷ []) ∷ [])) stage n
      → step p n (actor.Handler h) ≡ Some m → At served later m → (ks : List ℕ) → is_in ks h ≡ true → plays p (handlers_in ks) n ≡ m
  settle stage later h i n m now serves done [] e = absurd (cc e)
  settle stage later h i n m now serves done (k ∷ ks) e = ⊎_elim
      (λ (is : h ≡ k).
      subst (λ k. plays p (handlers_in ks) (or_stay n (step p n (actor.Handler k))) ≡ m) is
      (ap (λ o. plays p (handlers_in ks) (or_stay n o)) serves ∙ idle_plays later m done ks))
      (λ (other : (h == k) ≡ false).
      ap (λ o. plays p (handlers_in ks) (or_stay n o))
      (ap (queue_step n k (handler_at n.handlers k)) (now.queues k ∙ put_there served h (private (i ∷ []) ∷ []) k other)
      ∙ nothing_waits n k (handler_at n.handlers k) (reserves p t k))
      ∙ settle stage later h i n m now serves done ks (still_in h k ks other (k == h) refl e))
      (num_cases h k)

  left_is : (queue : ℕ → List Private) (stage : StageOfClient) (s : Plain) → At queue stage s → left_of t s ≡ left_at t stage (helds s)
  left_is queue stage s now = ap (λ g. left_at t g (helds s)) now.stage

  held_set : (hs : List Handler) (h : ℕ) (x : Handler) → h < length hs → (g : ℕ) → (handler_at (set hs h x) g).held ≡ put (λ g. (handler_at hs g).held) h x.held g
  held_set hs h x inside g = search (rules, inside, set, get_or-set_same, put_here, get_or-set_other, apart, put_there, num_cases)

  put_same : (hs : ℕ → HeldState) (h g : ℕ) → put hs h (hs h) g ≡ hs g
  put_same hs h g = search (rules, put_here, put_there, num_cases)

  -- an item is logged and served: the handler holds what the request leaves, and the others what they held
  held_on : (hs : List Handler) (h : ℕ) (i : QueueItem) (u : Ticket) (x : Handler) → h < length hs → (g : ℕ)
      → (handler_at (set (set hs h (log_in u i (handler_at hs h))) h x) g).held ≡ put (λ g. (handler_at hs g).held) h x.held g
  held_on hs h i u x inside g = search (rules, inside, set, held_set, length-set, put_same)

  -- a request is logged, and served at once: from the state after the client's step the turn leads to that after the
  -- handler's
  module _ (s n m : Plain) (r : Request) (i : QueueItem) (u : Ticket) where
    abbrev h : ℕ
    h = r.object

    turned : (stage later : StageOfClient) → reserves p t h ≡ true → step p s (actor.Client t.client) ≡ Some n → At (put served h (private (i ∷ []) ∷ [])) stage n
        → step p n (actor.Handler h) ≡ Some m → At served later m → plays p turn s ≡ m
    turned stage later e steps logged_now serves done =
        ap (λ o. plays p (handlers_in (text_of p t).reserved) (or_stay s o)) steps
        ∙ settle stage later h i n m logged_now serves done (text_of p t).reserved e

    -- what the handlers hold then
    holds_then : h < length s.handlers → n.handlers ≡ set s.handlers h (log_in u i (handler_at s.handlers h))
        → m.handlers ≡ set n.handlers h (record { queues = private [] ∷ []; held = (run_one (handler_at n.handlers h).held t r).0 })
        → helds m ≡ put (helds s) h (run_one (helds s h) t r).0
    holds_then here logs served_now = search (rules, helds, held_set, put_same, set, held_on)

    mine_then : h < length s.handlers → n.handlers ≡ set s.handlers h (log_in u i (handler_at s.handlers h)) → (handler_at n.handlers h).held ≡ helds s h
    mine_then here logs = search (rules, h, held_set, put_same, helds)

  -- a command
  called : (s : Plain) (r : Request) (next : Interaction) → reserves p t r.object ≡ true → At served (within (Call r next)) s
      → At served (within next) (plays p turn s) × (left_of t (plays p turn s) < left_of t s)
  called s r next e now =
      let h = r.object in
      let me = client_at s t.client in
      let u = current t.client me in
      let n = calls p s t.client me r next in
      let there = is_there served (within (Call r next)) s now in
      let mine = is_mine served (within (Call r next)) s now in
      let logged_now : At (put served h (private (item.Command r ∷ []) ∷ [])) (within next) n =
      client_moved p order begun t served (put served h (private (item.Command r ∷ []) ∷ [])) (within (Call r next)) s _ _ client now refl
      (length-set s.handlers h _ ∙ now.handlers) (in_queue s (within (Call r next)) h (item.Command r) e now u mine) in
      let it = handler_at n.handlers h in
      let m = runs_command n h it (private (item.Command r ∷ [])) [] [] r in
      let done : At served (within next) m =
      requeued p order begun t (put (put served h (private (item.Command r ∷ []) ∷ [])) h (private [] ∷ [])) served (within next) m (after h (item.Command r) e)
      (handler_moved p order begun t (put served h (private (item.Command r ∷ []) ∷ [])) (within next) n h _ (inside h e) logged_now) in
      let is : plays p turn s ≡ m =
      turned s n m r (item.Command r) u (within next) (within next) e (rw (there, now.stage) refl) logged_now
      (ap (queue_step n h it) (first_of n (within next) h (item.Command r) logged_now)) done in
      let here : h < length s.handlers = (let long = now.handlers in let l = inside h e in omega (arith, long, l)) in
      let holds = holds_then s n m r (item.Command r) u here refl refl in
      let fewer : suc (left_of t m) ≡ left_of t s =
      ap suc (left_is served (within next) m done ∙ ap (turns_left t next) holds) ∙ sym (left_is served (within (Call r next)) s now) in
      (subst (At served (within next)) (sym is) done, subst (λ m. left_of t m < left_of t s) (sym is) (omega (arith, fewer)))

  -- a query
  asked : (s : Plain) (r : Request) (next : ℤ → Interaction) → reserves p t r.object ≡ true → At served (within (Query r next)) s
      → (v : ℤ) × At served (within (next v)) (plays p turn s) × (left_of t (plays p turn s) < left_of t s)
  asked s r next e now =
      let h = r.object in
      let me = client_at s t.client in
      let u = current t.client me in
      let n = asks p s t.client me r next in
      let there = is_there served (within (Query r next)) s now in
      let mine = is_mine served (within (Query r next)) s now in
      let logged_now : At (put served h (private (item.Query r ∷ []) ∷ [])) (waiting next) n =
      client_moved p order begun t served (put served h (private (item.Query r ∷ []) ∷ [])) (within (Query r next)) s _ _ client now refl
      (length-set s.handlers h _ ∙ now.handlers) (in_queue s (within (Query r next)) h (item.Query r) e now u mine) in
      let it = handler_at n.handlers h in
      let you = client_at n t.client in
      let v = (run_one it.held t r).1 in
      let m = runs_query n h it (private (item.Query r ∷ [])) [] [] r in
      let replied : At served (after_reply you r v).stage m =
      client_moved p order begun t (put served h (private (item.Query r ∷ []) ∷ [])) served (waiting next) n (after_reply you r v) m.handlers client logged_now
      (ap (λ g. (reply_to you r v g).entries) logged_now.stage)
      (length-set n.handlers h _ ∙ logged_now.handlers)
      (λ g. queue_set n.handlers h _ (put served h (private (item.Query r ∷ []) ∷ [])) (let long = logged_now.handlers in let l = inside h e in omega (arith, long, l)) logged_now.queues g
      ∙ after h (item.Query r) e g) in
      let done : At served (within (next (value_of v))) m =
      subst (λ g. At served g m) (ap (λ g. (reply_to you r v g).stage) logged_now.stage) replied in
      let is : plays p turn s ≡ m =
      turned s n m r (item.Query r) u (waiting next) (within (next (value_of v))) e (rw (there, now.stage) refl) logged_now
      (ap (queue_step n h it) (first_of n (waiting next) h (item.Query r) logged_now)) done in
      let here : h < length s.handlers = (let long = now.handlers in let l = inside h e in omega (arith, long, l)) in
      let holds = holds_then s n m r (item.Query r) u here refl refl in
      let held_now = mine_then s n m r (item.Query r) u here refl in
      let fewer : suc (left_of t m) ≡ left_of t s =
      ap suc (left_is served (within (next (value_of v))) m done
      ∙ ap (turns_left t (next (value_of v))) holds
      ∙ ap (λ y. turns_left t (next (value_of (run_one y t r).1)) (put (helds s) h (run_one (helds s h) t r).0)) held_now)
      ∙ sym (left_is served (within (Query r next)) s now) in
      (value_of v, subst (At served (within (next (value_of v)))) (sym is) done, subst (λ m. left_of t m < left_of t s) (sym is) (omega (arith, fewer)))

  -- the end marks are taken away, one after another
  abbrev marked : List Private
  marked = private (item.EndMark ∷ []) ∷ []

  abbrev cleared : List ℕ → (ℕ → List Private) → ℕ → List Private
  cleared ks queue g = if is_in ks g then [] else queue g

  cleared_one : (k : ℕ) (ks : List ℕ) (queue : ℕ → List Private) (g : ℕ) → cleared ks (put queue k []) g ≡ cleared (k ∷ ks) queue g
  cleared_one k ks queue g = search rules

  emptied : (queue : ℕ → List Private) (k g : ℕ) → queue k ≡ [] → queue g ≡ put queue k [] g
  emptied queue k g e = search (rules, put_here, put_there, num_cases)

  still : (queue : ℕ → List Private) (k g : ℕ) → (queue g ≡ []) ⊎ (queue g ≡ marked) → (put queue k [] g ≡ []) ⊎ (put queue k [] g ≡ marked)
  still queue k g each = search (rules, put_here, put_there, num_cases)

  clear : (l : Locals) (ks : List ℕ) → AllByRecursion (λ k. k < length p.objects) ks → (queue : ℕ → List Private) (s : Plain) → At queue (out l) s
      → ((g : ℕ) → (queue g ≡ []) ⊎ (queue g ≡ marked)) → At (cleared ks queue) (out l) (plays p (handlers_in ks) s)
  clear l [] within_all queue s now each = now
  clear l (k ∷ ks) within_all queue s now each =
      let it = handler_at s.handlers k in
      let later = λ (n : Plain) (at : At (put queue k []) (out l) n) (steps : or_stay s (step p s (actor.Handler k)) ≡ n).
      subst (At (cleared (k ∷ ks) queue) (out l)) (ap (plays p (handlers_in ks)) (sym steps))
      (requeued p order begun t (cleared ks (put queue k [])) (cleared (k ∷ ks) queue) (out l) (plays p (handlers_in ks) n) (cleared_one k ks queue)
      (clear l ks within_all.1 (put queue k []) n at (λ g. still queue k g (each g)))) in
      ⊎_elim
      (λ (none : queue k ≡ []).
      later s (requeued p order begun t queue (put queue k []) (out l) s (λ g. emptied queue k g none) now)
      (ap (λ o. or_stay s o) (ap (queue_step s k it) (now.queues k ∙ none))))
      (λ (one : queue k ≡ marked).
      later (leaves_queue s k it []) (handler_moved p order begun t queue (out l) s k _ within_all.0 now)
      (ap (λ o. or_stay s o) (ap (queue_step s k it) (now.queues k ∙ one))))
      (each k)

  -- all others are out, and so is the client now
  quiet : (l : Locals) (s : Plain) → At (λ g. []) (out l) s → Over s
  quiet l s now = search (rules, num_cases)

  abbrev ending : ℕ → List Private
  ending h = if reserves p t h then marked else []

  -- the end of the block
  ended : (s : Plain) (l : Locals) → At served (within (Done l)) s → Over (plays p turn s) × (left_of t (plays p turn s) < left_of t s)
  ended s l now =
      let me = client_at s t.client in
      let n = ends p s t.client me l in
      let there = is_there served (within (Done l)) s now in
      let mine = is_mine served (within (Done l)) s now in
      let list = reserved_list p sound t in
      let f = log_in (current t.client me) item.EndMark in
      let names : (text_of p (current t.client me)).reserved ≡ (text_of p t).reserved = ap (λ u. (text_of p u).reserved) mine in
      let marks : (g : ℕ) → (handler_at (at_each f s.handlers (text_of p (current t.client me)).reserved) g).queues ≡ ending g =
      (λ g. ap (λ ks. (handler_at (at_each f s.handlers ks) g).queues) names
      ∙ (ap (λ (x : Handler). x.queues) (each_is f s.handlers (text_of p t).reserved g
      (subst (λ m. AllByRecursion (λ h. h < m) (text_of p t).reserved) (sym now.handlers) list.within) list.distinct)
      ∙ by_test s (within (Done l)) g now mine (reserves p t g) refl)) in
      let at_end : At ending (out l) n =
      client_moved p order begun t served ending (within (Done l)) s _ _ client now refl
      (each_long f s.handlers (text_of p (current t.client me)).reserved ∙ now.handlers) marks in
      let steps : step p s (actor.Client t.client) ≡ Some n = rw (there, now.stage) refl in
      let is : plays p turn s ≡ plays p (handlers_in (text_of p t).reserved) n =
      ap (λ o. plays p (handlers_in (text_of p t).reserved) (or_stay s o)) steps in
      let last : At (λ g. []) (out l) (plays p (handlers_in (text_of p t).reserved) n) =
      requeued p order begun t (cleared (text_of p t).reserved ending) (λ g. []) (out l) _ (λ g. none_left g (reserves p t g))
      (clear l (text_of p t).reserved list.within ending n at_end (λ g. kinds g (reserves p t g))) in
      let none : left_of t (plays p (handlers_in (text_of p t).reserved) n) ≡ 0 = left_is (λ g. []) (out l) _ last in
      let one : left_of t s ≡ 1 = left_is served (within (Done l)) s now in
      (subst Over (sym is) (quiet l _ last), subst (λ m. left_of t m < left_of t s) (sym is) (omega (arith, none, one)))
    where
      by_test : (s : Plain) (stage : StageOfClient) (g : ℕ) → At served stage s → {u : Ticket} → u ≡ t → (b : Bool) → reserves p t g ≡ b
          → (if b then log_in u item.EndMark (handler_at s.handlers g) else handler_at s.handlers g).queues ≡ (if b then marked else [])
      by_test s stage g now {u} is true e = logged u item.EndMark (handler_at s.handlers g) is (now.queues g ∙ served_at g e)
      by_test s stage g now {u} is false e = now.queues g ∙ rw e refl

      kinds : (g : ℕ) (b : Bool) → ((if b then marked else []) ≡ []) ⊎ ((if b then marked else []) ≡ marked)
      kinds g v = search rules

      none_left : (g : ℕ) (b : Bool) → (if b then [] else (if b then marked else [])) ≡ []
      none_left g v = search rules

  -- the block goes on
  abbrev GoesOn : Plain → Type 0
  GoesOn s = IsWithin p order begun t s

  -- each turn leads on or to the end, with fewer turns left
  pub turn_on : (s : Plain) → GoesOn s → (GoesOn (plays p turn s) ⊎ Over (plays p turn s)) × (left_of t (plays p turn s) < left_of t s)
  turn_on s (Done l, only, now) = let e = ended s l now in (inr e.0, e.1)
  turn_on s (Call r next, only, now) = let on = called s r next only.1 now in (inl (next, only.2, on.0), on.1)
  turn_on s (Query r next, only, now) = let on = asked s r next only.1 now in (inl (next on.0, only.2 on.0, on.1), on.2)

  pub named_turn : all_named p turn ≡ true
  named_turn = rw (named) (all (text_of p t).reserved (reserved_list p sound t).within)
    where
      all : (ks : List ℕ) → AllByRecursion (λ k. k < length p.objects) ks → all_named p (handlers_in ks) ≡ true
      all [] h = refl
      all (k ∷ ks) h = rw (lt-ltb k (length p.objects) h.0) (all ks h.1)

  -- so turns lead to the end
  pub block_over : (n : ℕ) (s : Plain) → left_of t s ≤ n → GoesOn s → Reaches p s Over
  block_over zero s few on = absurd (let less = (turn_on s on).1 in omega (arith, less, few))
  block_over (suc n) s few on =
      let next = turn_on s on in
      let less = next.1 in
      moves p s turn Over named_turn (⊎_elim
      (λ (more : GoesOn (plays p turn s)). block_over n (plays p turn s) (omega (arith, less, few)) more)
      (λ (over : Over (plays p turn s)). stay p (plays p turn s) Over over) next.0)
