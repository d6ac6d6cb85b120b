-- A run by the plain rules makes no more steps than its blocks have. What is left is counted: of the block that a
-- client is in two steps for each request that it can still make, one for its end and one for each object of its list;
-- all steps of the blocks to come; and each item in a private queue. Each step leaves one less. A request that is
-- logged is one item more, since no handler has two private queues of one ticket, and its client has two steps fewer
-- left.
use Rattle.std.proofs.Common.{◌≡◌, ◌≢◌, ◌<◌, ◌≤◌, ◌∙◌, ℕ, zero, suc, ◌+◌, ◌*◌, ◌-◌, Bool, true, false, if◌then◌else◌, nat_lt, ℤ, List, [], ◌∷◌, ◌++◌, Option, None, Some, map, length, get_or, sum_by, refl, sym, ap, subst, ⊎_elim, arith, rules}
use Rattle.qs_played.proofs.Names.{set, length-append, sum_by-append, sum_by-cons, AllByRecursion, range_with_len, HeldState, run_one, same, Ticket, Request, not_same, ticket_cases, IsSound, Locals, sound_block, event, Apart, ticket, or_stay}
use Rattle.qs_played.specs.declared.schedule.actor.Actor.{Actor}
use Rattle.qs_program.specs.audit.Program.{BlockShape, ClientShape, ProgramShape, block_load, blocks_of, client_at as shape_at, no_client as no_shape, text_of}
use Rattle.qs_meaning.specs.audit.Interaction.{Interaction, Done, Call, Query, tree_of}
use Rattle.qs_played.specs.declared.schedule.actor.Actor.TheVariants as actor
use Rattle.qs_plain_laws.specs.audit.Plain.{Client, Handler, Plain, Private, StageOfClient, after_reply, at_each, at_handler, begin, begins, begun_blocks, client_at, client_step, current, enter, fresh_client, fresh_handler, moves_on, handler_at, item_step, log_in, no_client, no_handler, out, put_item, queue_step, reply_to, separate, serves, stands, step, waiting, with_query_counted, with_trace_event, within}
use Rattle.qs_plain_laws.proofs.Names.{QueueItem, StepsAreBounded, made, most_steps_of, steps_made, steps_of_block, steps_of_client}
use Rattle.qs_plain_laws.specs.declared.item.QueueItem.TheVariants as item
use Rattle.qs_plain_laws.proofs.PlainPreserved.{RunInvariant, begin_kept, sight_of, step_kept}
use Rattle.qs_plain_laws.proofs.Simulation.{private}
use Rattle.qs_plain_laws.proofs.progress.BlocksLeft.{left_all, left_by, left_one}
use Rattle.qs_plain_laws.proofs.progress.RequestCounts.{AtMost, tree_within}

-- ---- the items in private queues

abbrev items_of : Private → ℕ
items_of q = length q.items

abbrev items_in : Handler → ℕ
items_in h = sum_by items_of h.queues

abbrev all_items : List Handler → ℕ
all_items hs = sum_by items_in hs

more_items : (hs : List Handler) (h : ℕ) (x : Handler) (e : ℕ) → items_in x ≤ items_in (handler_at hs h) + e
    → all_items (set hs h x) ≤ all_items hs + e
more_items [] h x e le = omega arith
more_items (y ∷ hs) zero x e le = rw (sum_by-cons items_in x hs, sum_by-cons items_in y hs) (omega (arith, le))
more_items (y ∷ hs) (suc h) x e le = search (rules, sum_by-cons, set, more_items hs h x e le)

fewer_items : (hs : List Handler) (h : ℕ) (x : Handler) → suc (items_in x) ≤ items_in (handler_at hs h)
    → suc (all_items (set hs h x)) ≤ all_items hs
fewer_items [] h x less = absurd (omega (arith, less))
fewer_items (y ∷ hs) zero x less = rw (sum_by-cons items_in x hs, sum_by-cons items_in y hs) (omega (arith, less))
fewer_items (y ∷ hs) (suc h) x less = search (rules, sum_by-cons, set, fewer_items hs h x less)

abbrev tickets_in : List Private → List Ticket
tickets_in qs = map (λ (q : Private). q.ticket) qs

-- an item goes to the one private queue of its ticket
none_more : (t : Ticket) (i : QueueItem) (qs : List Private) → AllByRecursion (λ u. t ≢ u) (tickets_in qs)
    → sum_by items_of (map (put_item t i) qs) ≡ sum_by items_of qs
none_more t i [] far = refl
none_more t i (q ∷ qs) far =
    let other : same t q.ticket ≡ false = not_same t q.ticket far.0 in
    let here : items_of (put_item t i q) ≡ items_of q = rw other refl in
    let ih = none_more t i qs far.1 in
    rw (sum_by-cons items_of (put_item t i q) (map (put_item t i) qs), sum_by-cons items_of q qs)
    (omega (arith, here, ih))

one_more : (t : Ticket) (i : QueueItem) (qs : List Private) → Apart (tickets_in qs)
    → sum_by items_of (map (put_item t i) qs) ≤ sum_by items_of qs + 1
one_more t i [] apart = omega arith
one_more t i (q ∷ qs) apart =
    rw (sum_by-cons items_of (put_item t i q) (map (put_item t i) qs), sum_by-cons items_of q qs)
    (⊎_elim
    (λ (is : t ≡ q.ticket).
    let others = none_more t i qs (subst (λ t. AllByRecursion (λ u. t ≢ u) (tickets_in qs)) (sym is) apart.0) in
    let here = put_longer (same t q.ticket) in
    omega (arith, others, here))
    (λ (other : same t q.ticket ≡ false).
    let here : items_of (put_item t i q) ≡ items_of q = rw other refl in
    let ih = one_more t i qs apart.1 in
    omega (arith, here, ih))
    (ticket_cases t q.ticket))
  where
    put_longer : (b : Bool) → length (if b then q.items ++ i ∷ [] else q.items) ≤ length q.items + 1
    put_longer v = grind (arith, length-append)

abbrev IsApart : Handler → Type 0
IsApart h = Apart (tickets_in h.queues)

same_tickets : (t : Ticket) (i : QueueItem) (qs : List Private) → tickets_in (map (put_item t i) qs) ≡ tickets_in qs
same_tickets t i [] = refl
same_tickets t i (q ∷ qs) = ap (λ ts. q.ticket ∷ ts) (same_tickets t i qs)

logged_more : (t : Ticket) (i : QueueItem) (h : Handler) → IsApart h → items_in (log_in t i h) ≤ items_in h + 1
logged_more t i h apart = one_more t i h.queues apart

logged_apart : (t : Ticket) (i : QueueItem) (h : Handler) → IsApart h → IsApart (log_in t i h)
logged_apart t i h apart = subst Apart (sym (same_tickets t i h.queues)) apart

entered_same : (t : Ticket) (h : Handler) → items_in (enter t h) ≡ items_in h
entered_same t h = search (rules, sum_by-append, sum_by-cons)

holds_at_each : {X : Type 0} (P : X → Type 0) (xs : List X) (k : ℕ) (x d : X) → P x → ((g : ℕ) → P (get_or xs g d))
    → (g : ℕ) → P (get_or (set xs k x) g d)
holds_at_each P [] k x d one each g = each g
holds_at_each P (y ∷ xs) zero x d one each zero = one
holds_at_each P (y ∷ xs) zero x d one each (suc g) = each (suc g)
holds_at_each P (y ∷ xs) (suc k) x d one each zero = each 0
holds_at_each P (y ∷ xs) (suc k) x d one each (suc g) = holds_at_each P xs k x d one (λ g. each (suc g)) g

-- an item at each handler of a list
logged_each : (t : Ticket) (i : QueueItem) (ks : List ℕ) (hs : List Handler) → ((g : ℕ) → IsApart (handler_at hs g))
    → all_items (at_each (log_in t i) hs ks) ≤ all_items hs + length ks
logged_each t i [] hs apart = omega arith
logged_each t i (k ∷ ks) hs apart =
    let one = more_items hs k (log_in t i (handler_at hs k)) 1 (logged_more t i (handler_at hs k) (apart k)) in
    let others = logged_each t i ks (at_handler (log_in t i) hs k)
    (holds_at_each IsApart hs k (log_in t i (handler_at hs k)) no_handler
    (logged_apart t i (handler_at hs k) (apart k)) apart) in
    omega (arith, one, others)

-- an empty private queue at each
entered_each : (t : Ticket) (ks : List ℕ) (hs : List Handler) → all_items (at_each (enter t) hs ks) ≤ all_items hs
entered_each t [] hs = omega arith
entered_each t (k ∷ ks) hs =
    let same_here = entered_same t (handler_at hs k) in
    let one = more_items hs k (enter t (handler_at hs k)) 0 (omega (arith, same_here)) in
    let others = entered_each t ks (at_handler (enter t) hs k) in
    omega (arith, one, others)

-- ---- what the clients have left

abbrev StageAtMost : StageOfClient → ℕ → Type 0
StageAtMost (out l) n = Unit {0}
StageAtMost (within rest) n = AtMost rest n
StageAtMost (waiting next) n = (v : ℤ) → AtMost (next v) n

-- of the block that a client is in, with so many requests
abbrev left_in_block : List ℕ → ℕ → StageOfClient → ℕ
left_in_block reserved n (out l) = 0
left_in_block reserved n _ = 2 * n + length reserved + 1

-- of the blocks from the k-th on
abbrev left_from : List BlockShape → ℕ → ℕ
left_from bs k = left_by steps_of_block bs k

module _ (p : ProgramShape) where
  -- in all, where a client stands at a stage
  abbrev left_of : ℕ → Client → ℕ → StageOfClient → ℕ
  left_of c it n g =
      left_in_block (text_of p (current c it)).reserved n g + left_from (shape_at p c).blocks (begun_blocks it)

  record ClientLeft (c : ℕ) (it : Client) (n : ℕ) : Type 0 where
    pub requests : ℕ
    pub stage : StageAtMost it.stage requests
    pub most : left_of c it requests it.stage ≤ n

  requests_at : (c : ℕ) (it : Client) (n : ℕ) (g : StageOfClient) → it.stage ≡ g → (l : ClientLeft c it n)
      → StageAtMost g l.requests
  requests_at c it n g e l = subst (λ g. StageAtMost g l.requests) e l.stage

  most_at : (c : ℕ) (it : Client) (n : ℕ) (g : StageOfClient) → it.stage ≡ g → (l : ClientLeft c it n)
      → left_of c it l.requests g ≤ n
  most_at c it n g e l = subst (λ g. left_of c it l.requests g ≤ n) e l.most

  abbrev ClientsLeft : ℕ → List Client → ℕ → Type 0
  ClientsLeft from [] n = Unit {0}
  ClientsLeft from (it ∷ cs) n = (a : ℕ) × (b : ℕ) × (a + b ≤ n) × ClientLeft from it a × ClientsLeft (suc from) cs b

  -- a client has so many steps fewer left than another one
  abbrev Less : ℕ → Client → ℕ → ℕ → Type 0
  Less c it e a = (b : ℕ) × (b + e ≤ a) × ClientLeft c it b

  one_changed : (from : ℕ) (cs : List Client) (c n e : ℕ) (it : Client) → (length cs ≤ c → e ≡ 0)
      → ((a : ℕ) → ClientLeft (c + from) (get_or cs c no_client) a → Less (c + from) it e a)
      → ClientsLeft from cs n → (m : ℕ) × (m + e ≤ n) × ClientsLeft from (set cs c it) m
  one_changed from [] c n e it beyond change left = let none = beyond (omega arith) in (n, omega (arith, none), tt)
  one_changed from (x ∷ cs) zero n e it beyond change (a, b, le, one, others) =
      let same : 0 + from ≡ from = omega arith in
      let new : Less from it e a =
      subst (λ k. Less k it e a) same (change a (subst (λ k. ClientLeft k x a) (sym same) one)) in
      let less = new.1 in
      (new.0 + b, omega (arith, le, less), (new.0, b, omega arith, new.2, others))
  one_changed from (x ∷ cs) (suc c) n e it beyond change (a, b, le, one, others) =
      let same : suc c + from ≡ c + suc from = omega arith in
      let new = one_changed (suc from) cs c b e it (λ past. beyond (omega (arith, past)))
      (λ a l. subst (λ k. Less k it e a) same
      (change a (subst (λ k. ClientLeft k (get_or cs c no_client) a) (sym same) l))) others in
      let less = new.1 in
      (a + new.0, omega (arith, le, less), (a, new.0, omega arith, one, new.2))

  record StepsLeft (s : Plain) (n : ℕ) : Type 0 where
    pub inside : ℕ
    pub clients : ClientsLeft 0 s.clients inside
    pub most : inside + all_items s.handlers ≤ n

  -- after a step fewer are left
  abbrev Falls : Plain → ℕ → Option Plain → Type 0
  Falls s n o = (m : ℕ) × (made o + m ≤ n) × StepsLeft (or_stay s o) m

  none_falls : (s : Plain) (n : ℕ) → StepsLeft s n → Falls s n None
  none_falls s n left = (n, omega arith, left)

module _ (p : ProgramShape) (sound : IsSound p) (s : Plain) (k : RunInvariant p sound s) (n : ℕ)
    (left : StepsLeft p s n) where
  apart : (h : ℕ) → IsApart (handler_at s.handlers h)
  apart h =
      let w = k.kept.0 in
      let named = private (sight_of s k.stance).client h (w.service h).wait in
      subst (λ qs. Apart (tickets_in qs)) (sym (k.kept.2.queues h))
      (subst Apart (sym (its_tickets (w.service h).queue)) (k.kept.1.services h).apart)
    where
      its_tickets : (ts : List Ticket)
          → tickets_in (map (private (sight_of s k.stance).client h (k.kept.0.service h).wait) ts) ≡ ts
      its_tickets [] = refl
      its_tickets (t ∷ ts) = ap (λ us. t ∷ us) (its_tickets ts)

  -- one client has moved, and perhaps handlers
  module _ (c : ℕ) (less : c < length s.clients) where
    abbrev me : Client
    me = client_at s c

    client_falls : (order : List Ticket) (it : Client) (hs : List Handler) (e : ℕ)
        → all_items hs ≤ all_items s.handlers + e
        → ((a : ℕ) → ClientLeft p c me a → Less p c it (suc e) a)
        → Falls p s n (Some (record { order = order; clients = set s.clients c it; handlers = hs }))
    client_falls order it hs e few change =
        let same : c ≡ c + 0 = omega arith in
        let new = one_changed p 0 s.clients c left.inside (suc e) it (λ past. absurd (omega (arith, less, past)))
        (λ a l. subst (λ k. Less p k it (suc e) a) same
        (change a (subst (λ k. ClientLeft p k me a) (sym same) l))) left.clients in
        let fewer = new.1 in let most = left.most in (
          new.0 + all_items hs,
          omega (arith, fewer, few, most),
          record { inside = new.0; clients = new.2; most = omega arith },
        )

    -- a block is entered
    enters : (l : Locals) → me.stage ≡ out l → begun_blocks me < blocks_of p c
        → Falls p s n (Some (separate p s c me l))
    enters l is more =
        client_falls _ it _ 0
        (let same_items = entered_each t b.reserved s.handlers in omega (arith, same_items))
        (λ a old. (left_then, fewer a old, new))
      where
        t : Ticket
        t = ticket c (begun_blocks me)

        b : BlockShape
        b = text_of p t

        it : Client
        it = begins me l (tree_of b.body l) b.reserved

        left_then : ℕ
        left_then = 2 * block_load b + length b.reserved + 1 + left_from (shape_at p c).blocks (suc (begun_blocks me))

        fewer : (a : ℕ) → ClientLeft p c me a → left_then + 1 ≤ a
        fewer a old = search (rules, left_one)

        longer : begun_blocks it ≡ suc (begun_blocks me)
        longer = let long = length-append me.entries (l ∷ []) in omega (arith, long)

        its_block : text_of p (current c it) ≡ b
        its_block =
            let at : begun_blocks it - 1 ≡ begun_blocks me = (let long = longer in omega (arith, long)) in
            ap (λ m. text_of p (ticket c m)) at

        sound_tree : AtMost (tree_of b.body l) (block_load b)
        sound_tree =
            let inside : c < length p.clients = (let long = k.clients in omega (arith, less, long)) in
            tree_within p.objects b l (sound_block p c (begun_blocks me) sound inside more).body

        new : ClientLeft p c it left_then
        new = search (rules, b, sound_tree, its_block, longer)

    -- where it is in its block, with so many requests to come
    abbrev left_with : ℕ → ℕ
    left_with m =
        2 * m + length (text_of p (current c me)).reserved + 1 + left_from (shape_at p c).blocks (begun_blocks me)

    -- a request is logged
    one_sent : (it : Client) (g now : StageOfClient) (r : Request) (i : QueueItem) → it.entries ≡ me.entries → it.stage ≡ now
        → me.stage ≡ g → ((m : ℕ) → StageAtMost g m → (1 ≤ m) × StageAtMost now (m - 1))
        → ((m : ℕ) → left_of p c me m g ≡ left_with m) → ((m : ℕ) → left_of p c me m now ≡ left_with m)
        → Falls p s n (Some (record {
          order = s.order;
          clients = set s.clients c it;
          handlers = at_handler (log_in (current c me) i) s.handlers r.object;
        }))
    one_sent it g now r i entries is e sent before after =
        client_falls s.order it _ 1
        (more_items s.handlers r.object _ 1
        (logged_more (current c me) i (handler_at s.handlers r.object) (apart r.object)))
        (λ a old.
        let some = sent old.requests (requests_at p c me a g e old) in
        let m = old.requests - 1 in
        let one = some.0 in
        let most = most_at p c me a g e old in
        let was = before old.requests in
        let new : left_of p c me m now ≡ left_with m = after m in
        let same : left_of p c it m it.stage ≡ left_of p c me m now =
        ap (left_of p c it m) is
        ∙ ap (λ ls. left_in_block (text_of p (ticket c (length ls - 1))).reserved m now
        + left_from (shape_at p c).blocks (length ls)) entries in (
          left_with m,
          omega (arith, most, one, was),
          record {
            requests = m;
            stage = subst (λ g. StageAtMost g m) (sym is) some.1;
            most = omega (arith, same, new);
          },
        ))

    goes : (rest : Interaction) → me.stage ≡ within rest → Falls p s n (Some (moves_on p s c me rest))
    goes (Done l) e =
        client_falls _ (stands me (out l)) _ (length (text_of p (current c me)).reserved)
        (logged_each (current c me) item.EndMark (text_of p (current c me)).reserved s.handlers apart)
        (λ a old.
        let most = most_at p c me a (within (Done l)) e old in
        (left_of p c me 0 (out l), omega (arith, most), record { requests = 0; stage = tt; most = omega arith }))
    goes (Call r next) e =
        one_sent (stands (with_trace_event me (begun_blocks me - 1) (event r None)) (within next))
        (within (Call r next)) (within next)
        r (item.Command r) refl refl e (λ m some. some) (λ m. refl) (λ m. refl)
    goes (Query r next) e =
        one_sent (stands (with_query_counted me (begun_blocks me - 1) r.object) (waiting next)) (within (Query r next))
        (waiting next)
        r (item.Query r) refl refl e (λ m some. some) (λ m. refl) (λ m. refl)

    client_step_falls : (g : StageOfClient) → me.stage ≡ g → Falls p s n (client_step p s c me g)
    client_step_falls (out l) e = by_test (nat_lt (begun_blocks me) (blocks_of p c)) refl
      where
        by_test : (b : Bool) → nat_lt (begun_blocks me) (blocks_of p c) ≡ b
            → Falls p s n (if b then Some (separate p s c me l) else None)
        by_test true more = enters l e (grind (arith, more))
        by_test false more = none_falls p s n left
    client_step_falls (within rest) e = goes rest e
    client_step_falls (waiting next) e = none_falls p s n left

  -- a handler serves one item
  module _ (h : ℕ) where
    abbrev us : Handler
    us = handler_at s.handlers h

    handler_falls : (clients : List Client) (m : ℕ) (x : Handler) → m ≤ left.inside → ClientsLeft p 0 clients m
        → suc (items_in x) ≤ items_in us
        → Falls p s n (Some (record { order = s.order; clients = clients; handlers = set s.handlers h x }))
    handler_falls clients m x few cs less =
        let fewer = fewer_items s.handlers h x less in let most = left.most in (
          m + all_items (set s.handlers h x),
          omega (arith, few, fewer, most),
          record { inside = m; clients = cs; most = omega arith },
        )

    -- the client that hears a reply has as much left
    heard : (c : ℕ) (it : Client) (r : Request) (v : Option ℤ) (a : ℕ) (g : StageOfClient) → it.stage ≡ g → ClientLeft p c it a
        → Less p c (reply_to it r v g) 0 a
    heard c it r v a g e old = search (rules, it, requests_at, most_at)

    module _ (q : Private) (qs : List Private) (e : us.queues ≡ q ∷ qs) where
      less_items : (i : QueueItem) (items : List QueueItem) (held : HeldState) → q.items ≡ i ∷ items
          → suc (items_in (serves us q qs items held)) ≤ items_in us
      less_items i items held is =
          let before : items_in us ≡ items_of q + sum_by items_of qs =
          ap (sum_by items_of) e ∙ sum_by-cons items_of q qs in
          let long : items_of q ≡ suc (length items) = ap length is in
          let after : items_in (serves us q qs items held) ≡ length items + sum_by items_of qs =
          sum_by-cons items_of (record { ticket = q.ticket; items = items }) qs in
          omega (arith, before, long, after)

      gone_items : (i : QueueItem) (items : List QueueItem) → q.items ≡ i ∷ items
          → suc (sum_by items_of qs) ≤ items_in us
      gone_items i items is =
          let before : items_in us ≡ items_of q + sum_by items_of qs =
          ap (sum_by items_of) e ∙ sum_by-cons items_of q qs in
          let long : items_of q ≡ suc (length items) = ap length is in
          omega (arith, before, long)

      item_falls : (items : List QueueItem) → q.items ≡ items → Falls p s n (item_step s h us q qs items)
      item_falls [] is = none_falls p s n left
      item_falls (item.Command r ∷ items) is = search (rules, handler_falls, left, less_items)
      item_falls (item.Query r ∷ items) is =
          let c = q.ticket.client in
          let it = client_at s c in
          let v = (run_one us.held q.ticket r).1 in
          let same : c ≡ c + 0 = omega arith in
          let new = one_changed p 0 s.clients c left.inside 0 (after_reply it r v) (λ past. refl)
          (λ a l. subst (λ k. Less p k (after_reply it r v) 0 a) same
          (heard c it r v a it.stage refl (subst (λ k. ClientLeft p k it a) (sym same) l))) left.clients in
          let fewer = new.1 in
          handler_falls _ new.0 _ (omega (arith, fewer)) new.2
          (less_items (item.Query r) items (run_one us.held q.ticket r).0 is)
      item_falls (item.EndMark ∷ items) is = search (rules, handler_falls, left, gone_items)

    queue_falls : (qs : List Private) → us.queues ≡ qs → Falls p s n (queue_step s h us qs)
    queue_falls [] e = none_falls p s n left
    queue_falls (q ∷ qs) e = item_falls q qs e q.items refl

  step_falls : (a : Actor) → Falls p s n (step p s a)
  step_falls (actor.Handler h) = queue_falls h (handler_at s.handlers h).queues refl
  step_falls (actor.Client c) = by_number (nat_lt c (length s.clients)) refl
    where
      by_number : (b : Bool) → nat_lt c (length s.clients) ≡ b
          → Falls p s n (if b then client_step p s c (client_at s c) (client_at s c).stage else None)
      by_number false e = none_falls p s n left
      by_number true e = client_step_falls c (grind (arith, e)) (client_at s c).stage refl

steps_within : (p : ProgramShape) (sound : IsSound p) (actors : List Actor) (s : Plain) → RunInvariant p sound s
    → (n : ℕ) → StepsLeft p s n → steps_made p actors s ≤ n
steps_within p sound [] s k n left = omega arith
steps_within p sound (a ∷ rest) s k n left =
    let next = step_falls p sound s k n left a in
    let less = next.1 in
    let later = steps_within p sound rest (or_stay s (step p s a)) (step_kept p sound s k a) next.0 next.2 in
    omega (arith, less, later)

-- before the first step
fresh_left : (p : ProgramShape) (from : ℕ) (cs : List ClientShape)
    → ((i : ℕ) → i < length cs → shape_at p (i + from) ≡ get_or cs i no_shape)
    → ClientsLeft p from (map fresh_client (range_with_len from (length cs))) (sum_by steps_of_client cs)
fresh_left p from [] each = tt
fresh_left p from (c ∷ cs) each =
    let none : 0 + from ≡ from = omega arith in
    let first : shape_at p from ≡ c = subst (λ k. shape_at p k ≡ c) none (each 0 (omega arith)) in
    let next : from + 1 ≡ suc from = omega arith in
    let total = sum_by-cons steps_of_client c cs in
    let all = ap (λ (c : ClientShape). left_from c.blocks 0) first ∙ left_all steps_of_block c.blocks in (
      steps_of_client c,
      sum_by steps_of_client cs,
      omega (arith, total),
      record { requests = 0; stage = tt; most = omega (arith, all) },
      subst (λ k. ClientsLeft p (suc from) (map fresh_client (range_with_len k (length cs)))
          (sum_by steps_of_client cs)) (sym next)
          (fresh_left p (suc from) cs (λ i less.
          let same : suc i + from ≡ i + suc from = omega arith in
          subst (λ k. shape_at p k ≡ get_or cs i no_shape) same (each (suc i) (omega (arith, less))))),
    )

fresh_items : (p : ProgramShape) (ns : List ℕ) → all_items (map (fresh_handler p) ns) ≡ 0
fresh_items p [] = refl
fresh_items p (n ∷ ns) = grind (arith, sum_by-cons, map, fresh_items p ns)

begin_left : (p : ProgramShape) → StepsLeft p (begin p) (most_steps_of p)
begin_left p = record {
  inside = most_steps_of p;
  clients = fresh_left p 0 p.clients (λ i less. let same : i + 0 ≡ i = omega arith in ap (λ k. shape_at p k) same);
  most = let none = fresh_items p (range_with_len 0 (length p.objects)) in omega (arith, none);
}

pub steps_bounded : StepsAreBounded
steps_bounded p sound actors =
    steps_within p sound actors (begin p) (begin_kept p sound) (most_steps_of p) (begin_left p)
