-- Each step of the plain rules keeps that their state, read as functions of numbers, goes on with a sound served run
-- (`RunInvariant`). Isolation and the counts under the plain rules are read off this. A list with one place changed is
-- read as a function changed at one place, so each step is one for which `Simulation` has a lemma; then the proof goes
-- by induction on the list of actors.
use Rattle.std.proofs.Common.{◌≡◌, ◌≢◌, ◌<◌, ℕ, zero, suc, ◌+◌, ◌-◌, ◌==◌, ◌||◌, Bool, true, false, if◌then◌else◌, nat_lt, List, [], ◌∷◌, ◌++◌, map, length, get_or, Option, None, ℤ, refl, ap, sym, subst, ◌∙◌, arith, get_or-set_same, get_or-set_other, length-set, rules}
use Rattle.qs_played.proofs.Names.{set, fun_ext, map-set_same, get_or-map, get_or_past, length-append, length-map, get_or-map-range_with_len, length-range_with_len, IsDistinct-head, IsDistinct-tail, Event, Ticket, Request, num_cases, ticket_cases, ticket_path, same_self, reserves, block_tree, ProgramShape, BlockShape, text_of, blocks_of, no_block, no_client as no_shape, zeros, declared_states, put, event, value_of, is_in, IsSound, Locals, sound_block, Begins, put_here, put_there, ticket, room_of, or_stay}
use Rattle.qs_played.specs.declared.schedule.actor.Actor.{Actor}
use Rattle.std.proofs.lemmas.Simd.{map-map}
use Rattle.std.specs.List.{AllByRecursion, IsDistinct, range_with_len}
use Rattle.qs_objects.specs.audit.Journals.{HeldState, run_one, answer}
use Rattle.qs_meaning.specs.audit.Interaction.{Interaction, Done, Call, Query}
use Rattle.qs_plain_laws.proofs.Names.{apart, put_at, put_at_here, put_at_there, QueueItem}
use Rattle.qs_plain_laws.specs.audit.Plain.{Plain, Client, with_query_counted, Handler, Private, StageOfClient, out, within, waiting, begin, begun_blocks, client_at, handler_at, client_step, moves_on, item_step, queue_step, at_handler, at_each, log_in, enter, serves, stands, with_trace_event, begins, after_reply, reply_to, step, fresh_client, fresh_handler, no_client, no_handler, calls, asks, ends, runs_command, runs_query, leaves_queue}
use Rattle.qs_plain_laws.specs.audit.PlainSchedule.{plays, entry_at, trace_at}
use Rattle.qs_plain_laws.proofs.PlainTallies.{Tallied, asked_of, tallied_ask, tallied_begin, tallied_call, tallied_reply, tallied_stand}
use Rattle.qs_plain_laws.proofs.ServedRuns.{ServedRun}
use Rattle.qs_plain_laws.proofs.RunViews.{PlainStage, Stands, Runs, Awaits, stage_of, ClientView, RunView, after_answer, noted_held, reserved_by}
use Rattle.qs_plain_laws.proofs.Simulation.{IsSimulated, call_kept, query_kept, end_kept, separate_kept, call_commands, waits_for_query, do_kept, ask_kept, end_step_kept, Asking, asking, call_within, query_within, begun_some, do_room}
use Rattle.qs_plain_laws.specs.audit.Plain as plain
use Rattle.qs_plain_laws.specs.declared.item.QueueItem.TheVariants as item

-- one place set, seen as a function
set_is_put : {X : Type 0} (xs : List X) (n : ℕ) (x d : X) → n < length xs → (λ k. get_or (set xs n x) k d) ≡ put (λ k. get_or xs k d) n x
set_is_put xs n x d less = search (rules, fun_ext, set, get_or-set_same, get_or-set_other, apart)

-- one element more
snoc_here : {X : Type 0} (xs : List X) (x d : X) → get_or (xs ++ x ∷ []) (length xs) d ≡ x
snoc_here [] x d = refl
snoc_here (y ∷ xs) x d = snoc_here xs x d

snoc_there : {X : Type 0} (xs : List X) (x d : X) (i : ℕ) → (length xs == i) ≡ false → get_or (xs ++ x ∷ []) i d ≡ get_or xs i d
snoc_there [] x d zero e = absurd (let f : (0 == 0) ≡ true = grind arith in cc)
snoc_there (y ∷ xs) x d (suc i) e = snoc_there xs x d i (let n : length xs ≢ i = apart_sucs (length xs) i e in grind (arith, n))
  where
    apart_sucs : (m n : ℕ) → (suc m == suc n) ≡ false → m ≢ n
    apart_sucs m n f is = let t : (suc m == suc n) ≡ true = rw is (grind arith) in cc
snoc_there _ x d _ e = refl

-- the run with what each client waits for
abbrev pub sight_of : Plain → (ℕ → PlainStage) → RunView
sight_of s stance = record {
  order = s.order;
  client = λ c. record { begun = begun_blocks (client_at s c); stage = stance c };
  handler = λ h. handler_at s.handlers h;
  entry = λ t. entry_at s t;
  trace = λ t. trace_at s t;
}

sight_path : {v u : RunView} → v.order ≡ u.order → v.client ≡ u.client → v.handler ≡ u.handler → v.entry ≡ u.entry → v.trace ≡ u.trace → v ≡ u
sight_path a b c d e = λ i. record { order = a i; client = b i; handler = c i; entry = d i; trace = e i }

abbrev pub room_at : Handler → ℕ
room_at h = h.held.room

abbrev pub rooms : ProgramShape → List ℕ
rooms p = map (room_of p) (range_with_len 0 (length p.objects))

pub record RunInvariant (p : ProgramShape) (sound : IsSound p) (s : Plain) : Type 0 where
  pub stance : ℕ → PlainStage
  pub stages : (c : ℕ) → c < length p.clients → (client_at s c).stage ≡ stage_of (stance c)
  pub traces : (c : ℕ) → length (client_at s c).traces ≡ begun_blocks (client_at s c)
  pub tallies : (c : ℕ) → Tallied p c (client_at s c) (asked_of (stance c))
  pub clients : length s.clients ≡ length p.clients
  pub rooms : map room_at s.handlers ≡ rooms p
  pub kept : IsSimulated p sound (sight_of s stance)

-- the lists that sound blocks reserve
pub record IsList (p : ProgramShape) (hs : List ℕ) : Type 0 where
  pub within : AllByRecursion (λ h. h < length p.objects) hs
  pub distinct : IsDistinct ◌==◌ hs

pub reserved_list : (p : ProgramShape) → IsSound p → (t : Ticket) → IsList p (text_of p t).reserved
unfolding IsDistinct
reserved_list p sound t = by_client (nat_lt t.client (length p.clients)) refl
  where
    none : text_of p t ≡ no_block → IsList p (text_of p t).reserved
    none e = subst (λ (b : BlockShape). IsList p b.reserved) (sym e) (record { within = tt; distinct = search })

    by_block : t.client < length p.clients → (b : Bool) → nat_lt t.index (blocks_of p t.client) ≡ b → IsList p (text_of p t).reserved
    by_block less b e = search (rules, sound_block, none, get_or_past)

    by_client : (b : Bool) → nat_lt t.client (length p.clients) ≡ b → IsList p (text_of p t).reserved
    by_client true e = by_block (grind (arith, e)) (nat_lt t.index (blocks_of p t.client)) refl
    by_client false e = none (ap (λ c. get_or c.blocks t.index no_block) (get_or_past p.clients t.client no_shape (grind (arith, e))))

pub in_list : (p : ProgramShape) (hs : List ℕ) (h : ℕ) → AllByRecursion (λ h. h < length p.objects) hs → is_in hs h ≡ true → h < length p.objects
in_list p [] h each member = cc
in_list p (g ∷ hs) h each member = grind (arith, in_list p hs h each.1)

-- each handler of a list changed, seen as a function
pub each_is : (f : Handler → Handler) (hs : List Handler) (ks : List ℕ) (g : ℕ) → AllByRecursion (λ k. k < length hs) ks → IsDistinct ◌==◌ ks
    → handler_at (at_each f hs ks) g ≡ (if is_in ks g then f (handler_at hs g) else handler_at hs g)
each_is f hs [] g inside distinct = refl
each_is f hs (k ∷ ks) g inside distinct =
    each_is f (at_handler f hs k) ks g (still ks inside.1) (IsDistinct-tail ◌==◌ k ks distinct)
    ∙ by_test (k == g) refl (IsDistinct-head ◌==◌ k ks distinct)
  where
    still : (js : List ℕ) → AllByRecursion (λ j. j < length hs) js → AllByRecursion (λ j. j < length (at_handler f hs k)) js
    still v e = search (rules, length-set, e)

    not_later : (js : List ℕ) → AllByRecursion (λ y. (k == y) ≡ false) js → (k == g) ≡ true → is_in js g ≡ false
    not_later [] far e = refl
    not_later (j ∷ js) far e =
        let is : k ≡ g = grind (arith, e) in
        let no : (j == g) ≡ false = subst (λ g. (j == g) ≡ false) is (turned j far.0) in
        rw no (not_later js far.1 e)
      where
        turned : (j : ℕ) → (k == j) ≡ false → (j == k) ≡ false
        turned j f = search rules

    by_test : (b : Bool) → (k == g) ≡ b → AllByRecursion (λ y. (k == y) ≡ false) ks
        → (if is_in ks g then f (handler_at (at_handler f hs k) g) else handler_at (at_handler f hs k) g) ≡ (if (b || is_in ks g) then f (handler_at hs g) else handler_at hs g)
    by_test b e far = search (rules, not_later, get_or-set_same, get_or-set_other, apart)

-- a change that keeps the rooms
same_rooms : (f : Handler → Handler) (hs : List Handler) (ks : List ℕ) → ((h : Handler) → room_at (f h) ≡ room_at h) → map room_at (at_each f hs ks) ≡ map room_at hs
same_rooms f hs [] keeps = refl
same_rooms f hs (k ∷ ks) keeps = same_rooms f (at_handler f hs k) ks keeps ∙ map-set_same room_at hs k (f (handler_at hs k)) no_handler (keeps (handler_at hs k))

room_stays : (x : HeldState) (t : Ticket) (r : Request) → (run_one x t r).0.room ≡ x.room
room_stays x t r = search rules

module _ (p : ProgramShape) (sound : IsSound p) (s : Plain) (k : RunInvariant p sound s) where
  pub handlers_long : length s.handlers ≡ length p.objects
  handlers_long = sym (length-map s.handlers room_at) ∙ (ap length k.rooms ∙ (length-map (range_with_len 0 (length p.objects)) (room_of p) ∙ length-range_with_len 0 (length p.objects)))

  -- one client changed
  module _ (c : ℕ) (less : c < length s.clients) (it : Client) (stance : PlainStage) where
    abbrev clients' : List Client
    clients' = set s.clients c it

    abbrev stance' : ℕ → PlainStage
    stance' = put k.stance c stance

    abbrev one : ℕ → Client
    one d = get_or clients' d no_client

    seen : (d : ℕ) → one d ≡ put (λ c. client_at s c) c it d
    seen d = ap (λ (f : ℕ → Client). f d) (set_is_put s.clients c it no_client less)

    here : one c ≡ it
    here = seen c ∙ put_here (λ c. client_at s c) c it

    there : (d : ℕ) → (c == d) ≡ false → one d ≡ client_at s d
    there d other = seen d ∙ put_there (λ c. client_at s c) c it d other

    clients_is : ◌≡◌ {A = ℕ → ClientView} (λ d. record { begun = begun_blocks (one d); stage = stance' d }) (put (λ d. record { begun = begun_blocks (client_at s d); stage = k.stance d }) c (record { begun = begun_blocks it; stage = stance }))
    clients_is = search (rules, fun_ext, seen)

    stages_are : it.stage ≡ stage_of stance → (d : ℕ) → d < length p.clients → (one d).stage ≡ stage_of (stance' d)
    stages_are e d inside = search (rules, seen, stage_of)

    traces_are : length it.traces ≡ begun_blocks it → (d : ℕ) → length (one d).traces ≡ begun_blocks (one d)
    traces_are e d = search (rules, seen)

    tallies_are : Tallied p c it (asked_of stance) → (d : ℕ) → Tallied p d (one d) (asked_of (stance' d))
    tallies_are e d = search (rules, c, one, asked_of, here, put_here, k, there, put_there, num_cases)

    -- what the change keeps of each client
    keeps : {A : Type 0} (f : Client → A) → f it ≡ f (client_at s c) → (d : ℕ) → f (one d) ≡ f (client_at s d)
    keeps f e d = search (rules, here, there, num_cases)

    entries_keep : it.entries ≡ (client_at s c).entries → (t : Ticket) → get_or (one t.client).entries t.index [] ≡ entry_at s t
    entries_keep e t = ap (λ (ls : List Locals). get_or ls t.index []) (keeps (λ x. x.entries) e t.client)

    traces_keep : it.traces ≡ (client_at s c).traces → (t : Ticket) → get_or (one t.client).traces t.index [] ≡ trace_at s t
    traces_keep e t = ap (λ (ts : List (List Event)). get_or ts t.index []) (keeps (λ x. x.traces) e t.client)

    -- of a change at one ticket of the client
    module _ {A : Type 0} (f : Client → List A) (d : A) (n : ℕ) (a : A) (at : get_or (f it) n d ≡ a)
        (others : (i : ℕ) → (n == i) ≡ false → get_or (f it) i d ≡ get_or (f (client_at s c)) i d) where
      at_ticket : (t : Ticket) → get_or (f (one t.client)) t.index d ≡ put_at (λ t. get_or (f (client_at s t.client)) t.index d) (ticket c n) a t
      at_ticket t = search (rules, c, one, put_at, here, put_at_here, put_at_there, ticket_cases, ticket_path, same_self, num_cases, there)

  -- one handler changed
  handler_put : (h : ℕ) (x : Handler) → h < length p.objects → (λ g. handler_at (set s.handlers h x) g) ≡ put (λ g. handler_at s.handlers g) h x
  handler_put h x less = set_is_put s.handlers h x no_handler (omega (arith, less, handlers_long))

  one_room : (h : ℕ) (x : Handler) → room_at x ≡ room_at (handler_at s.handlers h) → map room_at (set s.handlers h x) ≡ rooms p
  one_room h x e = map-set_same room_at s.handlers h x no_handler e ∙ k.rooms

  -- all handlers that a block reserves
  each_put : (t : Ticket) (f : Handler → Handler) → (λ g. handler_at (at_each f s.handlers (text_of p t).reserved) g) ≡ reserved_by p t f (λ g. handler_at s.handlers g)
  each_put t f =
      let list = reserved_list p sound t in
      fun_ext (λ g. each_is f s.handlers (text_of p t).reserved g (subst (λ n. AllByRecursion (λ h. h < n) (text_of p t).reserved) (sym handlers_long) list.within) list.distinct)

  each_room : (t : Ticket) (f : Handler → Handler) → ((h : Handler) → room_at (f h) ≡ room_at h) → map room_at (at_each f s.handlers (text_of p t).reserved) ≡ rooms p
  each_room t f e = same_rooms f s.handlers (text_of p t).reserved e ∙ k.rooms

  abbrev v : RunView
  v = sight_of s k.stance

  reserved_within : (t : Ticket) (h : ℕ) → reserves p t h ≡ true → h < length p.objects
  reserved_within t h e = in_list p (text_of p t).reserved h (reserved_list p sound t).within e

  module _ (c : ℕ) (less : c < length s.clients) where
    abbrev me : Client
    me = client_at s c

    inside : c < length p.clients
    inside = let l = k.clients in omega (arith, less, l)

    long : (it : Client) → length (set s.clients c it) ≡ length p.clients
    long it = length-set s.clients c it ∙ k.clients

    -- the client's stance where its stage is known
    stance_runs : (rest : Interaction) → me.stage ≡ within rest → (x : PlainStage) → me.stage ≡ stage_of x → x ≡ Runs rest
    stance_runs rest e v f = search (rules, rest)

    stance_stands : (l : Locals) → me.stage ≡ out l → (x : PlainStage) → me.stage ≡ stage_of x → x ≡ Stands l
    stance_stands l e v f = search rules

    called : (r : Request) (next : Interaction) → me.stage ≡ within (Call r next) → RunInvariant p sound (calls p s c me r next)
    called r next e =
        let it = stands (with_trace_event me (begun_blocks me - 1) (event r None)) (within next) in
        let runs = stance_runs (Call r next) e (k.stance c) (k.stages c inside) in
        let n = begun_blocks me - 1 in
        let some = call_within p sound v c r next runs k.kept in
        let start = begun_some p sound v c (Call r next) runs k.kept in
        let traces_long = k.traces c in
        record {
          stance = put k.stance c (Runs next);
          stages = stages_are c less it (Runs next) refl;
          traces = traces_are c less it (Runs next) (length-set me.traces n (get_or me.traces n [] ++ event r None ∷ []) ∙ k.traces c);
          tallies = tallies_are c less it (Runs next) (tallied_call p c me (asked_of (k.stance c)) (k.tallies c) r next
              (λ h. ap (λ g. asked_of g h) runs) (k.traces c) start (call_commands p sound v c r next runs k.kept));
          clients = long it;
          rooms = one_room r.object _ refl;
          kept = subst (IsSimulated p sound) (sym (sight_path refl (clients_is c less it (Runs next)) (handler_put r.object _ (reserved_within (ticket c n) r.object some))
              (fun_ext (entries_keep c less it (Runs next) refl))
              (fun_ext (at_ticket c less it (Runs next) (λ x. x.traces) [] n _ (get_or-set_same me.traces n _ [] (omega (arith, start, traces_long))) (λ i other. get_or-set_other me.traces n i _ [] (apart n i other))))))
              (call_kept p sound v c r next runs k.kept);
        }

    asked : (r : Request) (next : ℤ → Interaction) → me.stage ≡ within (Query r next) → RunInvariant p sound (asks p s c me r next)
    asked r next e =
        let it = stands (with_query_counted me (begun_blocks me - 1) r.object) (waiting next) in
        let runs = stance_runs (Query r next) e (k.stance c) (k.stages c inside) in
        let some = query_within p sound v c r next runs k.kept in
        record {
          stance = put k.stance c (Awaits r next);
          stages = stages_are c less it (Awaits r next) refl;
          traces = traces_are c less it (Awaits r next) (k.traces c);
          tallies = tallies_are c less it (Awaits r next) (tallied_ask p c me (asked_of (k.stance c)) (k.tallies c) r next
              (λ h. ap (λ g. asked_of g h) runs) (begun_some p sound v c (Query r next) runs k.kept) some
              (reserved_list p sound (ticket c (begun_blocks me - 1))).distinct);
          clients = long it;
          rooms = one_room r.object _ refl;
          kept = subst (IsSimulated p sound) (sym (sight_path refl (clients_is c less it (Awaits r next)) (handler_put r.object _ (reserved_within (ticket c (begun_blocks me - 1)) r.object some))
              (fun_ext (entries_keep c less it (Awaits r next) refl))
              (fun_ext (traces_keep c less it (Awaits r next) refl))))
              (query_kept p sound v c r next runs k.kept);
        }

    ended : (l : Locals) → me.stage ≡ within (Done l) → RunInvariant p sound (ends p s c me l)
    ended l e =
        let it = stands me (out l) in
        let t = ticket c (begun_blocks me - 1) in
        let runs = stance_runs (Done l) e (k.stance c) (k.stages c inside) in
        record {
          stance = put k.stance c (Stands l);
          stages = stages_are c less it (Stands l) refl;
          traces = traces_are c less it (Stands l) (k.traces c);
          tallies = tallies_are c less it (Stands l) (tallied_stand p c me (asked_of (k.stance c)) (k.tallies c) (out l) (λ h. ap (λ g. asked_of g h) runs));
          clients = long it;
          rooms = each_room t (log_in t item.EndMark) (λ h. refl);
          kept = subst (IsSimulated p sound) (sym (sight_path refl (clients_is c less it (Stands l)) (each_put t (log_in t item.EndMark))
              (fun_ext (entries_keep c less it (Stands l) refl))
              (fun_ext (traces_keep c less it (Stands l) refl))))
              (end_kept p sound v c l runs k.kept);
        }

    began : (l : Locals) → begun_blocks me < blocks_of p c → me.stage ≡ out l → RunInvariant p sound (plain.separate p s c me l)
    began l more e =
        let n = begun_blocks me in
        let t = ticket c n in
        let rest = block_tree p t l in
        let it = begins me l rest (text_of p t).reserved in
        let at = stance_stands l e (k.stance c) (k.stages c inside) in
        let traces_long = k.traces c in
        record {
          stance = put k.stance c (Runs rest);
          stages = stages_are c less it (Runs rest) refl;
          traces = traces_are c less it (Runs rest) (length-append me.traces ([] ∷ []) ∙ (ap (λ m. m + 1) (k.traces c) ∙ sym (length-append me.entries (l ∷ []))));
          tallies = tallies_are c less it (Runs rest) (tallied_begin p c me (asked_of (k.stance c)) (k.tallies c) l rest (λ h. ap (λ g. asked_of g h) at) (k.traces c));
          clients = long it;
          rooms = each_room t (enter t) (λ h. refl);
          kept = subst (IsSimulated p sound) (sym (sight_path refl
              (clients_is c less it (Runs rest) ∙ ap (λ m. put (λ d. standing (begun_blocks (client_at s d)) (k.stance d)) c (standing m (Runs rest))) (length-append me.entries (l ∷ []) ∙ (let one : n + 1 ≡ suc n = omega arith in one)))
              (each_put t (enter t))
              (fun_ext (at_ticket c less it (Runs rest) (λ x. x.entries) [] n l (snoc_here me.entries l []) (λ i other. snoc_there me.entries l [] i other)))
              (fun_ext (at_ticket c less it (Runs rest) (λ x. x.traces) [] n []
              (ap (λ m. get_or (me.traces ++ [] ∷ []) m []) (sym traces_long) ∙ snoc_here me.traces [] [])
              (λ i other. snoc_there me.traces [] [] i (ap (λ m. m == i) traces_long ∙ other))))))
              (separate_kept p sound v c l more at k.kept);
        }
      where
        standing : ℕ → PlainStage → ClientView
        standing n x = record { begun = n; stage = x }

    goes : (rest : Interaction) → me.stage ≡ within rest → RunInvariant p sound (moves_on p s c me rest)
    goes v e = search (rules, ended, called, asked)

    client_kept : (g : StageOfClient) → me.stage ≡ g → RunInvariant p sound (or_stay s (client_step p s c me g))
    client_kept g e = search (rules, began, goes)

  module _ (h : ℕ) where
    abbrev us : Handler
    us = handler_at s.handlers h

    served_by : (q : Private) (qs : List Private) → us.queues ≡ q ∷ qs → h < length p.objects
    served_by q qs e = search (rules, handlers_long, get_or_past)

    room_is : h < length p.objects → us.held.room ≡ room_of p h
    room_is inside =
        sym (get_or-map room_at s.handlers h no_handler 0 (omega (arith, inside, handlers_long)))
        ∙ (ap (λ xs. get_or xs h 0) k.rooms ∙ get_or-map-range_with_len (room_of p) 0 (length p.objects) h h 0 inside (omega arith))

    runs_it : (t : Ticket) (r : Request) → length us.held.journal < us.held.room → run_one us.held t r ≡ (noted_held us.held t r, answer us.held.object r)
    runs_it t r fits = search (rules, noted_held)

    done_it : (q : Private) (qs : List Private) (r : Request) (items : List QueueItem) → us.queues ≡ q ∷ qs → q.items ≡ item.Command r ∷ items → RunInvariant p sound (runs_command s h us q qs items r)
    done_it q qs r items e i =
        let inside = served_by q qs e in
        let fits : length us.held.journal < us.held.room = subst (λ n. length us.held.journal < n) (sym (room_is inside)) (do_room p sound v h q qs r items e i k.kept) in
        let is = runs_it q.ticket r fits in
        record {
          stance = k.stance;
          stages = k.stages;
          traces = k.traces;
          tallies = k.tallies;
          clients = k.clients;
          rooms = one_room h _ (room_stays us.held q.ticket r);
          kept = subst (IsSimulated p sound) (sym (sight_path refl refl
              (handler_put h _ inside ∙ ap (λ (o : HeldState × Option ℤ). put (λ g. handler_at s.handlers g) h (serves us q qs items o.0)) is)
              refl refl))
              (do_kept p sound v h q qs r items e i k.kept);
        }

    over_it : (q : Private) (qs : List Private) (items : List QueueItem) → us.queues ≡ q ∷ qs → q.items ≡ item.EndMark ∷ items → RunInvariant p sound (leaves_queue s h us qs)
    over_it q qs items e i = record {
      stance = k.stance;
      stages = k.stages;
      traces = k.traces;
      tallies = k.tallies;
      clients = k.clients;
      rooms = one_room h _ refl;
      kept = subst (IsSimulated p sound) (sym (sight_path refl refl (handler_put h _ (served_by q qs e)) refl refl)) (end_step_kept p sound v h q qs items e i k.kept);
    }

    -- a query is answered, and its client goes on
    module _ (q : Private) (qs : List Private) (r : Request) (items : List QueueItem) (e : us.queues ≡ q ∷ qs) (i : q.items ≡ item.Query r ∷ items) where
      abbrev c : ℕ
      c = q.ticket.client

      abbrev you : Client
      you = client_at s c

      abbrev v0 : Option ℤ
      v0 = answer us.held.object r

      asks_it : Asking p sound v h q r items
      asks_it = asking p sound v h q qs r items e i k.kept

      abbrev rest : Interaction
      rest = asks_it.next (value_of v0)

      is_client : c < length s.clients
      is_client = search (rules, get_or_past, asks_it)

      abbrev replied_to : Client
      replied_to = stands (with_trace_event you q.ticket.index (event r v0)) (within rest)

      abbrev new : Plain
      new = record { order = s.order; clients = set s.clients c replied_to; handlers = set s.handlers h (serves us q qs items (noted_held us.held q.ticket r)) }

      you_wait : you.stage ≡ waiting asks_it.next
      you_wait = k.stages c (let l = k.clients in omega (arith, is_client, l)) ∙ ap stage_of asks_it.stage

      is_new : runs_query s h us q qs items r ≡ new
      is_new =
          let inside = served_by q qs e in
          let fits : length us.held.journal < us.held.room = subst (λ n. length us.held.journal < n) (sym (room_is inside)) asks_it.room in
          let ran_is = runs_it q.ticket r fits in
          let n : begun_blocks you - 1 ≡ q.ticket.index = let last = asks_it.last in omega (arith, last) in
          let heard : after_reply you r (run_one us.held q.ticket r).1 ≡ replied_to =
          ap (λ (o : HeldState × Option ℤ). after_reply you r o.1) ran_is
          ∙ (ap (reply_to you r v0) you_wait ∙ ap (λ n. stands (with_trace_event you n (event r v0)) (within rest)) n) in
          λ j. record {
            order = s.order;
            clients = set s.clients c (heard j);
            handlers = set s.handlers h (serves us q qs items (ran_is j).0);
          }

      kept_new : RunInvariant p sound new
      kept_new =
          let inside = served_by q qs e in
          let last = asks_it.last in
          let traces_long = k.traces c in
          let stance_is : Runs rest ≡ after_answer (value_of v0) (k.stance c) = sym (ap (after_answer (value_of v0)) asks_it.stage) in
          record {
            stance = put k.stance c (Runs rest);
            stages = stages_are c is_client replied_to (Runs rest) refl;
            traces = traces_are c is_client replied_to (Runs rest) (length-set you.traces q.ticket.index (get_or you.traces q.ticket.index [] ++ event r v0 ∷ []) ∙ k.traces c);
            tallies = tallies_are c is_client replied_to (Runs rest) (tallied_reply p c you r v0 q.ticket.index rest
                (subst (λ g. Tallied p c you (asked_of g)) asks_it.stage (k.tallies c)) last (k.traces c)
                (waits_for_query p sound v c r asks_it.next (begun_blocks you) asks_it.stage refl k.kept));
            clients = long c is_client replied_to;
            rooms = one_room h _ refl;
            kept = subst (IsSimulated p sound) (sym (sight_path refl
                (clients_is c is_client replied_to (Runs rest) ∙ ap (λ x. put (λ d. standing (begun_blocks (client_at s d)) (k.stance d)) c (standing (begun_blocks you) x)) stance_is)
                (handler_put h _ inside)
                (fun_ext (entries_keep c is_client replied_to (Runs rest) refl))
                (fun_ext (at_ticket c is_client replied_to (Runs rest) (λ x. x.traces) [] q.ticket.index _ (get_or-set_same you.traces q.ticket.index _ [] (omega (arith, last, traces_long))) (λ i other. get_or-set_other you.traces q.ticket.index i _ [] (apart q.ticket.index i other))))))
                (ask_kept p sound v h q qs r items e i k.kept);
          }
        where
          standing : ℕ → PlainStage → ClientView
          standing n x = record { begun = n; stage = x }

      asked_it : RunInvariant p sound (runs_query s h us q qs items r)
      asked_it = subst (RunInvariant p sound) (sym is_new) kept_new

    item_kept : (q : Private) (qs : List Private) (items : List QueueItem) → us.queues ≡ q ∷ qs → q.items ≡ items → RunInvariant p sound (or_stay s (item_step s h us q qs items))
    item_kept q qs items e i = search (rules, done_it, asked_it, over_it)

    queue_kept : (qs : List Private) → us.queues ≡ qs → RunInvariant p sound (or_stay s (queue_step s h us qs))
    queue_kept v e = search (rules, item_kept)

  pub step_kept : (a : Actor) → RunInvariant p sound (or_stay s (step p s a))
  step_kept a = search (rules, queue_kept, client_kept)

pub plays_kept : (p : ProgramShape) (sound : IsSound p) (actors : List Actor) (s : Plain) → RunInvariant p sound s → RunInvariant p sound (plays p actors s)
plays_kept p sound [] s k = k
plays_kept p sound (a ∷ rest) s k = plays_kept p sound rest (or_stay s (step p s a)) (step_kept p sound s k a)

-- before the first step

every_at : {X : Type 0} (P : X → Type 0) (f : ℕ → X) (ns : List ℕ) (d : X) → ((n : ℕ) → P (f n)) → P d → (i : ℕ) → P (get_or (map f ns) i d)
every_at P f [] d each none i = none
every_at P f (n ∷ ns) d each none zero = each n
every_at P f (n ∷ ns) d each none (suc i) = every_at P f ns d each none i

module _ (p : ProgramShape) (sound : IsSound p) where
  fresh_at : (P : Client → Type 0) → ((n : ℕ) → P (fresh_client n)) → P no_client → (c : ℕ) → P (client_at (begin p) c)
  fresh_at P each none = every_at P fresh_client (range_with_len 0 (length p.clients)) no_client each none

  idle_at : (P : Handler → Type 0) → ((n : ℕ) → P (fresh_handler p n)) → P no_handler → (h : ℕ) → P (handler_at (begin p).handlers h)
  idle_at P each none = every_at P (fresh_handler p) (range_with_len 0 (length p.objects)) no_handler each none

  none_begun : (c : ℕ) → begun_blocks (client_at (begin p) c) ≡ 0
  none_begun = fresh_at (λ x. begun_blocks x ≡ 0) (λ n. refl) refl

  abbrev begin_course : ServedRun
  begin_course = record {
    order = [];
    booked = λ c. 0;
    block_record = λ t. record { entry = []; trace = []; rest = Done [] };
    service = λ h. record { past = []; queue = []; now = []; wait = λ t. []; journal = []; state = declared_states p h };
  }

  pub begin_kept : RunInvariant p sound (begin p)
  begin_kept = record {
    stance = λ c. Stands zeros;
    stages = λ c inside. staged c inside;
    traces = λ c. fresh_at (λ x. length x.traces ≡ begun_blocks x) (λ n. refl) refl c;
    tallies = λ c. fresh_at (λ x. Tallied p c x (λ h. 0)) (λ n. none_tallied c (fresh_client n) refl refl) (none_tallied c no_client refl refl) c;
    clients = length-map (range_with_len 0 (length p.clients)) fresh_client ∙ length-range_with_len 0 (length p.clients);
    rooms = map-map room_at (fresh_handler p) (range_with_len 0 (length p.objects));
    kept = (
      begin_course,
      record {
        legal = tt;
        counts = λ c. refl;
        below = tt;
        block_records = tt;
        begins = tt;
        services = λ h. record { mine = refl; apart = tt; over = tt; front = refl; entries = refl; commands = λ t. tt; honest = tt; state = refl };
      },
      record {
        order = refl;
        booked = λ c. sym (none_begun c);
        entry = λ t. sym (fresh_at (λ x. get_or x.entries t.index [] ≡ []) (λ n. refl) refl t.client);
        trace = λ t. sym (fresh_at (λ x. get_or x.traces t.index [] ≡ []) (λ n. refl) refl t.client);
        stands = λ c. subst (λ n. Begins begin_course.block_record c n zeros) (sym (none_begun c)) refl;
        older = λ c n lt. absurd (let z = none_begun c in omega (arith, z, lt));
        queues = λ h. idle_at (λ x. x.queues ≡ []) (λ n. refl) refl h;
        journal = λ h. sym (idle_at (λ x. x.held.journal ≡ []) (λ n. refl) refl h);
        state = λ h. search (rules, get_or-map-range_with_len, length-range_with_len, length-map, get_or_past);
      },
    );
  }
    where
      none_tallied : (c : ℕ) (it : Client) → begun_blocks it ≡ 0 → length it.counts ≡ 0 → Tallied p c it (λ h. 0)
      none_tallied c it none counts = search (rules, none, long, inside)

      staged : (c : ℕ) → c < length p.clients → (client_at (begin p) c).stage ≡ out zeros
      staged c inside = ap (λ (x : Client). x.stage) (get_or-map-range_with_len fresh_client 0 (length p.clients) c c no_client inside (omega arith))

-- after any list of actors
pub run_kept : (p : ProgramShape) (sound : IsSound p) (actors : List Actor) → RunInvariant p sound (plays p actors (begin p))
run_kept p sound actors = plays_kept p sound actors (begin p) (begin_kept p sound)
