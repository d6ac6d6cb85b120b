-- Runs by the plain rules are isolated: their state is an abstract run, whose journals flow as each handler's queue of
-- queues was served.
use Rattle.std.proofs.Common.{◌≡◌, ◌<◌, ℕ, zero, suc, ◌+◌, Bool, true, false, if◌then◌else◌, nat_eq, List, [], ◌∷◌, flat_map, length, get_or, refl, ap, sym, subst, ◌∙◌, arith, rules}
use Rattle.std.proofs.Math.ListN.{get_or-map as get_or-map-any}
use Rattle.qs_played.proofs.Names.{get_or-map, length-map, AllByRecursion, same, Ticket, Request, and_cases, not_same, reserves, ProgramShape, blocks_of, IsLegal, LegalFrom, declared_states, put, IsSound, each_map, each_both, each_join, Among, Apart, Flow, ObjectCourse, NoQuery, done_of, parts_of, Begins, IsDone, IsBlockRecord, legal_apart, line, blocks_ask_only, unnamed, journal_of, state_of, ticket_at, ticket, Played}
use Rattle.qs_played.specs.Isolation.{IsIsolated}
use Rattle.qs_plain_laws.proofs.Names.{counts_after, legal_among, apart_kept, apart_both, no_block_beyond, PlainRunsAreIsolated, commands_of, commands_in, commands_in_queue}
use Rattle.qs_played.proofs.AbstractRun.{IsRun, run_isolated}
use Rattle.qs_plain_laws.specs.audit.Plain.{Plain, Client, Handler, begun_blocks, client_at, handler_at, begin, no_client, no_handler}
use Rattle.qs_plain_laws.specs.audit.PlainSchedule.{all_done, all_idle, counts_of, ended_at, entry_at, has_ended, is_done, is_finished, is_out, played_of, plays, trace_at}
use Rattle.qs_plain_laws.proofs.ServedRuns.{ServedRun, Front, IsServedRun}
use Rattle.qs_plain_laws.proofs.PlainPreserved.{RunInvariant, handlers_long, run_kept, sight_of}
use Rattle.qs_plain_laws.proofs.ServiceFlows.{commands_private, flow, commands_found, found_each, found_none}
use Rattle.qs_plain_laws.proofs.RunViews.{RunView, stage_of}
use Rattle.qs_plain_laws.proofs.Simulation.{Simulates, private, queue_may}

pub done_at : (p : ProgramShape) (n : ℕ) (cs : List Client) (i : ℕ) → all_done p n cs ≡ true → i < length cs → is_done p (n + i) (get_or cs i no_client) ≡ true
done_at p n [] i all inside = absurd (omega (arith, inside))
done_at p n (c ∷ cs) zero all inside = grind (arith, and_cases)
done_at p n (c ∷ cs) (suc i) all inside = grind (arith, and_cases, done_at p (suc n) cs i (and_cases (is_done p n c) (all_done p (suc n) cs) all).1 (omega (arith, inside)))

pub idle_at : (hs : List Handler) (h : ℕ) → all_idle hs ≡ true → (handler_at hs h).queues ≡ []
idle_at [] h all = refl
idle_at (x ∷ hs) zero all = none x.queues (and_cases (nat_eq (length x.queues) 0) (all_idle hs) all).0
  where
    none : {X : Type 0} (xs : List X) → nat_eq (length xs) 0 ≡ true → xs ≡ []
    none [] e = refl
    none (x ∷ xs) e = absurd (let n : length (x ∷ xs) ≡ 0 = grind (arith, e) in omega (arith, n))
idle_at (x ∷ hs) (suc h) all = idle_at hs h (and_cases (nat_eq (length x.queues) 0) (all_idle hs) all).1

module _ (p : ProgramShape) (sound : IsSound p) (s : Plain) (k : RunInvariant p sound s) where
  abbrev v : RunView
  v = sight_of s k.stance

  abbrev w : ServedRun
  w = k.kept.0

  good : IsServedRun p w
  good = k.kept.1

  sim : Simulates v w
  sim = k.kept.2

  abbrev r : Played
  r = played_of p s

  abbrev waits : ℕ → Ticket → List Request
  waits h = commands_found v.client h (w.service h).wait (w.service h).queue

  waits_are : (h : ℕ) (t : Ticket) → commands_in_queue s h t ≡ waits h t
  waits_are h t = ap (flat_map (commands_of t)) (sim.queues h)

  abbrev x : ℕ → ObjectCourse
  x = line p sound w.block_record waits (λ h. (w.service h).state) (λ h. (w.service h).queue ≡ [] → ⊥) (λ h. (w.service h).journal)

  found_commands : (h : ℕ) (q : List Ticket) (t : Ticket) → AllByRecursion NoQuery (commands_found v.client h (w.service h).wait q t)
  found_commands h [] t = tt
  found_commands h (u ∷ q) t = each_join NoQuery (commands_of t (private v.client h (w.service h).wait u)) (commands_found v.client h (w.service h).wait q t) (own (same t u)) (found_commands h q t)
    where
      own : (b : Bool) → AllByRecursion NoQuery (if b then commands_in (private v.client h (w.service h).wait u).items else [])
      own true = subst (AllByRecursion NoQuery) (sym (commands_private v.client h (w.service h).wait u)) ((good.services h).commands u)
      own false = tt

  flows : (h : ℕ) → Flow (x h) (declared_states p h) (w.service h).journal w.order
  flows h =
      let l = good.services h in
      let each = found_each v.client h (w.service h).wait (w.service h).queue l.apart in
      flow p h (parts_of w.block_record h) (done_of w.block_record) (w.service h) (waits h) w.order (w.service h).past (w.service h).queue (declared_states p h) (w.service h).journal refl l.mine l.over
      (each_map (λ t far. found_none v.client h (w.service h).wait (w.service h).queue t far) (w.service h).past
      (apart_both (w.service h).past (w.service h).queue (subst Apart l.mine (apart_kept (λ t. reserves p t h) w.order (legal_apart p (λ _. 0) w.order good.legal)))))
      (front (w.service h).queue each l.front)
      (each_map (λ u e. found_commands h (w.service h).queue u) (w.service h).queue each)
      l.entries l.honest l.state
      (each_map (λ u path. idle u path) w.order good.block_records)
    where
      front : (q : List Ticket) → AllByRecursion (λ u. waits h u ≡ (w.service h).wait u) q → Front (parts_of w.block_record h) (w.service h).now (w.service h).wait q → Front (parts_of w.block_record h) (w.service h).now (waits h) q
      front q e f = search (rules, each_both)

      own_queue : AllByRecursion (λ u. reserves p u h ≡ true) (w.service h).queue
      own_queue = queue_may p sound w h good

      idle : (u : Ticket) → IsBlockRecord p u (w.block_record u) → reserves p u h ≡ false → (parts_of w.block_record h u ≡ []) × (waits h u ≡ [])
      idle u path e = search (rules, unnamed, blocks_ask_only, found_none, each_map, not_same, own_queue)

  legal : IsLegal p s.order
  legal = subst (IsLegal p) sim.order good.legal

  journal_is : (h : ℕ) → journal_of r h ≡ (w.service h).journal
  journal_is h = get_or-map-any (λ (x : Handler). x.held.journal) s.handlers h no_handler ∙ sym (sim.journal h)

  state_is : (h : ℕ) → state_of r h ≡ (w.service h).state
  state_is h = get_or-map-any (λ (x : Handler). x.held.object) s.handlers h no_handler ∙ sym (sim.state h)

  -- an ended block has nothing left
  ended_done : (t : Ticket) → t.client < length p.clients → has_ended (client_at s t.client) t.index ≡ true → IsDone (w.block_record t).rest
  ended_done t inside e = search (rules, sim, and_cases, stage_of)

  -- a reservation's client is one of the program
  client_inside : (i : ℕ) → i < length s.order → (ticket_at r i).client < length p.clients
  client_inside i inside = no_block_beyond p (ticket_at r i).client (some (λ _. 0) s.order i legal inside)
    where
      some : (b : ℕ → ℕ) (ts : List Ticket) (i : ℕ) → LegalFrom p b ts → i < length ts → 0 < blocks_of p (get_or ts i (ticket 0 0)).client
      some b [] i g inside = absurd (omega (arith, inside))
      some b (t ∷ ts) zero g inside = let l = g.1 in omega (arith, l)
      some b (t ∷ ts) (suc i) g inside = some (put b t.client (suc t.index)) ts i g.2 (omega (arith, inside))

  -- a finished run has reserved each block
  every : is_finished p s ≡ true → (u : Ticket) → u.index < blocks_of p u.client → Among u s.order
  every e u some =
      let both = and_cases (all_done p 0 s.clients) (all_idle s.handlers) e in
      let inside = no_block_beyond p u.client (omega (arith, some)) in
      let long = k.clients in
      let done : is_done p (0 + u.client) (client_at s u.client) ≡ true = done_at p 0 s.clients u.client both.0 (omega (arith, inside, long)) in
      let z : 0 + u.client ≡ u.client = omega arith in
      let same_done : is_done p u.client (client_at s u.client) ≡ true = subst (λ c. is_done p c (client_at s u.client) ≡ true) z done in
      let b = (and_cases (is_out (client_at s u.client).stage) (nat_eq (begun_blocks (client_at s u.client)) (blocks_of p u.client)) same_done).1 in
      let all_begun : begun_blocks (client_at s u.client) ≡ blocks_of p u.client = grind (arith, b) in
      let counted : counts_after (λ _. 0) s.order u.client ≡ begun_blocks (client_at s u.client) = ap (λ ts. counts_after (λ _. 0) ts u.client) (sym sim.order) ∙ (good.counts u.client ∙ sim.booked u.client) in
      legal_among p (λ _. 0) s.order u.client u.index legal (omega arith) (omega (arith, counted, all_begun, some))

  -- and then no handler has a reservation before it
  none_left : is_finished p s ≡ true → (h : ℕ) → (w.service h).queue ≡ []
  none_left e h = search (rules, and_cases, sim, idle_at)

  run : IsRun p sound r w.block_record waits (λ h. (w.service h).state) (λ h. (w.service h).queue ≡ [] → ⊥) (λ h. (w.service h).journal)
  run = record {
    fits = record {
      ended = length-map s.order (ended_at s);
      entries = length-map s.order (entry_at s);
      traces = length-map s.order (trace_at s);
      sync_counts = length-map s.order (counts_of s);
      journals = length-map s.handlers (λ (h : Handler). h.held.journal) ∙ handlers_long p sound s k;
      states = length-map s.handlers (λ (h : Handler). h.held.object) ∙ handlers_long p sound s k;
    };
    legal = legal;
    block_records = subst (AllByRecursion (λ t. IsBlockRecord p t (w.block_record t))) sim.order good.block_records;
    begins = subst (AllByRecursion (λ t. Begins w.block_record t.client t.index (w.block_record t).entry)) sim.order good.begins;
    flows = λ h. subst (Flow (x h) (declared_states p h) (w.service h).journal) sim.order (flows h);
    honest = λ h own. (good.services h).honest;
    replayed = λ h own. (good.services h).state;
    entry = λ i inside. get_or-map (entry_at s) s.order i (ticket 0 0) [] inside ∙ sym (sim.entry (ticket_at r i));
    trace = λ i inside. get_or-map (trace_at s) s.order i (ticket 0 0) [] inside ∙ sym (sim.trace (ticket_at r i));
    ended = λ i inside e. ended_done (ticket_at r i) (client_inside i inside) (sym (get_or-map (ended_at s) s.order i (ticket 0 0) false inside) ∙ e);
    journals = λ h own. journal_is h;
    written = λ h t has. journal_is h;
    states = λ h own. state_is h;
    all = every;
    idle = λ e h own busy. busy (none_left e h);
  }

  pub isolated : IsIsolated p r (commands_in_queue s)
  isolated = subst (IsIsolated p r) (λ i h t. sym (waits_are h t) i) (run_isolated p sound r w.block_record waits (λ h. (w.service h).state) (λ h. (w.service h).queue ≡ [] → ⊥) (λ h. (w.service h).journal) run)

-- after every list of actors
pub runs_isolated : PlainRunsAreIsolated
runs_isolated p sound actors = isolated p sound (plays p actors (begin p)) (run_kept p sound actors)
