-- Each step of the plain rules, over functions of numbers and tickets, is a move of the served run that is kept beside
-- it, or none. The same steps over the machine's lists (`PlainPreserved`) are led back to this. A private queue is the
-- commands that wait and then at most one item more, an end mark or the query that its client waits for, so its first
-- item tells which move is made.
use Rattle.std.proofs.Common.{◌≡◌, ℕ, zero, suc, ◌-◌, ◌<◌, ◌≤◌, arith, Bool, true, false, true≢false, if◌then◌else◌, ◌==◌, List, [], ◌∷◌, ◌++◌, map, length, refl, sym, ap, ap₂, ◌∙◌, subst, ⊎_elim, append-nil, Option, ℤ, rules}
use Rattle.qs_played.proofs.Names.{AllByRecursion, map-append, State, is_query, command_event, same, stamp, Entry, Event, Ticket, Request, eqb_self, eqb_true, eqb_apart, apart_eqb, num_cases, ticket_cases, ticket_path, same_self, reserves, AsksOnly, block_tree, ProgramShape, blocks_of, put, event, value_of, IsSound, Locals, each_map, each_kept, each_back, each_passes, every, map_same, Among, Apart, advance, BlockRecord, IsBlockRecord, IsDone, Begins, put_here, put_there, ticket, room_of}
use Rattle.std.proofs.lemmas.Simd.{map-map}
use Rattle.qs_objects.specs.audit.Journals.{after, answer}
use Rattle.qs_meaning.specs.audit.Interaction.{Interaction, Done, Call, Query}
use Rattle.qs_plain_laws.proofs.Names.{counts_after, each_among, legal_among, put_at, put_at_here, put_at_there, put_at_field, put_field, put_at_kept, put_kept, put_all, put_both, Private, Handler, put_item, log_in, enter, QueueItem}
use Rattle.qs_plain_laws.proofs.ServedRuns.{Service, ServedRun, log, reply, end_block, run_first, reserve, service_reserve, IsServedRun}
use Rattle.qs_plain_laws.proofs.ServedRunMoves.{asks_left, log_ok, reply_ok, run_ok, leave_ok, reserve_ok, fresh, block_record', is_done_kept}
use Rattle.qs_plain_laws.proofs.Rooms.{room_to_run, room_to_ask}
use Rattle.qs_plain_laws.proofs.RunViews.{PlainStage, Stands, Runs, Awaits, ClientView, RunView, current, stand, after_answer, separate, call, query, end, do_step, ask_step, end_step}
use Rattle.qs_plain_laws.specs.declared.item.QueueItem.TheVariants as item

-- what stands behind the commands in a private queue
abbrev pub tail_now : PlainStage → ℕ → List QueueItem
tail_now (Stands l) h = item.EndMark ∷ []
tail_now (Runs t) h = []
tail_now (Awaits r next) h = (if r.object == h then item.Query r ∷ [] else [])

abbrev pub tail : (ℕ → ClientView) → ℕ → Ticket → List QueueItem
tail client h u = (if suc u.index == (client u.client).begun then tail_now (client u.client).stage h else item.EndMark ∷ [])

abbrev pub private : (ℕ → ClientView) → ℕ → (Ticket → List Request) → Ticket → Private
private client h wait u = record { ticket = u; items = map item.Command (wait u) ++ tail client h u }

abbrev pub StandsAt : (Ticket → BlockRecord) → ℕ → PlainStage → ℕ → Type 0
StandsAt block_record c (Stands l) n = Begins block_record c n l
StandsAt block_record c (Runs t) (suc k) = (block_record (ticket c k)).rest ≡ t
StandsAt block_record c (Awaits r next) (suc k) = (block_record (ticket c k)).rest ≡ Query r next
StandsAt block_record c _ zero = ⊥

pub record Simulates (s : RunView) (w : ServedRun) : Type 0 where
  pub order : w.order ≡ s.order
  pub booked : (c : ℕ) → w.booked c ≡ (s.client c).begun
  pub entry : (t : Ticket) → (w.block_record t).entry ≡ s.entry t
  pub trace : (t : Ticket) → (w.block_record t).trace ≡ s.trace t
  pub stands : (c : ℕ) → StandsAt w.block_record c (s.client c).stage (s.client c).begun
  pub older : (c k : ℕ) → suc k < (s.client c).begun → IsDone (w.block_record (ticket c k)).rest
  pub queues : (h : ℕ) → (s.handler h).queues ≡ map (private s.client h (w.service h).wait) (w.service h).queue
  pub journal : (h : ℕ) → (w.service h).journal ≡ (s.handler h).held.journal
  pub state : (h : ℕ) → (w.service h).state ≡ (s.handler h).held.object

-- the current ticket's tail, and the others'
tail_here : (client : ℕ → ClientView) (h c k : ℕ) → suc k ≡ (client c).begun → tail client h (ticket c k) ≡ tail_now (client c).stage h
tail_here client h c k e = rw (← e) (rw (eqb_self (suc k)))

tail_old : (client : ℕ → ClientView) (h : ℕ) (u : Ticket) → (suc u.index == (client u.client).begun) ≡ false → tail client h u ≡ item.EndMark ∷ []
tail_old client h u e = rw e

tail_there : (s : RunView) (h c k : ℕ) (stage : PlainStage) (u : Ticket) → suc k ≡ (s.client c).begun → same (ticket c k) u ≡ false → tail (stand s c stage) h u ≡ tail s.client h u
tail_there s h c k stage u e other = search (rules, stand, put_kept, eqb_apart, ticket_path, same_self, tail_old, put_there, num_cases)

-- the current ticket's tail after a change of its client's stage
tail_new : (s : RunView) (h c k : ℕ) (stage : PlainStage) → suc k ≡ (s.client c).begun → tail (stand s c stage) h (ticket c k) ≡ tail_now stage h
tail_new s h c k stage e = search (rules, stand, put_here, tail_here)

private_path : (u : Ticket) (a b : List QueueItem) → a ≡ b → ◌≡◌ {A = Private} (record { ticket = u; items = a }) (record { ticket = u; items = b })
private_path u a b e = λ i. record { ticket = u; items = e i }

-- one item more in the private queue of t, and none in the others
item_case : (client client' : ℕ → ClientView) (h : ℕ) (wait wait' : Ticket → List Request) (t : Ticket) (i : QueueItem)
    → (map item.Command (wait t) ++ tail client h t) ++ i ∷ [] ≡ map item.Command (wait' t) ++ tail client' h t
    → ((u : Ticket) → same t u ≡ false → (wait' u ≡ wait u) × (tail client' h u ≡ tail client h u))
    → (u : Ticket) → put_item t i (private client h wait u) ≡ private client' h wait' u
item_case client client' h wait wait' t i here there u = search (rules, same_self, private_path, ticket_cases)

none_case : (client client' : ℕ → ClientView) (h : ℕ) (wait wait' : Ticket → List Request) (u : Ticket) → wait' u ≡ wait u → tail client' h u ≡ tail client h u → private client h wait u ≡ private client' h wait' u
none_case client client' h wait wait' u a b = private_path u _ _ (ap₂ (λ a b. map item.Command a ++ b) (sym a) (sym b))

-- the current ticket's tail stays, and so do all
tail_stays : (s : RunView) (h c k : ℕ) (stage : PlainStage) → suc k ≡ (s.client c).begun → tail_now stage h ≡ tail_now (s.client c).stage h → (u : Ticket) → tail (stand s c stage) h u ≡ tail s.client h u
tail_stays s h c k stage e same_tail u = search (rules, stand, tail_new, tail_here, tail_there, ticket_cases)

-- where the current ticket's tail was empty, what follows the commands is its new tail
tail_first : (s : RunView) (h c k : ℕ) (stage : PlainStage) (i : QueueItem) (rs : List Request) → suc k ≡ (s.client c).begun → tail_now (s.client c).stage h ≡ [] → tail_now stage h ≡ i ∷ []
    → (map item.Command rs ++ tail s.client h (ticket c k)) ++ i ∷ [] ≡ map item.Command rs ++ tail (stand s c stage) h (ticket c k)
tail_first s h c k stage i rs e a b = search (rules, map, tail_here, append-nil, tail_new)

call_item : (tl tl' : List QueueItem) (rs rs' : List Request) (r : Request) → tl ≡ [] → tl' ≡ [] → rs' ≡ rs ++ r ∷ [] → (map item.Command rs ++ tl) ++ item.Command r ∷ [] ≡ map item.Command rs' ++ tl'
call_item tl tl' rs rs' r a b e = search (rules, map, append-nil, map-append)

module _ (p : ProgramShape) (sound : IsSound p) where
  abbrev pub IsSimulated : RunView → Type 0
  IsSimulated s = (w : ServedRun) × IsServedRun p w × Simulates s w

  stands_moved : (block_record block_record' : Ticket → BlockRecord) (c : ℕ) (stage : PlainStage) (n : ℕ) → ((k : ℕ) → (block_record' (ticket c k)).rest ≡ (block_record (ticket c k)).rest) → StandsAt block_record c stage n → StandsAt block_record' c stage n
  stands_moved block_record block_record' c stage n e h = search (rules, block_record')

  stands_after : (s : RunView) (block_record block_record' : Ticket → BlockRecord) (c : ℕ) (stage : PlainStage) → ((u : Ticket) → (c == u.client) ≡ false → (block_record' u).rest ≡ (block_record u).rest)
      → StandsAt block_record' c stage (s.client c).begun → ((d : ℕ) → StandsAt block_record d (s.client d).stage (s.client d).begun) → (d : ℕ) → StandsAt block_record' d (stand s c stage d).stage (stand s c stage d).begun
  stands_after s v w c stage e here there = search (rules, put_all, stands_moved)

  begun_same : (s : RunView) (c : ℕ) (stage : PlainStage) (d : ℕ) → (stand s c stage d).begun ≡ (s.client d).begun
  begun_same s c stage d = put_kept (λ x. x.begun) s.client c (record { begun = (s.client c).begun; stage = stage }) refl d

  -- the current block of a client, what is left of it, and that it is in the order
  abbrev Here : RunView → ServedRun → ℕ → Interaction → Type 0
  Here s w c t = (suc (((s.client c).begun - 1)) ≡ (s.client c).begun) × ((w.block_record (current s c)).rest ≡ t) × Among (current s c) w.order

  here_some : (s : RunView) (w : ServedRun) (c : ℕ) (t : Interaction) (n : ℕ) → (s.client c).begun ≡ suc n → IsServedRun p w → Simulates s w → (w.block_record (ticket c n)).rest ≡ t → Here s w c t
  here_some s w c t n e ok sim at = search (rules, legal_among)

  here_in : (s : RunView) (w : ServedRun) (c : ℕ) (t : Interaction) → (s.client c).stage ≡ Runs t → (n : ℕ) → (s.client c).begun ≡ n → IsServedRun p w → Simulates s w → Here s w c t
  here_in s w c t is zero e ok sim = absurd (subst (λ n. StandsAt w.block_record c (Runs t) n) e (subst (λ x. StandsAt w.block_record c x (s.client c).begun) is (sim.stands c)))
  here_in s w c t is (suc n) e ok sim = here_some s w c t n e ok sim (subst (λ n. StandsAt w.block_record c (Runs t) n) e (subst (λ x. StandsAt w.block_record c x (s.client c).begun) is (sim.stands c)))

  here_waits : (s : RunView) (w : ServedRun) (c : ℕ) (r : Request) (next : ℤ → Interaction) → (s.client c).stage ≡ Awaits r next → (n : ℕ) → (s.client c).begun ≡ n → IsServedRun p w → Simulates s w → Here s w c (Query r next)
  here_waits s w c r next is zero e ok sim = absurd (subst (λ n. StandsAt w.block_record c (Awaits r next) n) e (subst (λ x. StandsAt w.block_record c x (s.client c).begun) is (sim.stands c)))
  here_waits s w c r next is (suc n) e ok sim = here_some s w c (Query r next) n e ok sim (subst (λ n. StandsAt w.block_record c (Awaits r next) n) e (subst (λ x. StandsAt w.block_record c x (s.client c).begun) is (sim.stands c)))

  -- a stage that stands at what is left of the current block
  stands_here : (block_record : Ticket → BlockRecord) (c n : ℕ) (t : Interaction) → suc ((n - 1)) ≡ n → (block_record (ticket c ((n - 1)))).rest ≡ t → StandsAt block_record c (Runs t) n
  stands_here v c w t e h = grind arith

  -- a client in a block has begun one
  pub begun_some : (s : RunView) (c : ℕ) (t : Interaction) → (s.client c).stage ≡ Runs t → IsSimulated s → 0 < (s.client c).begun
  begun_some s c t is kept = let here = (here_in s kept.0 c t is (s.client c).begun refl kept.1 kept.2).0 in omega (arith, here)

  asks_here : (s : RunView) (c : ℕ) (t : Interaction) → (s.client c).stage ≡ Runs t → (kept : IsSimulated s) → AsksOnly (reserves p (current s c)) t
  asks_here s c t is kept =
      let w = kept.0 in
      let here = here_in s w c t is (s.client c).begun refl kept.1 kept.2 in
      subst (AsksOnly (reserves p (current s c))) here.1
      (asks_left p sound w (current s c) (each_among (λ t. IsBlockRecord p t (w.block_record t)) (current s c) w.order kept.1.block_records here.2))

  -- what a client asks it has reserved
  pub call_within : (s : RunView) (c : ℕ) (r : Request) (next : Interaction) → (s.client c).stage ≡ Runs (Call r next) → IsSimulated s → reserves p (current s c) r.object ≡ true
  call_within s c r next is kept = (asks_here s c (Call r next) is kept).1

  pub query_within : (s : RunView) (c : ℕ) (r : Request) (next : ℤ → Interaction) → (s.client c).stage ≡ Runs (Query r next) → IsSimulated s → reserves p (current s c) r.object ≡ true
  query_within s c r next is kept = (asks_here s c (Query r next) is kept).1

  -- and its commands are commands, its queries queries
  pub call_commands : (s : RunView) (c : ℕ) (r : Request) (next : Interaction) → (s.client c).stage ≡ Runs (Call r next) → IsSimulated s → is_query r.op ≡ false
  call_commands s c r next is kept = (asks_here s c (Call r next) is kept).0

  pub waits_for_query : (s : RunView) (c : ℕ) (r : Request) (next : ℤ → Interaction) (n : ℕ) → (s.client c).stage ≡ Awaits r next → (s.client c).begun ≡ n
      → IsSimulated s → is_query r.op ≡ true
  waits_for_query s c r next zero is b kept = search (rules, kept)
  waits_for_query s c r next (suc i) is b kept =
      let w = kept.0 in
      let t = ticket c i in
      let rest : (w.block_record t).rest ≡ Query r next =
      subst (λ n. StandsAt w.block_record c (Awaits r next) n) b (subst (λ g. StandsAt w.block_record c g (s.client c).begun) is (kept.2.stands c)) in
      let many : counts_after (λ _. 0) w.order c ≡ suc i = kept.1.counts c ∙ (kept.2.booked c ∙ b) in
      let member = legal_among p (λ _. 0) w.order c i kept.1.legal (omega arith) (omega (arith, many)) in
      let block_record = each_among (λ t. IsBlockRecord p t (w.block_record t)) t w.order kept.1.block_records member in
      let asking : AsksOnly (reserves p t) (Query r next) = subst (AsksOnly (reserves p t)) rest (asks_left p sound w t block_record) in
      asking.0

  pub call_kept : (s : RunView) (c : ℕ) (r : Request) (next : Interaction) → (s.client c).stage ≡ Runs (Call r next) → IsSimulated s → IsSimulated (call s c r next)
  call_kept s c r next is kept =
      let w = kept.0 in let sim = kept.2 in
      let t = current s c in
      let here = here_in s w c (Call r next) is (s.client c).begun refl kept.1 sim in
      let adv = advance (w.block_record t) (command_event r) next in
      let busy : IsDone (w.block_record t).rest → ⊥ = λ d. subst IsDone here.1 d in (
        log w t r next,
        log_ok p sound w t r next here.2 here.1 kept.1,
        record {
          order = sim.order;
          booked = λ d. sim.booked d ∙ sym (begun_same s c (Runs next) d);
          entry = λ u. put_at_kept (λ p. p.entry) w.block_record t adv refl u ∙ sim.entry u;
          trace = put_at_field (λ p. p.trace) w.block_record s.trace t adv (s.trace t ++ command_event r ∷ []) sim.trace (ap (λ es. es ++ command_event r ∷ []) (sim.trace t));
          stands = search (rules, stands_after, put_at, put_at_there, stands_here, put_at_here);
          older = λ d k lt. is_done_kept p sound w t (command_event r) next busy (ticket d k) (sim.older d k (subst (λ n. suc k < n) (begun_same s c (Runs next) d) lt));
          queues = put_both (λ h (x : Handler) (l : Service). x.queues ≡ map (private (stand s c (Runs next)) h l.wait) l.queue) s.handler w.service r.object _ _
              (ap (map (put_item t (item.Command r))) (sim.queues r.object) ∙ (map-map (put_item t (item.Command r)) _ (w.service r.object).queue ∙ map_same _ _ (w.service r.object).queue (every
              (item_case s.client (stand s c (Runs next)) r.object (w.service r.object).wait (put_at (w.service r.object).wait t ((w.service r.object).wait t ++ r ∷ [])) t (item.Command r)
              (call_item _ _ _ _ r (tail_here s.client r.object c (((s.client c).begun - 1)) here.0 ∙ ap (λ x. tail_now x r.object) is) (tail_new s r.object c (((s.client c).begun - 1)) (Runs next) here.0) (put_at_here (w.service r.object).wait t _))
              (λ u other. (put_at_there (w.service r.object).wait t _ u other, tail_stays s r.object c (((s.client c).begun - 1)) (Runs next) here.0 (sym (ap (λ x. tail_now x r.object) is)) u)))
              (w.service r.object).queue)))
              (λ h other. sim.queues h ∙ map_same _ _ (w.service h).queue (every
              (λ u. none_case s.client (stand s c (Runs next)) h (w.service h).wait (w.service h).wait u refl (tail_stays s h c (((s.client c).begun - 1)) (Runs next) here.0 (sym (ap (λ x. tail_now x h) is)) u))
              (w.service h).queue));
          journal = put_both (λ h (l : Service) (x : Handler). l.journal ≡ x.held.journal) w.service s.handler r.object _ _ (sim.journal r.object) (λ h other. sim.journal h);
          state = put_both (λ h (l : Service) (x : Handler). l.state ≡ x.held.object) w.service s.handler r.object _ _ (sim.state r.object) (λ h other. sim.state h);
        },
      )

  pub query_kept : (s : RunView) (c : ℕ) (r : Request) (next : ℤ → Interaction) → (s.client c).stage ≡ Runs (Query r next) → IsSimulated s → IsSimulated (query s c r next)
  query_kept s c r next is kept =
      let w = kept.0 in let sim = kept.2 in
      let t = current s c in
      let here = here_in s w c (Query r next) is (s.client c).begun refl kept.1 sim in
      let k = ((s.client c).begun - 1) in (
        w,
        kept.1,
        record {
          order = sim.order;
          booked = λ d. sim.booked d ∙ sym (begun_same s c (Awaits r next) d);
          entry = sim.entry;
          trace = sim.trace;
          stands = stands_after s w.block_record w.block_record c (Awaits r next) (λ u other. refl) (waits_here w.block_record c (s.client c).begun r next here.0 here.1) sim.stands;
          older = λ d k lt. sim.older d k (subst (λ n. suc k < n) (begun_same s c (Awaits r next) d) lt);
          queues = put_all (λ h (x : Handler). x.queues ≡ map (private (stand s c (Awaits r next)) h (w.service h).wait) (w.service h).queue) s.handler r.object _
              (ap (map (put_item t (item.Query r))) (sim.queues r.object) ∙ (map-map (put_item t (item.Query r)) _ (w.service r.object).queue ∙ map_same _ _ (w.service r.object).queue (every
              (item_case s.client (stand s c (Awaits r next)) r.object (w.service r.object).wait (w.service r.object).wait t (item.Query r)
              (tail_first s r.object c k (Awaits r next) (item.Query r) ((w.service r.object).wait t) here.0 (ap (λ x. tail_now x r.object) is) (ap (λ b. (if b then item.Query r ∷ [] else [])) (eqb_self r.object)))
              (λ u other. (refl, tail_there s r.object c k (Awaits r next) u here.0 other)))
              (w.service r.object).queue)))
              (λ h other. sim.queues h ∙ map_same _ _ (w.service h).queue (every
              (λ u. none_case s.client (stand s c (Awaits r next)) h (w.service h).wait (w.service h).wait u refl (tail_stays s h c k (Awaits r next) here.0 (ap (λ b. (if b then item.Query r ∷ [] else [])) other ∙ sym (ap (λ x. tail_now x h) is)) u))
              (w.service h).queue));
          journal = λ h. sim.journal h ∙ sym (put_kept (λ (x : Handler). x.held.journal) s.handler r.object (log_in t (item.Query r) (s.handler r.object)) refl h);
          state = λ h. sim.state h ∙ sym (put_kept (λ (x : Handler). x.held.object) s.handler r.object (log_in t (item.Query r) (s.handler r.object)) refl h);
        },
      )
    where
      waits_here : (block_record : Ticket → BlockRecord) (c n : ℕ) (r : Request) (next : ℤ → Interaction) → suc ((n - 1)) ≡ n → (block_record (ticket c ((n - 1)))).rest ≡ Query r next → StandsAt block_record c (Awaits r next) n
      waits_here v c w r next e h = grind arith

  -- the tickets in an object's queue reserve it
  pub queue_may : (w : ServedRun) (h : ℕ) → IsServedRun p w → AllByRecursion (λ u. reserves p u h ≡ true) (w.service h).queue
  queue_may w h ok =
      each_back (λ u. reserves p u h ≡ true) (w.service h).past (w.service h).queue
      (subst (AllByRecursion (λ u. reserves p u h ≡ true)) (ok.services h).mine (each_passes (λ u. reserves p u h) w.order))

  pub end_kept : (s : RunView) (c : ℕ) (l : Locals) → (s.client c).stage ≡ Runs (Done l) → IsSimulated s → IsSimulated (end p s c l)
  end_kept s c l is kept =
      let w = kept.0 in let sim = kept.2 in
      let t = current s c in
      let here = here_in s w c (Done l) is (s.client c).begun refl kept.1 sim in
      let k = ((s.client c).begun - 1) in (
        w,
        kept.1,
        record {
          order = sim.order;
          booked = λ d. sim.booked d ∙ sym (begun_same s c (Stands l) d);
          entry = sim.entry;
          trace = sim.trace;
          stands = stands_after s w.block_record w.block_record c (Stands l) (λ u other. refl) (out_here w.block_record c (s.client c).begun l here.0 here.1) sim.stands;
          older = λ d k lt. sim.older d k (subst (λ n. suc k < n) (begun_same s c (Stands l) d) lt);
          queues = λ h. marks h (reserves p t h) refl;
          journal = λ h. sim.journal h ∙ journals h (reserves p t h);
          state = λ h. sim.state h ∙ states h (reserves p t h);
        },
      )
    where
      out_here : (block_record : Ticket → BlockRecord) (c n : ℕ) (l : Locals) → suc ((n - 1)) ≡ n → (block_record (ticket c ((n - 1)))).rest ≡ Done l → StandsAt block_record c (Stands l) n
      out_here v c w l e h = grind arith

      journals : (h : ℕ) (b : Bool) → (s.handler h).held.journal ≡ (if b then log_in (current s c) item.EndMark (s.handler h) else s.handler h).held.journal
      journals h v = search rules

      states : (h : ℕ) (b : Bool) → (s.handler h).held.object ≡ (if b then log_in (current s c) item.EndMark (s.handler h) else s.handler h).held.object
      states h v = search rules

      marks : (h : ℕ) (b : Bool) → reserves p (current s c) h ≡ b → (if b then log_in (current s c) item.EndMark (s.handler h) else s.handler h).queues ≡ map (private (stand s c (Stands l)) h ((kept.0).service h).wait) ((kept.0).service h).queue
      marks h true e =
          let w = kept.0 in let sim = kept.2 in
          let here = here_in s w c (Done l) is (s.client c).begun refl kept.1 sim in
          ap (map (put_item (current s c) item.EndMark)) (sim.queues h) ∙ (map-map (put_item (current s c) item.EndMark) _ (w.service h).queue ∙ map_same _ _ (w.service h).queue (every
          (item_case s.client (stand s c (Stands l)) h (w.service h).wait (w.service h).wait (current s c) item.EndMark
          (tail_first s h c (((s.client c).begun - 1)) (Stands l) item.EndMark ((w.service h).wait (current s c)) here.0 (ap (λ x. tail_now x h) is) refl)
          (λ u other. (refl, tail_there s h c (((s.client c).begun - 1)) (Stands l) u here.0 other)))
          (w.service h).queue))
      marks h false e =
          let w = kept.0 in let sim = kept.2 in
          let here = here_in s w c (Done l) is (s.client c).begun refl kept.1 sim in
          sim.queues h ∙ map_same _ _ (w.service h).queue (each_map (λ u (m : reserves p u h ≡ true).
          none_case s.client (stand s c (Stands l)) h (w.service h).wait (w.service h).wait u refl
          (⊎_elim
          (λ (same_one : current s c ≡ u). absurd (true≢false (sym m ∙ (ap (λ t. reserves p t h) (sym same_one) ∙ e))))
          (λ (other : same (current s c) u ≡ false). tail_there s h c (((s.client c).begun - 1)) (Stands l) u here.0 other)
          (ticket_cases (current s c) u)))
          (w.service h).queue (queue_may w h kept.1))

  -- a private queue of a ticket whose client enters a block
  tail_entered : (s : RunView) (h c : ℕ) (l : Locals) (tr : Interaction) (u : Ticket) → (s.client c).stage ≡ Stands l → same (ticket c (s.client c).begun) u ≡ false
      → tail (put s.client c (record { begun = suc (s.client c).begun; stage = Runs tr })) h u ≡ tail s.client h u
  tail_entered s h c l tr u is other = search (rules, put_here, eqb_apart, ticket_path, same_self, tail_old, put_there, num_cases)

  pub separate_kept : (s : RunView) (c : ℕ) (l : Locals) → (s.client c).begun < blocks_of p c → (s.client c).stage ≡ Stands l → IsSimulated s → IsSimulated (separate p s c l)
  separate_kept s c l some is kept =
      let w = kept.0 in let sim = kept.2 in
      let n = (s.client c).begun in
      let t = ticket c n in
      let x : ClientView = record { begun = suc n; stage = Runs (block_tree p t l) } in
      let pg : BlockRecord = record { entry = l; trace = []; rest = block_tree p t l } in
      let ib : n ≡ w.booked c = sym (sim.booked c) in
      let begins : Begins w.block_record c n l = subst (λ x. StandsAt w.block_record c x n) is (sim.stands c) in (
        reserve p w t l,
        reserve_ok p sound w t l ib kept.1 some begins,
        record {
          order = ap (λ ts. ts ++ t ∷ []) sim.order;
          booked = λ d. sym (put_field (λ (x : ClientView). x.begun) s.client w.booked c x (suc n) (λ d. sym (sim.booked d)) refl d);
          entry = put_at_field (λ (p : BlockRecord). p.entry) w.block_record s.entry t pg l sim.entry refl;
          trace = put_at_field (λ (p : BlockRecord). p.trace) w.block_record s.trace t pg [] sim.trace refl;
          stands = search (rules, put_all, put_at, put_at_here, stands_moved, put_at_there);
          older = search (rules, put_all, put_at, put_at_there);
          queues = λ h. lists h (reserves p t h) refl;
          journal = λ h. journals h (reserves p t h);
          state = λ h. states h (reserves p t h);
        },
      )
    where
      journals : (h : ℕ) (b : Bool) → (if b then service_reserve (kept.0.service h) (ticket c (s.client c).begun) else kept.0.service h).journal ≡ (if b then enter (ticket c (s.client c).begun) (s.handler h) else s.handler h).held.journal
      journals h v = search (rules, kept)

      states : (h : ℕ) (b : Bool) → (if b then service_reserve (kept.0.service h) (ticket c (s.client c).begun) else kept.0.service h).state ≡ (if b then enter (ticket c (s.client c).begun) (s.handler h) else s.handler h).held.object
      states h v = search (rules, kept)

      fresh_in : (h : ℕ) → AllByRecursion (λ u. same (ticket c (s.client c).begun) u ≡ false) (kept.0.service h).queue
      fresh_in h =
          let t = ticket c (s.client c).begun in
          each_back (λ u. same t u ≡ false) (kept.0.service h).past (kept.0.service h).queue
          (subst (AllByRecursion (λ u. same t u ≡ false)) (kept.1.services h).mine (each_kept (λ u. same t u ≡ false) (λ u. reserves p u h) kept.0.order (fresh p sound kept.0 t l (sym (kept.2.booked c)) kept.1)))

      lists : (h : ℕ) (b : Bool) → reserves p (ticket c (s.client c).begun) h ≡ b
          → (if b then enter (ticket c (s.client c).begun) (s.handler h) else s.handler h).queues
          ≡ map (private (put s.client c (record { begun = suc (s.client c).begun; stage = Runs (block_tree p (ticket c (s.client c).begun) l) })) h (if b then service_reserve (kept.0.service h) (ticket c (s.client c).begun) else kept.0.service h).wait)
          (if b then service_reserve (kept.0.service h) (ticket c (s.client c).begun) else kept.0.service h).queue
      lists h true e =
          let w = kept.0 in let t = ticket c (s.client c).begun in let x : ClientView = record { begun = suc (s.client c).begun; stage = Runs (block_tree p t l) } in
          let client' = put s.client c x in
          let here : put s.client c x c ≡ x = put_here s.client c x in
          ap₂ (λ a b. a ++ b)
          (kept.2.queues h ∙ map_same _ _ (w.service h).queue (each_map (λ u n. none_case s.client client' h (w.service h).wait (put_at (w.service h).wait t []) u (put_at_there (w.service h).wait t [] u n) (tail_entered s h c l (block_tree p t l) u is n)) (w.service h).queue (fresh_in h)))
          (ap (λ p. p ∷ []) (private_path t [] _ (ap₂ (λ rs i. map item.Command rs ++ i) (sym (put_at_here (w.service h).wait t [])) (sym (tail_here client' h c (s.client c).begun (sym (ap (λ x. x.begun) here)) ∙ ap (λ x. tail_now x.stage h) here)))))
          ∙ sym (map-append (private client' h (put_at (w.service h).wait t [])) (w.service h).queue (t ∷ []))
      lists h false e =
          let w = kept.0 in let t = ticket c (s.client c).begun in let x : ClientView = record { begun = suc (s.client c).begun; stage = Runs (block_tree p t l) } in
          kept.2.queues h ∙ map_same _ _ (w.service h).queue (each_map (λ u n. none_case s.client (put s.client c x) h (w.service h).wait (w.service h).wait u refl (tail_entered s h c l (block_tree p t l) u is n)) (w.service h).queue (fresh_in h))

  -- the first private queue, and the line's first ticket
  abbrev First : RunView → ServedRun → ℕ → Private → List Private → Type 0
  First s w h q qs = (t : Ticket) × (ts : List Ticket) × ((w.service h).queue ≡ t ∷ ts) × (q ≡ private s.client h (w.service h).wait t) × (qs ≡ map (private s.client h (w.service h).wait) ts)

  first : (s : RunView) (w : ServedRun) (h : ℕ) (q : Private) (qs : List Private) (ts : List Ticket) → (w.service h).queue ≡ ts → q ∷ qs ≡ map (private s.client h (w.service h).wait) ts → First s w h q qs
  first s w h q qs [] e is = absurd (cc)
  first s w h q qs (t ∷ ts) e is = search rules

  -- a private queue is its commands and its tail
  first_do : (rs : List Request) (tl : List QueueItem) (r : Request) (items : List QueueItem) → (tl ≡ item.Command r ∷ items → ⊥) → map item.Command rs ++ tl ≡ item.Command r ∷ items → (rest : List Request) × (rs ≡ r ∷ rest) × (items ≡ map item.Command rest ++ tl)
  first_do [] tl r items n e = absurd (n e)
  first_do (q ∷ rs) tl r items n e = search (rules, map)

  first_ask : (rs : List Request) (tl : List QueueItem) (r : Request) (items : List QueueItem) → map item.Command rs ++ tl ≡ item.Query r ∷ items → (rs ≡ []) × (tl ≡ item.Query r ∷ items)
  first_ask [] tl r items e = (refl, e)
  first_ask (q ∷ rs) tl r items e = absurd (cc)

  first_end : (rs : List Request) (tl : List QueueItem) (items : List QueueItem) → map item.Command rs ++ tl ≡ item.EndMark ∷ items → (rs ≡ []) × (tl ≡ item.EndMark ∷ items)
  first_end [] tl items e = (refl, e)
  first_end (q ∷ rs) tl items e = absurd (cc)

  -- what a tail may begin with
  now_do : (stage : PlainStage) (h : ℕ) (r : Request) (items : List QueueItem) → tail_now stage h ≡ item.Command r ∷ items → ⊥
  now_do stage h r items e = search rules

  tail_do : (b : Bool) (stage : PlainStage) (h : ℕ) (r : Request) (items : List QueueItem) → (if b then tail_now stage h else item.EndMark ∷ []) ≡ item.Command r ∷ items → ⊥
  tail_do v stage h r items e = search (rules, now_do)

  now_ask : (stage : PlainStage) (h : ℕ) (r : Request) (items : List QueueItem) → tail_now stage h ≡ item.Query r ∷ items → (next : ℤ → Interaction) × (stage ≡ Awaits r next) × (r.object ≡ h) × (items ≡ [])
  now_ask stage h r items e = search (rules, eqb_true)

  tail_ask : (u : Ticket) (n : ℕ) (stage : PlainStage) (h : ℕ) (r : Request) (items : List QueueItem) (b : Bool) → (suc u.index == n) ≡ b → (if b then tail_now stage h else item.EndMark ∷ []) ≡ item.Query r ∷ items
      → (suc u.index ≡ n) × ((next : ℤ → Interaction) × (stage ≡ Awaits r next) × (r.object ≡ h) × (items ≡ []))
  tail_ask u n stage h r items v is e = search (rules, eqb_true, now_ask)

  now_end : (stage : PlainStage) (h : ℕ) (items : List QueueItem) → tail_now stage h ≡ item.EndMark ∷ items → ((l : Locals) × (stage ≡ Stands l))
  now_end stage h items e = search rules

  do_at : (s : RunView) (h : ℕ) (t : Ticket) (ts : List Ticket) (r : Request) (items : List QueueItem) (kept : IsSimulated s) (f : (kept.0.service h).queue ≡ t ∷ ts)
      → ((rest : List Request) × ((kept.0.service h).wait t ≡ r ∷ rest) × (items ≡ map item.Command rest ++ tail s.client h t))
      → IsSimulated (do_step s h (private s.client h (kept.0.service h).wait t) (map (private s.client h (kept.0.service h).wait) ts) r items)
  do_at s h t ts r items kept f d =
      let w = kept.0 in let sim = kept.2 in let ok = kept.1.services h in
      let wait' = put_at (w.service h).wait t d.0 in
      let apart = subst Apart f ok.apart in (
        run_first w h t r d.0,
        run_ok p sound w h t ts r d.0 f d.1 kept.1,
        record {
          order = sim.order;
          booked = sim.booked;
          entry = sim.entry;
          trace = sim.trace;
          stands = sim.stands;
          older = sim.older;
          queues = put_both (λ h (x : Handler) (l : Service). x.queues ≡ map (private s.client h l.wait) l.queue) s.handler w.service h _ _
              (ap₂ (λ p ps. p ∷ ps)
              (private_path t items _ (d.2 ∙ ap (λ rs. map item.Command rs ++ tail s.client h t) (sym (put_at_here (w.service h).wait t d.0))))
              (map_same (private s.client h (w.service h).wait) (private s.client h wait') ts (each_map (λ u n. none_case s.client s.client h (w.service h).wait wait' u (⊎_elim (λ (is : t ≡ u). absurd (n is)) (λ (other : same t u ≡ false). put_at_there (w.service h).wait t d.0 u other) (ticket_cases t u)) refl) ts apart.0))
              ∙ sym (ap (map (private s.client h wait')) f))
              (λ g other. sim.queues g);
          journal = put_both (λ h (l : Service) (x : Handler). l.journal ≡ x.held.journal) w.service s.handler h _ _ (ap₂ (λ (j : List Entry) (a : State). j ++ stamp t (event r (answer a r)) ∷ []) (sim.journal h) (sim.state h)) (λ g other. sim.journal g);
          state = put_both (λ h (l : Service) (x : Handler). l.state ≡ x.held.object) w.service s.handler h _ _ (ap (λ a. after a r) (sim.state h)) (λ g other. sim.state g);
        },
      )

  -- where a command is served, the journal has room
  pub do_room : (s : RunView) (h : ℕ) (q : Private) (qs : List Private) (r : Request) (items : List QueueItem) → (s.handler h).queues ≡ q ∷ qs → q.items ≡ item.Command r ∷ items → IsSimulated s
      → length (s.handler h).held.journal < room_of p h
  do_room s h q qs r items e i kept = search (rules, first, first_do, tail_do, room_to_run)

  pub do_kept : (s : RunView) (h : ℕ) (q : Private) (qs : List Private) (r : Request) (items : List QueueItem) → (s.handler h).queues ≡ q ∷ qs → q.items ≡ item.Command r ∷ items → IsSimulated s → IsSimulated (do_step s h q qs r items)
  do_kept s h q qs r items e i kept =
      let f = first s kept.0 h q qs (kept.0.service h).queue refl (sym e ∙ kept.2.queues h) in
      let d = first_do ((kept.0.service h).wait f.0) (tail s.client h f.0) r items (tail_do (suc f.0.index == (s.client f.0.client).begun) (s.client f.0.client).stage h r items) (sym (ap (λ q. q.items) f.3) ∙ i) in
      subst (λ q. IsSimulated (do_step s h q qs r items)) (sym f.3) (subst (λ qs. IsSimulated (do_step s h (private s.client h (kept.0.service h).wait f.0) qs r items)) (sym f.4) (do_at s h f.0 f.1 r items kept f.2 d))

  ask_at : (s : RunView) (t : Ticket) (ts : List Ticket) (r : Request) (next : ℤ → Interaction) (kept : IsSimulated s) → (kept.0.service r.object).queue ≡ t ∷ ts → (kept.0.service r.object).wait t ≡ []
      → suc t.index ≡ (s.client t.client).begun → (s.client t.client).stage ≡ Awaits r next
      → IsSimulated (ask_step s r.object (private s.client r.object (kept.0.service r.object).wait t) (map (private s.client r.object (kept.0.service r.object).wait) ts) r [])
  ask_at s t ts r next kept f none at is =
      let w = kept.0 in let sim = kept.2 in let ok = kept.1.services r.object in
      let c = t.client in
      let h = r.object in
      let here = here_waits s w c r next is (s.client c).begun refl kept.1 sim in
      let k : current s c ≡ t = ticket_path refl (let i : ((s.client c).begun - 1) ≡ t.index = omega arith in i) in
      let rest : (w.block_record t).rest ≡ Query r next = subst (λ u. (w.block_record u).rest ≡ Query r next) k here.1 in
      let among = subst (λ u. Among u w.order) k here.2 in
      let v = answer (s.handler h).held.object r in
      let vw = answer (w.service h).state r in
      let v_is : vw ≡ v = ap (λ a. answer a r) (sim.state h) in
      let stage' = after_answer (value_of v) (s.client c).stage in
      let stage_is : Runs (next (value_of vw)) ≡ stage' = ap (λ v. Runs (next (value_of v))) v_is ∙ sym (ap (after_answer (value_of v)) is) in
      let adv = advance (w.block_record t) (event r vw) (next (value_of vw)) in
      let busy : IsDone (w.block_record t).rest → ⊥ = λ d. subst IsDone rest d in
      let apart = subst Apart f ok.apart in
      let tail_is = λ (g : ℕ) (out : (r.object == g) ≡ false) (u : Ticket). tail_stays s g c t.index stage' at (sym (ap (λ x. tail_now x g) stage_is) ∙ sym (ap (λ x. tail_now x g) is ∙ ap (λ b. (if b then item.Query r ∷ [] else [])) out)) u in (
        reply w t r next,
        reply_ok p sound w t r next ts among rest f none kept.1,
        record {
          order = sim.order;
          booked = λ d. sim.booked d ∙ sym (begun_same s c stage' d);
          entry = λ u. put_at_kept (λ (p : BlockRecord). p.entry) w.block_record t adv refl u ∙ sim.entry u;
          trace = put_at_field (λ (p : BlockRecord). p.trace) w.block_record s.trace t adv (s.trace t ++ event r v ∷ []) sim.trace (ap₂ (λ (es : List Event) (v : Option ℤ). es ++ event r v ∷ []) (sim.trace t) v_is);
          stands = search (rules, stands_after, put_at, put_at_there, stands_here, put_at_here);
          older = λ d k lt. is_done_kept p sound w t (event r vw) (next (value_of vw)) busy (ticket d k) (sim.older d k (subst (λ n. suc k < n) (begun_same s c stage' d) lt));
          queues = put_both (λ h (x : Handler) (l : Service). x.queues ≡ map (private (stand s c stage') h l.wait) l.queue) s.handler w.service h _ _
              (ap₂ (λ p ps. p ∷ ps)
              (private_path t [] _ (ap₂ (λ rs i. map item.Command rs ++ i) (sym none) (sym (tail_new s h c t.index stage' at ∙ sym (ap (λ x. tail_now x h) stage_is)))))
              (map_same (private s.client h (w.service h).wait) (private (stand s c stage') h (w.service h).wait) ts (each_map (λ u n. none_case s.client (stand s c stage') h (w.service h).wait (w.service h).wait u refl (⊎_elim (λ (is : t ≡ u). absurd (n is)) (λ (other : same t u ≡ false). tail_there s h c t.index stage' u at other) (ticket_cases t u))) ts apart.0))
              ∙ sym (ap (map (private (stand s c stage') h (w.service h).wait)) f))
              (λ g other. sim.queues g ∙ map_same _ _ (w.service g).queue (every (λ u. none_case s.client (stand s c stage') g (w.service g).wait (w.service g).wait u refl (tail_is g other u)) (w.service g).queue));
          journal = put_both (λ h (l : Service) (x : Handler). l.journal ≡ x.held.journal) w.service s.handler h _ _ (ap₂ (λ (j : List Entry) (a : State). j ++ stamp t (event r (answer a r)) ∷ []) (sim.journal h) (sim.state h)) (λ g other. sim.journal g);
          state = put_both (λ h (l : Service) (x : Handler). l.state ≡ x.held.object) w.service s.handler h _ _ (ap (λ a. after a r) (sim.state h)) (λ g other. sim.state g);
        },
      )

  pub ask_kept : (s : RunView) (h : ℕ) (q : Private) (qs : List Private) (r : Request) (items : List QueueItem) → (s.handler h).queues ≡ q ∷ qs → q.items ≡ item.Query r ∷ items → IsSimulated s → IsSimulated (ask_step s h q qs r items)
  ask_kept s h q qs r items e i kept =
      let f = first s kept.0 h q qs (kept.0.service h).queue refl (sym e ∙ kept.2.queues h) in
      let t = f.0 in
      let d = first_ask ((kept.0.service h).wait t) (tail s.client h t) r items (sym (ap (λ q. q.items) f.3) ∙ i) in
      let a = tail_ask t (s.client t.client).begun (s.client t.client).stage h r items (suc t.index == (s.client t.client).begun) refl d.1 in
      let at = subst (λ g. ((kept.0.service g).queue ≡ t ∷ f.1) → ((kept.0.service g).wait t ≡ []) → IsSimulated (ask_step s g (private s.client g (kept.0.service g).wait t) (map (private s.client g (kept.0.service g).wait) f.1) r [])) a.1.2
      (λ x y. ask_at s t f.1 r a.1.0 kept x y a.0 a.1.1) in
      subst (λ q. IsSimulated (ask_step s h q qs r items)) (sym f.3)
      (subst (λ qs. IsSimulated (ask_step s h (private s.client h (kept.0.service h).wait t) qs r items)) (sym f.4)
      (subst (λ items. IsSimulated (ask_step s h (private s.client h (kept.0.service h).wait t) (map (private s.client h (kept.0.service h).wait) f.1) r items)) (sym a.1.3) (at f.2 d.0)))

  -- a query that is served: its client waits for it, and the journal has room
  pub record Asking (s : RunView) (h : ℕ) (q : Private) (r : Request) (items : List QueueItem) : Type 0 where
    pub next : ℤ → Interaction
    pub stage : (s.client q.ticket.client).stage ≡ Awaits r next
    pub last : suc q.ticket.index ≡ (s.client q.ticket.client).begun
    pub room : length (s.handler h).held.journal < room_of p h

  pub asking : (s : RunView) (h : ℕ) (q : Private) (qs : List Private) (r : Request) (items : List QueueItem) → (s.handler h).queues ≡ q ∷ qs → q.items ≡ item.Query r ∷ items → IsSimulated s → Asking s h q r items
  asking s h q qs r items e i kept =
      let w = kept.0 in
      let f = first s w h q qs (w.service h).queue refl (sym e ∙ kept.2.queues h) in
      let t = f.0 in
      let d = first_ask ((w.service h).wait t) (tail s.client h t) r items (sym (ap (λ q. q.items) f.3) ∙ i) in
      let a = tail_ask t (s.client t.client).begun (s.client t.client).stage h r items (suc t.index == (s.client t.client).begun) refl d.1 in
      let here = here_waits s w t.client r a.1.0 a.1.1 (s.client t.client).begun refl kept.1 kept.2 in
      let k : current s t.client ≡ t = ticket_path refl (let begun = a.0 in let i : (s.client t.client).begun - 1 ≡ t.index = omega (arith, begun) in i) in
      let path = each_among (λ t. IsBlockRecord p t (w.block_record t)) t w.order kept.1.block_records (subst (λ u. Among u w.order) k here.2) in
      let fits = room_to_ask p h w kept.1 t f.1 r a.1.0 f.2 d.0 path (subst (λ u. (w.block_record u).rest ≡ Query r a.1.0) k here.1) a.1.2 in
      subst (λ q. Asking s h q r items) (sym f.3) (record {
        next = a.1.0;
        stage = a.1.1;
        last = a.0;
        room = subst (λ (j : List Entry). length j < room_of p h) (kept.2.journal h) fits;
      })

  -- a ticket in a line has been booked
  queue_below : (w : ServedRun) (h : ℕ) → IsServedRun p w → AllByRecursion (λ u. suc u.index ≤ w.booked u.client) (w.service h).queue
  queue_below w h ok = each_back (λ u. suc u.index ≤ w.booked u.client) (w.service h).past (w.service h).queue (subst (AllByRecursion (λ u. suc u.index ≤ w.booked u.client)) (ok.services h).mine (each_kept (λ u. suc u.index ≤ w.booked u.client) (λ u. reserves p u h) w.order ok.below))

  -- behind an end mark nothing is left
  ended_done : (s : RunView) (t : Ticket) (h : ℕ) (items : List QueueItem) (kept : IsSimulated s) → suc t.index ≤ kept.0.booked t.client → (b : Bool) → (suc t.index == (s.client t.client).begun) ≡ b
      → (if b then tail_now (s.client t.client).stage h else item.EndMark ∷ []) ≡ item.EndMark ∷ items → IsDone (kept.0.block_record t).rest
  ended_done s t h items kept below b e is = search (rules, eqb_true, now_end, apart_eqb)

  pub end_step_kept : (s : RunView) (h : ℕ) (q : Private) (qs : List Private) (items : List QueueItem) → (s.handler h).queues ≡ q ∷ qs → q.items ≡ item.EndMark ∷ items → IsSimulated s → IsSimulated (end_step s h qs)
  end_step_kept s h q qs items e i kept =
      let w = kept.0 in let sim = kept.2 in
      let f = first s w h q qs (w.service h).queue refl (sym e ∙ sim.queues h) in
      let t = f.0 in
      let d = first_end ((w.service h).wait t) (tail s.client h t) items (sym (ap (λ q. q.items) f.3) ∙ i) in
      let below = (subst (AllByRecursion (λ u. suc u.index ≤ w.booked u.client)) f.2 (queue_below w h kept.1)).0 in
      let over = ended_done s t h items kept below (suc t.index == (s.client t.client).begun) refl d.1 in (
        end_block w h t f.1,
        leave_ok p sound w h t f.1 f.2 d.0 over kept.1,
        record {
          order = sim.order;
          booked = sim.booked;
          entry = sim.entry;
          trace = sim.trace;
          stands = sim.stands;
          older = sim.older;
          queues = put_both (λ h (x : Handler) (l : Service). x.queues ≡ map (private s.client h l.wait) l.queue) s.handler w.service h _ _ f.4 (λ g other. sim.queues g);
          journal = put_both (λ h (l : Service) (x : Handler). l.journal ≡ x.held.journal) w.service s.handler h _ _ (sim.journal h) (λ g other. sim.journal g);
          state = put_both (λ h (l : Service) (x : Handler). l.state ≡ x.held.object) w.service s.handler h _ _ (sim.state h) (λ g other. sim.state g);
        },
      )
