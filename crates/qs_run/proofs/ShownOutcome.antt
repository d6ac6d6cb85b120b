-- What is shown of the workers' rows, journals and states is what the law of running threads shows of their run, so it
-- is an outcome (`IsOutcome`). And it can be shown: each block of the order has its row, and its counts are few enough
-- to be added up. The law speaks of functions of numbers and the code has lists, so the two are compared place by
-- place.
use Rattle.std.proofs.Common.{◌≡◌, ◌<◌, ◌≤◌, ℕ, zero, suc, true, List, [], ◌∷◌, length, map, get_or, slice_get, refl, sym, ap, ◌∙◌, subst, arith, rules}
use Rattle.qs_played.proofs.Names.{get_or-map, length-map, fill_by_all, range_with_len, sum_by, HeldState, Ticket, AllByRecursion-get_or, ProgramShape, blocks_of, IsSound, most_objects, no_state, object_of, syncs_of, few_reserved, ticket_at, fresh_held, ticket, ClientRows, HaveRows, counts_of_ticket, rows_at}
use Rattle.qs_core_laws.proofs.Names.{Mode, ClientModel, no_block_beyond, legal_blocks}
use Rattle.qs_played.specs.SyncSums.{AreSyncsCounted, counts_at}
use Rattle.qs_run.proofs.Names.{IsOutcome, HaveRun, ClientWorker, HandlerWorker, AreCountsShort, worker_journal, shown_when_over, worker_rows, worker_state}
use Rattle.qs_run_laws.specs.audit.ThreadRuns.{ThreadRun, counts_by, shown_by}
use Rattle.qs_run_laws.proofs.ClientRowsEnd.{HasRow, rows_there}
use Rattle.qs_run_laws.proofs.RunOutcomes.{runs_have_outcomes}
use Rattle.qs_run.proofs.ListPlaces.{from_places}
use Rattle.qs_run.proofs.CollectedRun.{IsCollected, clients_many, code, codes, handlers_many, held_in, mind_in, threads, threads_run}

abbrev pub mind_rows : ClientModel → ClientRows
mind_rows m = record { traces = m.traces; entries = m.entries; counts = m.counts }

module _ {D : Type 0} where
  rows_are : (cs : List (ClientWorker D)) (c : ℕ) → rows_at (map worker_rows cs) c ≡ mind_rows (mind_in (slice_get cs c))
  rows_are (w ∷ cs) (suc c) = rows_are cs c
  rows_are _ _ = refl

  held_at : {X : Type 0} (f : HeldState → X) (d : X) (x : HeldState) (hs : List (HandlerWorker D)) (h : ℕ) → h < length hs
      → get_or (map (λ (w : HandlerWorker D). f w.held) hs) h d ≡ f (held_in x (slice_get hs h))
  held_at f d x [] h lt = absurd (omega (arith, lt))
  held_at f d x (w ∷ hs) zero lt = refl
  held_at f d x (w ∷ hs) (suc h) lt = held_at f d x hs h (omega (arith, lt))

module _ {D : Type 0} (p : ProgramShape) (sound : IsSound p) (mode : Mode) (size : ℕ) (order : List Ticket) (handlers : List (HandlerWorker D))
    (clients : List (ClientWorker D)) (ran : HaveRun p mode size handlers clients) (joined : IsCollected p order handlers clients) where
  abbrev r : ThreadRun
  r = threads p sound mode size order handlers clients ran joined

  abbrev rows : List ClientRows
  rows = map worker_rows clients

  helds_are : {X : Type 0} (f : HeldState → X) (d : X)
      → map (λ (w : HandlerWorker D). f w.held) handlers ≡ map (λ h. f (r.held h)) (range_with_len 0 (length p.objects))
  helds_are f d =
      fill_by_all (λ h. f (r.held h)) (map (λ (w : HandlerWorker D). f w.held) handlers) (length p.objects) d
      (length-map handlers (λ (w : HandlerWorker D). f w.held) ∙ handlers_many p mode size handlers clients ran)
      (λ h own. held_at f d (fresh_held p h) handlers h (let many = handlers_many p mode size handlers clients ran in omega (arith, own, many)))

  shown_are : shown_when_over order rows (map worker_journal handlers) (map worker_state handlers) ≡ shown_by p r
  shown_are =
      let journals = helds_are (λ x. x.journal) [] in
      let states = helds_are (λ x. x.object) no_state in
      λ k. record {
        order = order;
        ended = map (λ t. true) order;
        entries = map (λ (t : Ticket). get_or (rows_are clients t.client k).entries t.index []) order;
        traces = map (λ (t : Ticket). get_or (rows_are clients t.client k).traces t.index []) order;
        sync_counts = map (λ (t : Ticket). get_or (rows_are clients t.client k).counts t.index []) order;
        journals = journals k;
        states = states k;
        syncs = sum_by syncs_of (map (λ (t : Ticket). get_or (rows_are clients t.client k).counts t.index []) order);
        finished = true;
      }

  law : IsOutcome p mode size (shown_by p r)
  law =
      runs_have_outcomes p sound mode (code p sound mode size order handlers clients ran joined) (codes p sound mode size order handlers clients ran joined) size r
      (threads_run p sound mode size order handlers clients ran joined)

  pub outcome : IsOutcome p mode size (shown_when_over order rows (map worker_journal handlers) (map worker_state handlers))
  outcome = subst (IsOutcome p mode size) (sym shown_are) law

  pub have_rows : HaveRows rows order
  have_rows i d few =
      let t = get_or order i d in
      let all = rows_there p sound mode (code p sound mode size order handlers clients ran joined) (codes p sound mode size order handlers clients ran joined) size r
      (threads_run p sound mode size order handlers clients ran joined) in
      let here = AllByRecursion-get_or (λ (t : Ticket). (t.client < length p.clients) × HasRow (r.mind t.client) t.index) order i d all few in
      let own = here.0 in
      let many = length-map clients worker_rows in
      let same = clients_many p mode size handlers clients ran in
      record {
        client = omega (arith, own, many, same);
        entry = subst (λ (w : ClientRows). t.index < length w.entries) (sym (rows_are clients t.client)) here.1.entry;
        trace = subst (λ (w : ClientRows). t.index < length w.traces) (sym (rows_are clients t.client)) here.1.trace;
        counts = subst (λ (w : ClientRows). t.index < length w.counts) (sym (rows_are clients t.client)) here.1.counts;
      }

  -- a block counts for the objects of its list alone, of which there are few
  pub short : AreCountsShort rows order
  unfolding AreSyncsCounted
  short = from_places (λ (t : Ticket). length (counts_of_ticket rows t) ≤ most_objects) (ticket 0 0) order (λ i few.
      let t = ticket_at (shown_by p r) i in
      let inside = AllByRecursion-get_or (λ (t : Ticket). t.index < blocks_of p t.client) order i (ticket 0 0) (legal_blocks p (λ _. 0) order joined.legal) few in
      let client = no_block_beyond p t.client (omega (arith, inside)) in
      let same : counts_of_ticket rows t ≡ counts_at (shown_by p r) i =
      ap (λ (w : ClientRows). get_or w.counts t.index []) (rows_are clients t.client) ∙ sym (get_or-map (counts_by r) order i (ticket 0 0) [] few) in
      let listed = ap length ((law.counted.each i few).listed) in
      let objects = length-map (counts_at (shown_by p r) i) object_of in
      let here = ap length same in
      let least = few_reserved p t.client t.index sound client inside in
      omega (arith, listed, objects, here, least))
