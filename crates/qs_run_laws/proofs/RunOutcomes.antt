-- The law of running threads: what is shown of a run of threads is an outcome. The run is an abstract run, so the
-- serial run of its order has the same blocks, one place for each ticket; from that follow entries, traces, journals
-- and states. The synchronisations of a block follow from its trace, by the lemma that the optimised machine uses too.
use Rattle.std.proofs.Common.{◌≡◌, ◌<◌, ◌≤◌, ◌+◌, arith, ℕ, zero, suc, false, List, [], ◌∷◌, ◌++◌, map, flat_map, length, refl, sym, ap, ap₂, ◌∙◌, subst, inl, rules}
use Rattle.qs_played.proofs.Names.{get_or-map, AllByRecursion, AllZip, range_with_len, HeldState, part, stamp, Entry, Ticket, ProgramShape, blocks_of, IsSound, Leads, block_tree, SerialBlock, serial, Agrees, legal_apart, runs_serially, syncs_along, object_of, syncs_for, ended_of, ticket_at, trace_of, entry_of, ticket}
use Rattle.qs_core_laws.proofs.Names.{ClientCode, AreCodes, Mode, synced_block, no_block_beyond, among_once}
use Rattle.qs_played.specs.SyncSums.{AreSent, AreSyncsCounted, IsCounted, counts_at, syncs_at}
use Rattle.qs_core_laws.proofs.protocol.ClientInvariants.{objects_of_block}
use Rattle.qs_core_laws.proofs.protocol.HistoryCounts.{IsTallied}
use Rattle.qs_core_laws.proofs.protocol.CountedTraces.{trace_counted, tree_count}
use Rattle.qs_run_laws.specs.Outcomes.{IsOutcome, ThreadRunsHaveOutcomes, part_at}
use Rattle.qs_run_laws.specs.audit.ThreadRuns.{IsThreadRun, ThreadRun, counts_by, entry_by, shown_by, trace_by}
use Rattle.qs_run_laws.proofs.ThreadHistories.{block_begun, inside, tale, tale_counts}
use Rattle.qs_run_laws.proofs.ThreadsIsolated.{abstract_run, end, end_is, entry_is, every, isolated, mind_is, journal_of_object, block_record, shown, ticket_inside, trace_is}

-- the same for each number of a range
same_range : {A : Type 0} (f g : ℕ → A) (a n : ℕ) → ((i : ℕ) → a ≤ i → i < a + n → f i ≡ g i) → map f (range_with_len a n) ≡ map g (range_with_len a n)
same_range f g a zero each = refl
same_range f g a (suc n) each =
    ap₂ (λ x xs. x ∷ xs) (each a (omega arith) (omega arith))
    (same_range f g (a + 1) n (λ i low high. each i (omega (arith, low)) (omega (arith, high))))

-- what holds of all tickets, and of each with its place
zip_both : {X Y : Type 0} {P : X → Type 0} {R S : X → Y → Type 0} → ((x : X) (y : Y) → P x → R x y → S x y) → (xs : List X) (ys : List Y)
    → AllByRecursion P xs → AllZip R xs ys → AllZip S xs ys
zip_both f [] [] all zip = tt
zip_both f (x ∷ xs) (y ∷ ys) all zip = (f x y all.0 zip.0, zip_both f xs ys all.1 zip.1)
zip_both f _ _ all zip = absurd zip

zip_map : {X Y Z : Type 0} (f : X → Z) (g : Y → Z) (xs : List X) (ys : List Y) → AllZip (λ x y. f x ≡ g y) xs ys → map f xs ≡ map g ys
zip_map f g [] [] zip = refl
zip_map f g (x ∷ xs) (y ∷ ys) zip = ap₂ (λ z zs. z ∷ zs) zip.0 (zip_map f g xs ys zip.1)
zip_map f g _ _ zip = absurd zip

zip_flat : {X Y Z : Type 0} (f : X → List Z) (g : Y → List Z) (xs : List X) (ys : List Y) → AllZip (λ x y. f x ≡ g y) xs ys → flat_map f xs ≡ flat_map g ys
zip_flat f g [] [] zip = refl
zip_flat f g (x ∷ xs) (y ∷ ys) zip = ap₂ (λ z zs. z ++ zs) zip.0 (zip_flat f g xs ys zip.1)
zip_flat f g _ _ zip = absurd zip

module _ (p : ProgramShape) (sound : IsSound p) (mode : Mode) (code : ℕ → ClientCode) (codes : AreCodes p mode code) (size : ℕ) (r : ThreadRun)
    (run : IsThreadRun p code size r) where
  -- each ticket's block record is its place of the serial run
  record IsAt (t : Ticket) (q : SerialBlock) : Type 0 where
    pub ticket : q.ticket ≡ t
    pub entry : entry_by r t ≡ q.entry
    pub trace : trace_by r t ≡ q.trace
    pub block_record : (block_record p sound mode code codes size r run t).trace ≡ q.trace

  serially : AllZip (Agrees p (λ h. (end p sound mode code codes size r run h).journal) (block_record p sound mode code codes size r run)) r.order (serial p r.order).places
      × ((h : ℕ) → (⊥ → ⊥) → (serial p r.order).states h ≡ (end p sound mode code codes size r run h).object)
  serially =
      let a = abstract_run p sound mode code codes size r run in
      runs_serially p sound (block_record p sound mode code codes size r run) (λ h t. []) (λ h. (end p sound mode code codes size r run h).object) (λ h. ⊥)
      (λ h. (end p sound mode code codes size r run h).journal) r.order a.legal a.block_records a.begins a.flows

  places : AllZip IsAt r.order (serial p r.order).places
  places = zip_both (λ (t : Ticket) (q : SerialBlock) (few : t.index < blocks_of p t.client) (a : Agrees p (λ h. (end p sound mode code codes size r run h).journal) (block_record p sound mode code codes size r run) t q).
      let done = ((tale p sound mode code codes size r run t.client).blocks t.index (block_begun p sound mode code codes size r run t few)).done in
      record {
        ticket = a.ticket;
        entry = entry_is p sound mode code codes size r run t few ∙ a.entry;
        trace = trace_is p sound mode code codes size r run t few ∙ a.whole done;
        block_record = a.whole done;
      }) r.order (serial p r.order).places (inside p sound mode code codes size r run) serially.0

  always : AllByRecursion (λ (t : Ticket). Unit {0}) r.order
  always = all r.order
    where
      all : (ts : List Ticket) → AllByRecursion (λ (t : Ticket). Unit {0}) ts
      all [] = tt
      all (t ∷ ts) = (tt, all ts)

  entries : map (entry_by r) r.order ≡ map (λ (q : SerialBlock). q.entry) (serial p r.order).places
  entries = zip_map (entry_by r) (λ (q : SerialBlock). q.entry) r.order (serial p r.order).places
      (zip_both (λ (t : Ticket) (q : SerialBlock) (k : Unit {0}) (is : IsAt t q). is.entry) r.order (serial p r.order).places always places)

  traces : map (trace_by r) r.order ≡ map (λ (q : SerialBlock). q.trace) (serial p r.order).places
  traces = zip_map (trace_by r) (λ (q : SerialBlock). q.trace) r.order (serial p r.order).places
      (zip_both (λ (t : Ticket) (q : SerialBlock) (k : Unit {0}) (is : IsAt t q). is.trace) r.order (serial p r.order).places always places)

  -- what a ticket enters into an object's journal
  abbrev entries_of_ticket : ℕ → Ticket → List Entry
  entries_of_ticket h t = map (stamp t) (part h (block_record p sound mode code codes size r run t).trace)

  journals : (h : ℕ) → h < length p.objects → (r.held h).journal ≡ flat_map (part_at h) (serial p r.order).places
  journals h own =
      let g = journal_of_object p sound mode code codes size r run h in
      ap (λ (o : HeldState). o.journal) (end_is p sound mode code codes size r run h own)
      ∙ (g.journal ∙ (g.by_tickets
      ∙ zip_flat (entries_of_ticket h) (part_at h) r.order (serial p r.order).places
      (zip_both (λ (t : Ticket) (q : SerialBlock) (k : Unit {0}) (is : IsAt t q). ap₂ (λ (u : Ticket) es. map (stamp u) (part h es)) (sym is.ticket) is.block_record)
      r.order (serial p r.order).places always places)))

  states : (h : ℕ) → h < length p.objects → (r.held h).object ≡ (serial p r.order).states h
  states h own = ap (λ (o : HeldState). o.object) (end_is p sound mode code codes size r run h own) ∙ sym (serially.1 h (λ none. none))

  -- the i-th reservation's synchronisations
  module _ (i : ℕ) (few : i < length r.order) where
    abbrev t : Ticket
    t = ticket_at (shown p sound mode code codes size r run) i

    own : t.index < blocks_of p t.client
    own = ticket_inside p sound mode code codes size r run i few

    entry_at : entry_of (shown p sound mode code codes size r run) i ≡ (block_record p sound mode code codes size r run t).entry
    entry_at = get_or-map (entry_by r) r.order i (ticket 0 0) [] few ∙ entry_is p sound mode code codes size r run t own

    trace_at : trace_of (shown p sound mode code codes size r run) i ≡ (block_record p sound mode code codes size r run t).trace
    trace_at = get_or-map (trace_by r) r.order i (ticket 0 0) [] few ∙ trace_is p sound mode code codes size r run t own

    counts_are : counts_at (shown p sound mode code codes size r run) i ≡ counts_by r t
    counts_are = get_or-map (counts_by r) r.order i (ticket 0 0) [] few

    tallied : IsTallied (objects_of_block p t) (counts_by r t) ((tale_counts p sound mode code codes size r run t.client).syncs t.index)
    tallied = search (rules, no_block_beyond, own, objects_of_block, tale_counts, mind_is, block_begun)

    leads : Leads (block_tree p t (entry_of (shown p sound mode code codes size r run) i)) (trace_of (shown p sound mode code codes size r run) i) (block_record p sound mode code codes size r run t).rest
    leads =
        let path = ((tale p sound mode code codes size r run t.client).blocks t.index (block_begun p sound mode code codes size r run t own)).block_record.path in
        subst (λ l. Leads (block_tree p t l) (trace_of (shown p sound mode code codes size r run) i) (block_record p sound mode code codes size r run t).rest) (sym entry_at)
        (subst (λ es. Leads (block_tree p t (block_record p sound mode code codes size r run t).entry) es (block_record p sound mode code codes size r run t).rest) (sym trace_at) path)

    sent : AreSent (ended_of (shown p sound mode code codes size r run) i) (syncs_at (shown p sound mode code codes size r run) i)
        (tree_count p sound mode code codes (shown p sound mode code codes size r run) i)
    sent = inl (λ h.
        ap (λ xs. syncs_for xs h) counts_are
        ∙ (tallied.numbers h
        ∙ ((tale_counts p sound mode code codes size r run t.client).counted t.index (block_begun p sound mode code codes size r run t own) h
        ∙ sym (ap₂ (λ l es. syncs_along (code t.client).dynamic h false (synced_block code t l) es) entry_at trace_at))))

    reservation_counted : IsCounted p mode (shown p sound mode code codes size r run) i
    reservation_counted =
        trace_counted p sound mode code codes (shown p sound mode code codes size r run) i own (block_record p sound mode code codes size r run t).rest leads sent
        (ap (map object_of) counts_are ∙ tallied.objects_are)

  counted : AreSyncsCounted p mode (shown p sound mode code codes size r run)
  unfolding AreSyncsCounted
  counted = record { all = refl; each = reservation_counted }

  pub has_outcome : IsOutcome p mode size (shown_by p r)
  has_outcome = record {
    by_threads = (code, r, codes, run, refl);
    legal = run.legal;
    once = λ t few. among_once t r.order (legal_apart p (λ _. 0) r.order run.legal) (every p sound mode code codes size r run t few);
    entries = entries;
    traces = traces;
    journals = same_range _ _ 0 _ (λ h low high. journals h (omega (arith, high)));
    states = same_range _ _ 0 _ (λ h low high. states h (omega (arith, high)));
    ended = refl;
    finished = refl;
    isolated = isolated p sound mode code codes size r run;
    counted = counted;
  }

pub runs_have_outcomes : ThreadRunsHaveOutcomes
runs_have_outcomes p sound mode code codes size r run = has_outcome p sound mode code codes size r run
