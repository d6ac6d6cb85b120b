-- A run of threads is isolated. The blocks of its clients and the turns of its handlers make up an abstract run, whose
-- journals grow along the order of reservations; and by the one lemma on abstract runs such a run does what the serial
-- run does.
use Rattle.std.proofs.Common.{◌≡◌, ◌<◌, ◌≤◌, arith, ℕ, zero, suc, Bool, true, false, nat_lt, get_or, [], length, refl, sym, ap, ◌∙◌, subst, rules}
use Rattle.qs_played.proofs.Names.{get_or-map, get_or_past, length-map, get_or-map-range_with_len, length-range_with_len, AllByRecursion, range_with_len, HeldState, replay, without_tickets, IsHonest, part, HasEntry, Ticket, AllByRecursion-get_or, ProgramShape, blocks_of, text_of, IsSound, Locals, block_tree, declared_states, no_state, each_map, Among, Flow, Begins, IsBlockRecord, BlockRecord, requests_within, line, journal_of, state_of, ticket_at, fresh_held, room_of, Played, ticket}
use Rattle.qs_core_laws.proofs.Names.{ClientCode, AreCodes, Mode, ClientModel, all_left, cost, leads_within, no_block_beyond, order_fits, total_less, legal_among}
use Rattle.qs_played.specs.Isolation.{IsIsolated}
use Rattle.qs_played.proofs.AbstractRun.{IsRun, run_isolated}
use Rattle.qs_run_laws.specs.audit.ThreadRuns.{IsThreadRun, ThreadRun, counts_by, entry_by, shown_by, trace_by}
use Rattle.qs_run_laws.proofs.ClientTickets.{legal_counts}
use Rattle.qs_run_laws.proofs.JournalFlows.{JournalGrowth, IsOver, grows, size_of}
use Rattle.qs_run_laws.proofs.LanesMeet.{all_counted, got_for, sent_for, served_whole}
use Rattle.qs_run_laws.proofs.ThreadHistories.{block_begun, held_of, inside, mind_of, tale}

module _ (p : ProgramShape) (sound : IsSound p) (mode : Mode) (code : ℕ → ClientCode) (codes : AreCodes p mode code) (size : ℕ) (r : ThreadRun)
    (run : IsThreadRun p code size r) where
  abbrev pub shown : Played
  shown = shown_by p r

  -- of each ticket its block record, and of each object what its handler ended with
  abbrev pub block_record : Ticket → BlockRecord
  block_record t = (tale p sound mode code codes size r run t.client).block_record t.index

  abbrev pub end : ℕ → HeldState
  end h = held_of p sound mode code codes size r run h

  pub all_over : (h : ℕ) → AllByRecursion (IsOver p block_record h (sent_for p sound mode code codes size r run h) (got_for p sound mode code codes size r run h) (end h)) r.order
  all_over h =
      each_map (λ (t : Ticket) (few : t.index < blocks_of p t.client).
      let block = (tale p sound mode code codes size r run t.client).blocks t.index (block_begun p sound mode code codes size r run t few) in
      record { done = block.done; lane = block.lanes h; outside = block.outside h }) r.order (inside p sound mode code codes size r run)

  block_records : AllByRecursion (λ t. IsBlockRecord p t (block_record t)) r.order
  block_records =
      each_map (λ (t : Ticket) (few : t.index < blocks_of p t.client).
      ((tale p sound mode code codes size r run t.client).blocks t.index (block_begun p sound mode code codes size r run t few)).block_record.path)
      r.order (inside p sound mode code codes size r run)

  begins_same : (c k : ℕ) (l : Locals) → Begins (λ (t : Ticket). (tale p sound mode code codes size r run c).block_record t.index) c k l → Begins block_record c k l
  begins_same c zero l e = e
  begins_same c (suc k) l e = e

  begins : AllByRecursion (λ t. Begins block_record t.client t.index (block_record t).entry) r.order
  begins =
      each_map (λ (t : Ticket) (few : t.index < blocks_of p t.client).
      begins_same t.client t.index (block_record t).entry
      ((tale p sound mode code codes size r run t.client).begins t.index (block_begun p sound mode code codes size r run t few)))
      r.order (inside p sound mode code codes size r run)

  -- the room of a journal is never used up
  within_load : (h : ℕ) (t : Ticket) → IsBlockRecord p t (block_record t) → length (part h (block_record t).trace) ≤ cost p h t
  within_load h t path = leads_within h (block_tree p t (block_record t).entry) (block_record t).trace (block_record t).rest (cost p h t) path (requests_within (text_of p t).body (block_record t).entry h)

  parts_fit : (h : ℕ) → size_of p block_record h (sent_for p sound mode code codes size r run h) (got_for p sound mode code codes size r run h) (end h) r.order ≤ room_of p h
  parts_fit h =
      let short = total_less (λ t. length (part h (block_record t).trace)) (cost p h) r.order (each_map (within_load h) r.order block_records) in
      let whole = order_fits p h (λ _. 0) r.order run.legal in
      let room = all_left p h in
      omega (arith, short, whole, room)

  pub journal_of_object : (h : ℕ) → JournalGrowth p block_record h (sent_for p sound mode code codes size r run h) (got_for p sound mode code codes size r run h) (end h) (fresh_held p h) r.order
  journal_of_object h =
      grows p block_record h (sent_for p sound mode code codes size r run h) (got_for p sound mode code codes size r run h) (end h) r.order (fresh_held p h)
      (all_over h) (served_whole p sound mode code codes size r run h) (let fit = parts_fit h in omega (arith, fit))

  pub end_is : (h : ℕ) → h < length p.objects → r.held h ≡ end h
  end_is h own = let here : nat_lt h (length p.objects) ≡ true = grind (arith, own) in rw here refl

  pub mind_is : (c : ℕ) → c < length p.clients → r.mind c ≡ mind_of p sound mode code codes size r run c
  mind_is c own = let here : nat_lt c (length p.clients) ≡ true = grind (arith, own) in rw here refl

  pub ticket_inside : (i : ℕ) → i < length r.order → (ticket_at shown i).index < blocks_of p (ticket_at shown i).client
  ticket_inside i few =
      AllByRecursion-get_or (λ (t : Ticket). t.index < blocks_of p t.client) r.order i (ticket 0 0) (inside p sound mode code codes size r run) few

  -- what a client's rows say of a ticket
  pub entry_is : (t : Ticket) → t.index < blocks_of p t.client → entry_by r t ≡ (block_record t).entry
  entry_is t few =
      ap (λ (m : ClientModel). get_or m.entries t.index []) (mind_is t.client (no_block_beyond p t.client (omega (arith, few))))
      ∙ (tale p sound mode code codes size r run t.client).entries t.index (block_begun p sound mode code codes size r run t few)

  pub trace_is : (t : Ticket) → t.index < blocks_of p t.client → trace_by r t ≡ (block_record t).trace
  trace_is t few =
      ap (λ (m : ClientModel). get_or m.traces t.index []) (mind_is t.client (no_block_beyond p t.client (omega (arith, few))))
      ∙ (tale p sound mode code codes size r run t.client).traces t.index (block_begun p sound mode code codes size r run t few)

  journal_is : (h : ℕ) → h < length p.objects → journal_of shown h ≡ (end h).journal
  journal_is h own =
      get_or-map-range_with_len (λ h. (r.held h).journal) 0 (length p.objects) h h [] own (omega arith) ∙ ap (λ (o : HeldState). o.journal) (end_is h own)

  state_is : (h : ℕ) → h < length p.objects → state_of shown h ≡ (end h).object
  state_is h own =
      get_or-map-range_with_len (λ h. (r.held h).object) 0 (length p.objects) h h no_state own (omega arith) ∙ ap (λ (o : HeldState). o.object) (end_is h own)

  -- an object that the program doesn't have shows no journal
  no_journal : (h : ℕ) → length p.objects ≤ h → journal_of shown h ≡ []
  no_journal h out = search (rules, length-map, length-range_with_len, get_or_past)

  written : (h : ℕ) (t : Ticket) (b : Bool) → nat_lt h (length p.objects) ≡ b → HasEntry t (journal_of shown h) → journal_of shown h ≡ (end h).journal
  written h t true e has = journal_is h (grind (arith, e))
  written h t false e has = absurd (subst (HasEntry t) (no_journal h (grind (arith, e))) has)

  -- each block of the program is in the order
  pub every : (t : Ticket) → t.index < blocks_of p t.client → Among t r.order
  every t few =
      let own = no_block_beyond p t.client (omega (arith, few)) in
      let count = legal_counts p t.client (λ _. 0) r.order run.legal in
      let all = all_counted p sound mode code codes size r run t.client own in
      legal_among p (λ _. 0) r.order t.client t.index run.legal (omega arith) (omega (arith, few, count, all))

  pub flows : (h : ℕ) → Flow (line p sound block_record (λ h t. []) (λ h. (end h).object) (λ h. ⊥) (λ h. (end h).journal) h) (declared_states p h) (end h).journal r.order
  flows h =
      let g = journal_of_object h in
      subst (λ j. Flow (line p sound block_record (λ h t. []) (λ h. (end h).object) (λ h. ⊥) (λ h. (end h).journal) h) (declared_states p h) j r.order) (sym g.journal) g.flow

  pub abstract_run : IsRun p sound shown block_record (λ h t. []) (λ h. (end h).object) (λ h. ⊥) (λ h. (end h).journal)
  abstract_run = record {
    fits = record {
      ended = length-map r.order (λ (t : Ticket). true);
      entries = length-map r.order (entry_by r);
      traces = length-map r.order (trace_by r);
      sync_counts = length-map r.order (counts_by r);
      journals = length-map (range_with_len 0 (length p.objects)) (λ h. (r.held h).journal) ∙ length-range_with_len 0 (length p.objects);
      states = length-map (range_with_len 0 (length p.objects)) (λ h. (r.held h).object) ∙ length-range_with_len 0 (length p.objects);
    };
    legal = run.legal;
    block_records = block_records;
    begins = begins;
    flows = flows;
    honest = λ h own. let g = journal_of_object h in subst (λ j. IsHonest (declared_states p h) (without_tickets j)) (sym g.journal) g.honest;
    replayed = λ h own. let g = journal_of_object h in ap (λ j. replay (declared_states p h) (without_tickets j)) g.journal ∙ g.replayed;
    entry = λ i few. get_or-map (entry_by r) r.order i (ticket 0 0) [] few ∙ entry_is (ticket_at shown i) (ticket_inside i few);
    trace = λ i few. get_or-map (trace_by r) r.order i (ticket 0 0) [] few ∙ trace_is (ticket_at shown i) (ticket_inside i few);
    ended = λ i few e.
        let t = ticket_at shown i in
        ((tale p sound mode code codes size r run t.client).blocks t.index (block_begun p sound mode code codes size r run t (ticket_inside i few))).done;
    journals = journal_is;
    written = λ h t has. written h t (nat_lt h (length p.objects)) refl has;
    states = state_is;
    all = λ e. every;
    idle = λ e h own busy. busy;
  }

  pub isolated : IsIsolated p shown (λ h t. [])
  isolated = run_isolated p sound shown block_record (λ h t. []) (λ h. (end h).object) (λ h. ⊥) (λ h. (end h).journal) abstract_run
