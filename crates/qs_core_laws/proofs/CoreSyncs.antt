-- What the optimised machine shows of the Syncs of each block is the exact count of its mode for the block's trace, or
-- one more at one object while the block is open, and their sum is what it shows as its syncs. The law
-- `core_syncs_are_counted` is this. The count was kept step by step; here it is read off, by cases on where the client
-- stands in its block.
use Rattle.std.proofs.Common.{◌≡◌, ◌<◌, ◌≤◌, ℕ, suc, nat_lt, Bool, true, false, List, [], ◌∷◌, length, map, refl, sym, ap, ap₂, ◌∙◌, subst, inl, inr, arith, rules}
use Rattle.qs_played.proofs.Names.{sum_by, AllByRecursion, get_or-map, sum_by-cons, Ticket, AllByRecursion-get_or, Leads, block_tree, ProgramShape, blocks_of, IsSound, syncs_along, object_of, syncs_of, syncs_for, ended_of, ticket_at, trace_of, entry_of, ticket, Played}
use Rattle.qs_core_laws.proofs.Names.{Mode, ClientCode, AreCodes, reserved_of, Client, ClientStage, runs, full, awaits, is_between, has_ended, synced_block, listed_inside, legal_blocks, sum_inside, sum_of, total_of, sent_of, total_for, Core, core_begin, settings_of, core_played, core_plays}
use Rattle.qs_played.specs.SyncSums.{AreSent, AreSyncsCounted, IsCounted, counts_at, syncs_at}
use Rattle.qs_core_laws.proofs.protocol.ClientCounts.{CountAt, even_now}
use Rattle.qs_core_laws.proofs.protocol.ClientInvariants.{holding}
use Rattle.qs_core_laws.proofs.protocol.ObjectViews.{HandlerLog}
use Rattle.qs_core_laws.specs.CoreSyncSums.{CoreSyncsAreCounted}
use Rattle.qs_core_laws.proofs.protocol.CountedTraces.{sent_as, trace_counted, tree_count}
use Rattle.qs_core_laws.proofs.CoreCounting.{CountedBy, HaveCounts, run_counted}
use Rattle.qs_core_laws.proofs.CoreInvariant.{LaneHistory, CoreInvariant, TicketOk}

module _ (program : ProgramShape) (sound : IsSound program) (mode : Mode) (code : ℕ → ClientCode) (codes : AreCodes program mode code) (size : ℕ)
    (s : Core) (y : LaneHistory) (g : ℕ → HandlerLog) (kept : CoreInvariant program s y g) (n : Ticket → ℕ → ℕ)
    (counted : CountedBy program sound mode code codes size s n)
    (has_counts : HaveCounts program sound mode code codes size n s.sync_counts) where
  -- what a block's tree says of a trace so far
  abbrev by_tree : Ticket → ℕ → ℕ
  by_tree t h = syncs_along (code t.client).dynamic h false (synced_block code t (s.entry t)) (s.trace t)

  -- the block that a client is in, or was in last
  newest_sent : (t : Ticket) → (s.client t.client).begun ≡ suc t.index → AreSent (has_ended (s.client t.client) t.index) (n t) (by_tree t)
  newest_sent t b = by_place (s.client t.client).stage refl (counted.newest t.client t.index b)
    where
      m : Client
      m = s.client t.client

      open_yet : (pl : ClientStage) → m.stage ≡ pl → is_between pl ≡ false → has_ended m t.index ≡ false
      open_yet pl at inside = search (rules, m)

      by_place : (pl : ClientStage) → m.stage ≡ pl → CountAt (settings_of code size t.client) t (reserved_of code t) (synced_block code t (s.entry t))
          (s.trace t) (n t) m pl
          → AreSent (has_ended m t.index) (n t) (by_tree t)
      by_place (runs tree) at k = inl (even_now (settings_of code size t.client) t (reserved_of code t) (synced_block code t (s.entry t)) (s.trace t)
          (n t) (holding m) tree k.0)
      by_place (full h tree) at k = inl (even_now (settings_of code size t.client) t (reserved_of code t) (synced_block code t (s.entry t)) (s.trace t)
          (n t) (holding m) tree k.0)
      by_place (awaits h tree) at k = inr (open_yet (awaits h tree) at refl, h, k.now)
      by_place _ at k = inl k

  ticket_sent : (t : Ticket) → suc t.index ≤ (s.client t.client).begun → AreSent (has_ended (s.client t.client) t.index) (n t) (by_tree t)
  ticket_sent t low = by_test (nat_lt (suc t.index) (s.client t.client).begun) refl
    where
      by_test : (x : Bool) → nat_lt (suc t.index) (s.client t.client).begun ≡ x → AreSent (has_ended (s.client t.client) t.index) (n t) (by_tree t)
      by_test true e = inl (counted.older t.client t.index (grind (arith, e)))
      by_test false e = newest_sent t (let last : (s.client t.client).begun ≤ suc t.index = grind (arith, e) in omega (arith, last, low))

  abbrev r : Played
  r = core_played program s

  module _ (i : ℕ) (inside : i < length s.order) where
    abbrev t : Ticket
    t = ticket_at r i

    ok : TicketOk program y t
    ok = AllByRecursion-get_or (TicketOk program y) s.order i (ticket 0 0) kept.tickets_ok inside

    below : suc t.index ≤ (s.client t.client).begun
    below = AllByRecursion-get_or (λ (t : Ticket). suc t.index ≤ (s.client t.client).begun) s.order i (ticket 0 0) kept.below inside

    own_block : t.index < blocks_of program t.client
    own_block = search (rules, AllByRecursion-get_or, legal_blocks, kept)

    ended_is : ended_of r i ≡ has_ended (s.client t.client) t.index
    ended_is = get_or-map (λ (t : Ticket). has_ended (s.client t.client) t.index) s.order i (ticket 0 0) false inside

    entry_is : entry_of r i ≡ s.entry t
    entry_is = get_or-map s.entry s.order i (ticket 0 0) [] inside

    trace_is : trace_of r i ≡ s.trace t
    trace_is = get_or-map s.trace s.order i (ticket 0 0) [] inside

    counts_are : counts_at r i ≡ s.sync_counts t
    counts_are = get_or-map s.sync_counts s.order i (ticket 0 0) [] inside

    -- what is shown of the Syncs that were sent are these numbers
    numbers : (h : ℕ) → syncs_at r i h ≡ n t h
    numbers h = ap (λ xs. syncs_for xs h) counts_are ∙ (has_counts t).numbers h

    leads : Leads (block_tree program t (entry_of r i)) (trace_of r i) (y.block_record t).rest
    leads = subst (λ l. Leads (block_tree program t l) (trace_of r i) (y.block_record t).rest) (kept.entry t ∙ sym entry_is)
        (subst (λ es. Leads (block_tree program t (y.block_record t).entry) es (y.block_record t).rest) (kept.trace t ∙ sym trace_is) ok.block_record.path)

    tree_is : (h : ℕ) → by_tree t h ≡ tree_count program sound mode code codes r i h
    tree_is h = sym (ap₂ (λ l es. syncs_along (code t.client).dynamic h false (synced_block code t l) es) entry_is trace_is)

    counts_sent : AreSent (ended_of r i) (syncs_at r i) (tree_count program sound mode code codes r i)
    counts_sent = search (rules, sent_of, r, numbers, sent_as, by_tree, tree_is, ended_is, ticket_sent, below)

    keeps_counted : IsCounted program mode r i
    keeps_counted =
        trace_counted program sound mode code codes r i own_block (y.block_record t).rest leads counts_sent (ap (map object_of) counts_are ∙ (has_counts t).objects)

  -- all counts together
  all_syncs : (ts : List Ticket) → sum_by syncs_of (map s.sync_counts ts) ≡ total_of program n ts
  all_syncs [] = refl
  all_syncs (t ∷ ts) =
      let first = sum_by-cons syncs_of (s.sync_counts t) (map s.sync_counts ts) in
      let total = sum_by-cons (λ t. sum_of program (n t)) t ts in
      let here = total_for (length program.objects) (s.sync_counts t)
      (subst (AllByRecursion (λ h. h < length program.objects)) (sym (has_counts t).objects) (listed_inside program sound t)) in
      let same = sum_inside (syncs_for (s.sync_counts t)) (n t) 0 (length program.objects) (λ h low high. (has_counts t).numbers h) in
      let rest = all_syncs ts in
      omega (arith, first, total, here, same, rest)

pub core_syncs_counted : CoreSyncsAreCounted
unfolding AreSyncsCounted
core_syncs_counted program sound mode code codes size actors =
    let s = core_plays code size actors (core_begin program) in
    let k = run_counted program sound mode code codes size actors in
    let n = k.1.0 in
    let c = k.1.1 in
    let has_counts = k.1.2 in
    record {
      all = sym c.total ∙ sym (all_syncs program sound mode code codes size s k.0.0 k.0.1 k.0.2 n c has_counts s.order);
      each = keeps_counted program sound mode code codes size s k.0.0 k.0.1 k.0.2 n c has_counts;
    }
