-- How many Syncs a client's whole run sent for each object, block by block: as many as its block's tree and trace say,
-- and as its rows count.
use Rattle.std.proofs.Common.{◌≡◌, ◌<◌, ◌≤◌, arith, ℕ, suc, ◌+◌, Bool, true, false, ◌==◌, is_some, List, [], ◌∷◌, ◌++◌, length, map, slice_index_or, slice_set, refl, sym, ap, ◌∙◌, subst, true≢false, ⊎_elim, length-set, rules}
use Rattle.std.specs.List.{AllByRecursion, IsDistinct}
use Rattle.qs_played.proofs.Names.{get_or-map, length-map, HeldState, Event, Ticket, apart_eqb, eqb_apart, eqb_self, num_cases, ProgramShape, is_in, Locals, reserves, AsksOnly, block_tree, put, put_here, put_there, syncs_along, fresh_rows, no_syncs, object_of, with_sync, syncs_for, SyncCount, IsAsking, ticket}
use Rattle.qs_core_laws.proofs.Names.{without_syncs, BlockCode, ClientCode, code_at, no_code, IsSoundSynced, IsOnReserved, Parcel, Client, ClientStage, Settings, Settlement, act_of, between, begin, after_parcel, take_chunk, count_sync, outgoing_of, Deed, DeedsLead, RunsTo, next_ticket, ClientModel, act_due, mind_after_begin, mind_after_chunk, finish, enters, fresh_mind, mind_after_object, hands_out, is_between, lists_of_code, tally, tree_at, put_both, none_for, objects_none, objects_stay, sent_for, ClientHistory}
use Rattle.qs_chunk.specs.declared.parcel.Parcel.TheVariants as parcels
use Rattle.qs_client.specs.audit.rules.Client as clients
use Rattle.qs_client.specs.declared.rules.act.Act.TheVariants as acts
use Rattle.qs_client.specs.declared.rules.outgoing.Outgoing.TheVariants as outgoings
use Rattle.qs_client.specs.audit.ClientRuns as deeds
use Rattle.qs_core_laws.proofs.protocol.ActObjects.{chunk_begun, got_begun, not_await, not_need, not_send, send_at, sent_begun, settle_begun}
use Rattle.qs_core_laws.proofs.protocol.BlockLists.{after_not, before_not, row_push, row_set}
use Rattle.qs_core_laws.proofs.protocol.BlockHistories.{rests}
use Rattle.qs_core_laws.proofs.protocol.ClientCounts.{CountAt, Counts, Even, Over, chunk_counts, got_counts, send_counts, settle_counts}
use Rattle.qs_core_laws.proofs.protocol.ClientInvariants.{Lined, objects_of_block}
use Rattle.qs_core_laws.proofs.protocol.ClientHistories.{InClientHistory, asks, entry_rows, fresh_tale, getting, in_tale_block, inside, own, own_is, reserves_between}
use Rattle.qs_core_laws.proofs.protocol.ClientHistories.{reserving, sending, taking, trace_rows}
use Rattle.qs_core_laws.proofs.protocol.MindSteps.{came, chunk_does, deeds_keep, done_still, get_does, reserve_does, send_does}

-- the counts of a mind, by block
abbrev pub count_rows : ClientModel → ℕ → List SyncCount
count_rows m k = slice_index_or m.counts k []

-- the counts of a block's row are those of the objects of its list, in order, and say these numbers
pub record IsTallied (objects : List ℕ) (row : List SyncCount) (syncs : ℕ → ℕ) : Type 0 where
  pub objects_are : map object_of row ≡ objects
  pub numbers : (h : ℕ) → syncs_for row h ≡ syncs h

-- how many Syncs each block of a whole run sent, for each object: as many as its trace says, and as its row counts
pub record HistoryCounts (program : ProgramShape) (c : ℕ) (code : ClientCode) (size : ℕ) (deeds : List Deed) (end : ClientModel) (tale : ClientHistory program c code deeds end)
    : Type 0 where
  pub syncs : ℕ → ℕ → ℕ
  pub counted : (k : ℕ) → k < length code.blocks
      → Over (record { dynamic = code.dynamic; size = size }) (ticket c k) (objects_of_block program (ticket c k)) (tree_at code k (tale.block_record k).entry)
      (tale.block_record k).trace (syncs k)
  pub tallied : (k : ℕ) → k < length code.blocks → IsTallied (objects_of_block program (ticket c k)) (slice_index_or end.counts k []) (syncs k)

-- an object that is not in a list differs from each of it
each_apart : (h : ℕ) (gs : List ℕ) → is_in gs h ≡ false → AllByRecursion (λ g. (h == g) ≡ false) gs
each_apart h [] e = tt
each_apart h (g ∷ gs) e = ⊎_elim
    (λ (is : g ≡ h). absurd (let yes : is_in (g ∷ gs) h ≡ true = rw is (rw (eqb_self h) refl) in true≢false (sym yes ∙ e)))
    (λ (other : (g == h) ≡ false). (eqb_apart h g (λ is. apart_eqb g h other (sym is)), each_apart h gs (rw other at e)))
    (num_cases g h)

-- objects that stand in a line are different
pub lined_distinct : (may : ℕ → Bool) (hs : List ℕ) → Lined may hs → IsDistinct ◌==◌ hs
unfolding IsDistinct
lined_distinct may [] k = tt
lined_distinct may (h ∷ hs) k = (each_apart h hs k.0, lined_distinct may hs k.2)

module _ (program : ProgramShape) (fine : (t : Ticket) (l : Locals) → AsksOnly (reserves program t) (block_tree program t l))
    (lined : (t : Ticket) → Lined (reserves program t) (objects_of_block program t)) (c : ℕ) (code : ClientCode) (size : ℕ)
    (reserved_is : (k : ℕ) → k < length code.blocks → (code_at code k).reserved ≡ objects_of_block program (ticket c k))
    (walk_is : (k : ℕ) (l : Locals) → k < length code.blocks
    → (without_syncs (tree_at code k l) ≡ block_tree program (ticket c k) l) × IsSoundSynced (λ h. false) (tree_at code k l)
    × IsOnReserved (objects_of_block program (ticket c k)) (tree_at code k l))
    (asking : (k : ℕ) (l : Locals) → k < length code.blocks → IsAsking (tree_at code k l)) where
  abbrev Known : List Deed → ClientModel → Type 0
  Known before m = InClientHistory program fine lined c code size reserved_is walk_is before m

  abbrev set_by : Settings
  set_by = record { dynamic = code.dynamic; size = size }

  -- what a client has sent in block k, which began with these variables, by its trace
  abbrev pub At : ℕ → Locals → List Event → (ℕ → ℕ) → Client → Type 0
  At k l es n m = CountAt set_by (ticket c k) (objects_of_block program (ticket c k)) (tree_at code k l) es n m m.stage

  -- and in a block that is over
  abbrev pub Past : ℕ → Locals → List Event → (ℕ → ℕ) → Type 0
  Past k l es n = Over set_by (ticket c k) (objects_of_block program (ticket c k)) (tree_at code k l) es n

  -- how many Syncs each block sent for each object, in the midst of a run
  pub record InCounts (m : ClientModel) : Type 0 where
    pub syncs : ℕ → ℕ → ℕ
    pub newest : (k : ℕ) → m.client.begun ≡ suc k → At k (entry_rows m k) (trace_rows m k) (syncs k) m.client
    pub older : (k : ℕ) → suc k < m.client.begun → Past k (entry_rows m k) (trace_rows m k) (syncs k)
    pub fresh : (k : ℕ) → m.client.begun ≤ k → (h : ℕ) → syncs k h ≡ 0
    pub row_count : length m.counts ≡ length code.blocks
    pub rows : (k : ℕ) → k < length code.blocks → IsTallied (objects_of_block program (ticket c k)) (count_rows m k) (syncs k)

  module _ (before : List Deed) (m : ClientModel) (o : Known before m) (w : InCounts m) where
    -- it came to this in the block that it is in
    comes : (k : ℕ) → m.client.begun ≡ suc k → (r : Settlement) → r.client.begun ≡ m.client.begun → (n : ℕ → ℕ) (total : ℕ) (counts : List (List SyncCount))
        → Counts set_by (ticket c k) (objects_of_block program (ticket c k)) (tree_at code k (entry_rows m k)) (trace_rows m k) n r
        → length counts ≡ length code.blocks
        → ((j : ℕ) → j < length code.blocks → IsTallied (objects_of_block program (ticket c j)) (slice_index_or counts j []) (put w.syncs k n j))
        → InCounts (came (own program fine lined c code size reserved_is walk_is m (ticket c k)) r total counts)
    comes k e r still n total counts now long rows =
        let row : List Event = trace_rows m k ++ r.events in
        let trace_is = row_set m.traces k row (let long = o.trace_count in let within = o.telling.within in omega (arith, e, long, within)) in
        record {
          syncs = put w.syncs k n;
          newest = grind (arith, w, put_here);
          older = grind (arith, after_not, w, put_there);
          fresh = λ j low h.
              ap (λ (f : ℕ → ℕ). f h) (put_there w.syncs k n j (before_not k j (omega (arith, e, still, low)))) ∙ w.fresh j (omega (arith, still, low)) h;
          row_count = long;
          rows = rows;
        }

    -- where no Sync was sent
    comes_alike : (k : ℕ) → m.client.begun ≡ suc k → (r : Settlement) → r.client.begun ≡ m.client.begun → (total : ℕ)
        → Counts set_by (ticket c k) (objects_of_block program (ticket c k)) (tree_at code k (entry_rows m k)) (trace_rows m k) (w.syncs k) r
        → InCounts (came (own program fine lined c code size reserved_is walk_is m (ticket c k)) r total m.counts)
    comes_alike k e r still total now = search (rules, comes, objects_of_block, put_here, put_there, num_cases)

    -- where a Sync was sent for h
    comes_synced : (k : ℕ) → m.client.begun ≡ suc k → (h : ℕ) → reserves program (ticket c k) h ≡ true → (r : Settlement) → r.client.begun ≡ m.client.begun
        → (total : ℕ)
        → Counts set_by (ticket c k) (objects_of_block program (ticket c k)) (tree_at code k (entry_rows m k)) (trace_rows m k) (put (w.syncs k) h (suc (w.syncs k h))) r
        → InCounts (came (own program fine lined c code size reserved_is walk_is m (ticket c k)) r total (tally (outgoings.Sync h) k m.counts))
    comes_synced k e h mine r still total now =
        let more = put (w.syncs k) h (suc (w.syncs k h)) in
        let row = with_sync h (count_rows m k) in
        let k_in : k < length code.blocks = (let within = o.telling.within in omega (arith, e, within)) in
        comes k e r still more total (slice_set m.counts k row) now (length-set m.counts k row ∙ w.row_count) (λ j lt.
        subst (λ xs. IsTallied (objects_of_block program (ticket c j)) xs (put w.syncs k more j))
        (row_set m.counts k row (let long = w.row_count in omega (arith, k_in, long)) j)
        (put_both (λ j xs (f : ℕ → ℕ). j < length code.blocks → IsTallied (objects_of_block program (ticket c j)) xs f) (count_rows m) w.syncs k row more
        (λ lt. more_tallied (objects_of_block program (ticket c k)) (count_rows m k) (w.syncs k) (lined_distinct (reserves program (ticket c k))
        (objects_of_block program (ticket c k)) (lined (ticket c k))) h mine (w.rows k lt))
        (λ j other lt. w.rows j lt) j lt))
      where
        more_tallied : (hs : List ℕ) (xs : List SyncCount) (n : ℕ → ℕ) → IsDistinct ◌==◌ hs → (h : ℕ) → is_in hs h ≡ true → IsTallied hs xs n
            → IsTallied hs (with_sync h xs) (put n h (suc (n h)))
        more_tallied hs xs n distinct h mine old = search (rules, objects_stay, sent_for)

    -- between blocks all that were begun are over
    all_past : (l : Locals) → m.client.stage ≡ between l → (j : ℕ) → j < m.client.begun → Past j (entry_rows m j) (trace_rows m j) (w.syncs j)
    all_past l at j lt = ⊎_elim
        (λ (is : m.client.begun ≡ suc j).
        let t = ticket c j in
        subst (CountAt set_by t (objects_of_block program t) (tree_at code j (entry_rows m j)) (trace_rows m j) (w.syncs j) m.client) at (w.newest j is))
        (λ (other : (m.client.begun == suc j) ≡ false). let apart = apart_eqb m.client.begun (suc j) other in w.older j (omega (arith, lt, apart)))
        (num_cases m.client.begun (suc j))

    asks_own : act_due m ≡ act_of set_by (length code.blocks) m.client
    asks_own = asks program fine lined c code size reserved_is walk_is before m o

    inside_own : (k : ℕ) → m.client.begun ≡ suc k → k < length code.blocks
    inside_own k e = inside program fine lined c code size reserved_is walk_is before m o k e

    send_counted : (h : ℕ) (p : Parcel) → act_due m ≡ acts.Send h p → InCounts (finish (hands_out m (acts.Send h p)))
    send_counted h p asked =
        let act : act_of set_by (length code.blocks) m.client ≡ acts.Send h p = sym asks_own ∙ asked in
        let at = in_tale_block program fine lined c code size reserved_is walk_is before m o
        (λ l e. not_send set_by (length code.blocks) m.client l h p e act) in
        let k = at.0 in
        let t = ticket c k in
        let total = m.syncs + count_sync (outgoing_of (acts.Send h p)) in
        subst (λ (m : ClientModel). InCounts (finish (hands_out m (acts.Send h p))))
        (sym (own_is program fine lined c code size reserved_is walk_is m t o.code_is o.size_is (o.ticket_is k at.1)))
        (subst InCounts (sym (send_does (own program fine lined c code size reserved_is walk_is m t) h p act))
        (subst (λ names. InCounts (came (own program fine lined c code size reserved_is walk_is m t) (after_parcel set_by t names m.client h p) total
        (tally (outgoing_of (acts.Send h p)) k m.counts))) (sym (reserved_is k (inside_own k at.1)))
        (by_parcel k at.1 p act total)))
      where
        by_parcel : (k : ℕ) → m.client.begun ≡ suc k → (p : Parcel) → act_of set_by (length code.blocks) m.client ≡ acts.Send h p → (total : ℕ)
            → InCounts (came (own program fine lined c code size reserved_is walk_is m (ticket c k))
            (after_parcel set_by (ticket c k) (objects_of_block program (ticket c k)) m.client h p) total (tally (outgoing_of (acts.Send h p)) k m.counts))
        by_parcel k e (parcels.Home x) act total =
            let t = ticket c k in
            comes_alike k e (after_parcel set_by t (objects_of_block program t) m.client h (parcels.Home x))
            (sent_begun set_by t (objects_of_block program t) m.client h (parcels.Home x)) total
            (send_counts set_by t (objects_of_block program t) (tree_at code k (entry_rows m k)) (length code.blocks) (trace_rows m k) (w.syncs k) m.client
            (w.newest k e) h (parcels.Home x) act)
        by_parcel k e (parcels.Work chunk) act total =
            let t = ticket c k in
            comes_alike k e (after_parcel set_by t (objects_of_block program t) m.client h (parcels.Work chunk))
            (sent_begun set_by t (objects_of_block program t) m.client h (parcels.Work chunk)) total
            (send_counts set_by t (objects_of_block program t) (tree_at code k (entry_rows m k)) (length code.blocks) (trace_rows m k) (w.syncs k) m.client
            (w.newest k e) h (parcels.Work chunk) act)
        by_parcel k e parcels.Sync act total =
            let t = ticket c k in
            let b = o.telling.block k in
            let mine = (send_at program t b.sent b.got set_by (length code.blocks) m.client b.block_record m.client.stage (o.telling.last k e) h parcels.Sync act).0 in
            comes_synced k e h mine (after_parcel set_by t (objects_of_block program t) m.client h parcels.Sync)
            (sent_begun set_by t (objects_of_block program t) m.client h parcels.Sync) total
            (send_counts set_by t (objects_of_block program t) (tree_at code k (entry_rows m k)) (length code.blocks) (trace_rows m k) (w.syncs k) m.client
            (w.newest k e) h parcels.Sync act)
        by_parcel k e parcels.End act total =
            let t = ticket c k in
            comes_alike k e (after_parcel set_by t (objects_of_block program t) m.client h parcels.End)
            (sent_begun set_by t (objects_of_block program t) m.client h parcels.End) total
            (send_counts set_by t (objects_of_block program t) (tree_at code k (entry_rows m k)) (length code.blocks) (trace_rows m k) (w.syncs k) m.client
            (w.newest k e) h parcels.End act)

    get_counted : (h : ℕ) (x : HeldState) → act_due m ≡ acts.Await h → InCounts (finish (mind_after_object (hands_out m (acts.Await h)) x))
    get_counted h x asked =
        let act : act_of set_by (length code.blocks) m.client ≡ acts.Await h = sym asks_own ∙ asked in
        let at = in_tale_block program fine lined c code size reserved_is walk_is before m o
        (λ l e. not_await set_by (length code.blocks) m.client l h e act) in
        let k = at.0 in
        let t = ticket c k in
        subst (λ (m : ClientModel). InCounts (finish (mind_after_object (hands_out m (acts.Await h)) x)))
        (sym (own_is program fine lined c code size reserved_is walk_is m t o.code_is o.size_is (o.ticket_is k at.1)))
        (subst InCounts (sym (get_does (own program fine lined c code size reserved_is walk_is m t) h x))
        (subst (λ names. InCounts (came (own program fine lined c code size reserved_is walk_is m t)
        (clients.take_object set_by t names m.client x m.client.stage) m.syncs m.counts)) (sym (reserved_is k (inside_own k at.1)))
        (comes_alike k at.1 (clients.take_object set_by t (objects_of_block program t) m.client x m.client.stage)
        (got_begun set_by t (objects_of_block program t) m.client h x m.client.stage) m.syncs
        (got_counts set_by t (objects_of_block program t) (tree_at code k (entry_rows m k)) (trace_rows m k) (w.syncs k) m.client x m.client.stage (w.newest k at.1)))))

    chunk_counted : (h : ℕ) → act_due m ≡ acts.NeedChunk h → InCounts (finish (mind_after_chunk (hands_out m (acts.NeedChunk h)) h))
    chunk_counted h asked =
        let act : act_of set_by (length code.blocks) m.client ≡ acts.NeedChunk h = sym asks_own ∙ asked in
        let at = in_tale_block program fine lined c code size reserved_is walk_is before m o
        (λ l e. not_need set_by (length code.blocks) m.client l h e act) in
        let k = at.0 in
        let t = ticket c k in
        subst (λ (m : ClientModel). InCounts (finish (mind_after_chunk (hands_out m (acts.NeedChunk h)) h)))
        (sym (own_is program fine lined c code size reserved_is walk_is m t o.code_is o.size_is (o.ticket_is k at.1)))
        (subst InCounts (sym (chunk_does (own program fine lined c code size reserved_is walk_is m t) h))
        (subst (λ names. InCounts (came (own program fine lined c code size reserved_is walk_is m t)
        (take_chunk set_by t names m.client h m.client.stage) m.syncs m.counts)) (sym (reserved_is k (inside_own k at.1)))
        (comes_alike k at.1 (take_chunk set_by t (objects_of_block program t) m.client h m.client.stage)
        (chunk_begun set_by t (objects_of_block program t) m.client h m.client.stage) m.syncs
        (chunk_counts set_by t (objects_of_block program t) (tree_at code k (entry_rows m k)) (trace_rows m k) (w.syncs k) m.client h m.client.stage (w.newest k at.1)))))

    reserve_counted : act_due m ≡ acts.Reserve → InCounts (finish (mind_after_begin (hands_out m acts.Reserve) (next_ticket c (hands_out m acts.Reserve))))
    reserve_counted asked =
        let found = reserves_between program fine lined c code size reserved_is walk_is before m o asked in
        let l = found.0 in
        let k = m.client.begun in
        let t = ticket c k in
        subst (λ (m : ClientModel). InCounts (finish (mind_after_begin (hands_out m acts.Reserve) (next_ticket c (hands_out m acts.Reserve)))))
        (sym (own_is program fine lined c code size reserved_is walk_is m m.ticket o.code_is o.size_is refl))
        (subst InCounts (sym (reserve_does (own program fine lined c code size reserved_is walk_is m m.ticket) c l found.1))
        (subst (λ names. InCounts (came (enters (own program fine lined c code size reserved_is walk_is m m.ticket) t l)
        (begin set_by t names m.client (tree_at code k l)) m.syncs m.counts)) (sym (reserved_is k found.2))
        (begun_with l found.1 found.2)))
      where
        begun_with : (l : Locals) → m.client.stage ≡ between l → m.client.begun < length code.blocks
            → let t = ticket c m.client.begun in
            InCounts (came (enters (own program fine lined c code size reserved_is walk_is m m.ticket) t l)
            (begin set_by t (objects_of_block program t) m.client (tree_at code m.client.begun l)) m.syncs m.counts)
        begun_with l at less =
            let k = m.client.begun in
            let t = ticket c k in
            let names = objects_of_block program t in
            let tree = tree_at code k l in
            let began : Client = record m.client { begun = suc m.client.begun } in
            let r : Settlement = begin set_by t names m.client tree in
            let row : List Event = trace_rows m k ++ r.events in
            let more : r.client.begun ≡ suc k = settle_begun set_by t names tree began in
            let trace_is = row_set m.traces k row (let long = o.trace_count in omega (arith, long, less)) in
            let entry_is = λ (j : ℕ) (lt : j < suc k). row_push m.entries k l o.entry_count j lt in
            let hands = (rests program c (length code.blocks) set_by m.client (entry_rows m) (trace_rows m)
            (λ h. deeds.sent_to h before) (λ h. deeds.got_from h before) o.telling l at k refl).hands in
            let start : Even set_by t names tree [] (w.syncs k) (λ h. is_some (m.client.held h)) tree =
            λ h es. ap (λ x. syncs_along set_by.dynamic h x tree es) (sym (ap is_some (hands h).0)) ∙ (let z = w.fresh k (omega arith) h in omega (arith, z)) in
            let now : At k l r.events (w.syncs k) r.client =
            settle_counts set_by t names tree tree [] (w.syncs k) began (asking k l less) start in
            let none : r.events ≡ row = sym (ap (λ es. es ++ r.events) (o.telling.fresh k (omega arith))) in
            record {
              syncs = w.syncs;
              newest = grind (arith, w, put_here);
              older = grind (arith, after_not, w, put_there, all_past);
              fresh = λ j low h. w.fresh j (omega (arith, more, low)) h;
              row_count = w.row_count;
              rows = w.rows;
            }

  -- before the first deed
  fresh_counts : InCounts (finish (fresh_mind code size))
  fresh_counts = subst InCounts (sym (done_still (fresh_mind code size) refl)) (record {
    syncs = λ k h. 0;
    newest = λ k e. absurd (omega (arith, e));
    older = λ k lt. absurd (omega (arith, lt));
    fresh = λ k low h. refl;
    row_count = length-map (lists_of_code code.blocks) no_syncs ∙ length-map code.blocks (λ (b : BlockCode). b.reserved);
    rows = λ k lt. subst (λ xs. IsTallied (objects_of_block program (ticket c k)) xs (λ h. 0)) (sym (row_is k lt)) (record {
      objects_are = objects_none (objects_of_block program (ticket c k));
      numbers = λ h. none_for (objects_of_block program (ticket c k)) h;
    });
  })
    where
      row_is : (k : ℕ) → k < length code.blocks → slice_index_or (fresh_rows (lists_of_code code.blocks)) k [] ≡ no_syncs (objects_of_block program (ticket c k))
      row_is k lt =
          let many = length-map code.blocks (λ (b : BlockCode). b.reserved) in
          get_or-map no_syncs (lists_of_code code.blocks) k [] [] (omega (arith, many, lt))
          ∙ ap no_syncs (get_or-map (λ (b : BlockCode). b.reserved) code.blocks k no_code [] lt ∙ reserved_is k lt)

  abbrev pub Both : List Deed → ClientModel → Type 0
  Both before m = Known before m × InCounts m

  pub in_counts : (deeds : List Deed) (last : ClientModel) → DeedsLead c (fresh_mind code size) deeds last → Both deeds (finish last)
  in_counts deeds last lead =
      deeds_keep c Both
      (λ before m k asked. (reserving program fine lined c code size reserved_is walk_is before m k.0 asked, reserve_counted before m k.0 k.1 asked))
      (λ before m k h p asked. (sending program fine lined c code size reserved_is walk_is before m k.0 h p asked, send_counted before m k.0 k.1 h p asked))
      (λ before m k h x asked. (getting program fine lined c code size reserved_is walk_is before m k.0 h x asked, get_counted before m k.0 k.1 h x asked))
      (λ before m k h asked. (taking program fine lined c code size reserved_is walk_is before m k.0 h asked, chunk_counted before m k.0 k.1 h asked))
      deeds [] (fresh_mind code size) last (fresh_tale program fine lined c code size reserved_is walk_is, fresh_counts) lead

  stands_between : (p : ClientStage) → is_between p ≡ true → (l : Locals) × (p ≡ between l)
  stands_between v e = search (rules, true≢false)

  -- how many Syncs a client's whole run sent
  pub history_counts : (deeds : List Deed) (end : ClientModel) → RunsTo c (fresh_mind code size) deeds end → (tale : ClientHistory program c code deeds end)
      → HistoryCounts program c code size deeds end tale
  history_counts deeds end run tale =
      subst (λ (end : ClientModel). (tale : ClientHistory program c code deeds end) → HistoryCounts program c code size deeds end tale)
      (sym (run.end_is ∙ ap (hands_out (finish run.last)) run.finished)) ended tale
    where
      ended : (tale : ClientHistory program c code deeds (hands_out (finish run.last) acts.Finished))
          → HistoryCounts program c code size deeds (hands_out (finish run.last) acts.Finished) tale
      ended tale =
          let m = finish run.last in
          let both = in_counts deeds run.last run.deeds_lead in
          let w = both.1 in
          let at = stands_between m.client.stage tale.between in
          record {
            syncs = w.syncs;
            counted = λ k lt.
                let all = tale.begun in
                subst (λ l. Past k l (tale.block_record k).trace (w.syncs k)) (tale.entries k lt)
                (subst (λ es. Past k (entry_rows m k) es (w.syncs k)) (tale.traces k lt)
                (all_past deeds m both.0 w at.0 at.1 k (omega (arith, all, lt))));
            tallied = λ k lt. w.rows k lt;
          }
