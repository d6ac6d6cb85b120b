-- What one client's whole run says, block by block: all its blocks are over, each with its block record, what it sent
-- to each object and what it got from it, and these joined are all that it sent and got. The objects that it got are
-- arbitrary; nothing of threads, queues or other clients is in it. The run is read where nothing is left to be done for
-- the last act, since each act begins with that.
use Rattle.std.proofs.Common.{◌≡◌, ◌<◌, arith, ℕ, zero, suc, false, List, [], ◌∷◌, ◌++◌, length, replicate, slice_index_or, refl, sym, ap, ap₂, ◌∙◌, subst, append-nil, ◌+◌, length-append, length-set, rules}
use Rattle.qs_played.proofs.Names.{length-replicate, HeldState, Event, Ticket, ProgramShape, Locals, reserves, AsksOnly, block_tree, zeros, put, SyncCount, ticket, no_events}
use Rattle.qs_core_laws.proofs.Names.{without_syncs, ClientCode, code_at, IsSoundSynced, IsOnReserved, Parcel, Client, Settings, Settlement, act_of, between, begin, after_parcel, take_chunk, count_sync, outgoing_of, Deed, DeedsLead, RunsTo, got_from, next_ticket, reservations, sent_to, ClientModel, act_due, mind_after_begin, mind_after_chunk, finish, enters, fresh_mind, mind_after_object, hands_out, is_between, tally, tree_at, upto, ClientHistory}
use Rattle.qs_client.specs.audit.rules.Client as clients
use Rattle.qs_client.specs.declared.rules.act.Act.TheVariants as acts
use Rattle.qs_client.specs.audit.ClientRuns as deeds
use Rattle.qs_core_laws.proofs.protocol.ActObjects.{chunk_begun, got_begun, not_await, not_need, not_send, reserve_at, sent_begun, settle_begun}
use Rattle.qs_core_laws.proofs.protocol.BlockLists.{row_push, row_set}
use Rattle.qs_core_laws.proofs.protocol.BlockHistories.{BlockHistories, history_by, history_got, history_reserved, history_sent, history_with_chunk, in_block, no_history, rests}
use Rattle.qs_core_laws.proofs.protocol.ClientInvariants.{Lined, objects_of_block}
use Rattle.qs_core_laws.proofs.protocol.DeedJoins.{got_join, reservations_join, sent_join}
use Rattle.qs_core_laws.proofs.protocol.FullChunks.{ComesFull, HasFull, chunk_full, finished_all, finished_at, got_full, reserves_more, sent_full, settle_full}
use Rattle.qs_core_laws.proofs.protocol.MindSteps.{came, chunk_does, deeds_keep, done_still, get_does, reserve_does, send_does}

-- the rows of a mind, by block
abbrev pub entry_rows : ClientModel → ℕ → Locals
entry_rows m k = slice_index_or m.entries k []

abbrev pub trace_rows : ClientModel → ℕ → List Event
trace_rows m k = slice_index_or m.traces k []

module _ (program : ProgramShape) (fine : (t : Ticket) (l : Locals) → AsksOnly (reserves program t) (block_tree program t l))
    (lined : (t : Ticket) → Lined (reserves program t) (objects_of_block program t)) (c : ℕ) (code : ClientCode) (size : ℕ)
    (reserved_is : (k : ℕ) → k < length code.blocks → (code_at code k).reserved ≡ objects_of_block program (ticket c k))
    (walk_is : (k : ℕ) (l : Locals) → k < length code.blocks
    → (without_syncs (tree_at code k l) ≡ block_tree program (ticket c k) l) × IsSoundSynced (λ h. false) (tree_at code k l)
    × IsOnReserved (objects_of_block program (ticket c k)) (tree_at code k l)) where
  abbrev pub settings : Settings
  settings = record { dynamic = code.dynamic; size = size }

  -- what is known of its mind in the midst of a run, by its deeds so far
  pub record InClientHistory (before : List Deed) (m : ClientModel) : Type 0 where
    pub code_is : m.code ≡ code
    pub size_is : m.size ≡ size
    pub ticket_is : (k : ℕ) → m.client.begun ≡ suc k → m.ticket ≡ ticket c k
    pub entry_count : length m.entries ≡ m.client.begun
    pub trace_count : length m.traces ≡ length code.blocks
    pub reserved : m.client.begun ≡ reservations before
    pub full : HasFull m.client m.client.stage
    pub telling : BlockHistories program c (length code.blocks) m.client (entry_rows m) (trace_rows m) (λ h. sent_to h before) (λ h. got_from h before)

  -- a mind of this code, in this block
  abbrev pub own : ClientModel → Ticket → ClientModel
  own m t = record {
    code = code;
    size = size;
    ticket = t;
    client = m.client;
    entries = m.entries;
    traces = m.traces;
    syncs = m.syncs;
    counts = m.counts;
    outgoing = m.outgoing;
  }

  pub own_is : (m : ClientModel) (t : Ticket) → m.code ≡ code → m.size ≡ size → m.ticket ≡ t → m ≡ own m t
  own_is m t a b d = search rules

  module _ (before : List Deed) (m : ClientModel) (o : InClientHistory before m) where
    pub asks : act_due m ≡ act_of settings (length code.blocks) m.client
    asks = ap₂ (λ (code : ClientCode) (size : ℕ). act_of (record { dynamic = code.dynamic; size = size }) (length code.blocks) m.client) o.code_is o.size_is

    -- it came to this in the block that it is in, by a deed that reserves none
    comes : (d : Deed) (k : ℕ) → m.client.begun ≡ suc k → (r : Settlement) → r.client.begun ≡ m.client.begun → ComesFull r → reservations (d ∷ []) ≡ 0
        → (syncs : ℕ) (counts : List (List SyncCount))
        → BlockHistories program c (length code.blocks) r.client (entry_rows m) (put (trace_rows m) k (trace_rows m k ++ r.events))
        (λ h. sent_to h before ++ sent_to h (d ∷ [])) (λ h. got_from h before ++ got_from h (d ∷ []))
        → InClientHistory (before ++ d ∷ []) (came (own m (ticket c k)) r syncs counts)
    comes d k e r still full none syncs counts telling = search (rules, length-set, reservations_join, history_by, came, row_set, sent_join, got_join)

    pub inside : (k : ℕ) → m.client.begun ≡ suc k → k < length code.blocks
    inside k e = let within = o.telling.within in omega (arith, e, within)

    pub in_tale_block : ((l : Locals) → m.client.stage ≡ between l → ⊥) → (k : ℕ) × (m.client.begun ≡ suc k)
    in_tale_block none =
        in_block program fine lined c (length code.blocks) settings m.client (entry_rows m) (trace_rows m)
        (λ h. sent_to h before) (λ h. got_from h before) o.telling none

    pub sending : (h : ℕ) (p : Parcel) → act_due m ≡ acts.Send h p → InClientHistory (before ++ deeds.sends h p ∷ []) (finish (hands_out m (acts.Send h p)))
    sending h p asked =
        let act : act_of settings (length code.blocks) m.client ≡ acts.Send h p = sym asks ∙ asked in
        let at = in_tale_block (λ l e. not_send settings (length code.blocks) m.client l h p e act) in
        let k = at.0 in
        let t = ticket c k in
        let syncs = m.syncs + count_sync (outgoing_of (acts.Send h p)) in
        let counts = tally (outgoing_of (acts.Send h p)) k m.counts in
        let after : List Deed = before ++ deeds.sends h p ∷ [] in
        subst (λ (m : ClientModel). InClientHistory after (finish (hands_out m (acts.Send h p)))) (sym (own_is m t o.code_is o.size_is (o.ticket_is k at.1)))
        (subst (InClientHistory after) (sym (send_does (own m t) h p act))
        (subst (λ names. InClientHistory after (came (own m t) (after_parcel settings t names m.client h p) syncs counts)) (sym (reserved_is k (inside k at.1)))
        (comes (deeds.sends h p) k at.1 (after_parcel settings t (objects_of_block program t) m.client h p) (sent_begun settings t (objects_of_block program t) m.client h p)
        (sent_full settings t (objects_of_block program t) m.client h p o.full) refl syncs counts
        (history_sent program fine lined c (length code.blocks) settings m.client (entry_rows m) (trace_rows m)
        (λ h. sent_to h before) (λ h. got_from h before) o.telling k at.1 h p act))))

    pub getting : (h : ℕ) (x : HeldState) → act_due m ≡ acts.Await h → InClientHistory (before ++ deeds.gets h x ∷ []) (finish (mind_after_object (hands_out m (acts.Await h)) x))
    getting h x asked =
        let act : act_of settings (length code.blocks) m.client ≡ acts.Await h = sym asks ∙ asked in
        let at = in_tale_block (λ l e. not_await settings (length code.blocks) m.client l h e act) in
        let k = at.0 in
        let t = ticket c k in
        let after : List Deed = before ++ deeds.gets h x ∷ [] in
        subst (λ (m : ClientModel). InClientHistory after (finish (mind_after_object (hands_out m (acts.Await h)) x))) (sym (own_is m t o.code_is o.size_is (o.ticket_is k at.1)))
        (subst (InClientHistory after) (sym (get_does (own m t) h x))
        (subst (λ names. InClientHistory after (came (own m t) (clients.take_object settings t names m.client x m.client.stage) m.syncs m.counts))
        (sym (reserved_is k (inside k at.1)))
        (comes (deeds.gets h x) k at.1 (clients.take_object settings t (objects_of_block program t) m.client x m.client.stage)
        (got_begun settings t (objects_of_block program t) m.client h x m.client.stage)
        (got_full settings t (objects_of_block program t) m.client x m.client.stage o.full) refl m.syncs m.counts
        (history_got program fine lined c (length code.blocks) settings m.client (entry_rows m) (trace_rows m)
        (λ h. sent_to h before) (λ h. got_from h before) o.telling k at.1 h x act))))

    pub taking : (h : ℕ) → act_due m ≡ acts.NeedChunk h → InClientHistory (before ++ deeds.takes_chunk h ∷ []) (finish (mind_after_chunk (hands_out m (acts.NeedChunk h)) h))
    taking h asked =
        let act : act_of settings (length code.blocks) m.client ≡ acts.NeedChunk h = sym asks ∙ asked in
        let at = in_tale_block (λ l e. not_need settings (length code.blocks) m.client l h e act) in
        let k = at.0 in
        let t = ticket c k in
        let after : List Deed = before ++ deeds.takes_chunk h ∷ [] in
        subst (λ (m : ClientModel). InClientHistory after (finish (mind_after_chunk (hands_out m (acts.NeedChunk h)) h))) (sym (own_is m t o.code_is o.size_is (o.ticket_is k at.1)))
        (subst (InClientHistory after) (sym (chunk_does (own m t) h))
        (subst (λ names. InClientHistory after (came (own m t) (take_chunk settings t names m.client h m.client.stage) m.syncs m.counts))
        (sym (reserved_is k (inside k at.1)))
        (comes (deeds.takes_chunk h) k at.1 (take_chunk settings t (objects_of_block program t) m.client h m.client.stage)
        (chunk_begun settings t (objects_of_block program t) m.client h m.client.stage)
        (chunk_full settings t (objects_of_block program t) m.client h m.client.stage o.full) refl m.syncs m.counts
        (history_with_chunk program fine lined c (length code.blocks) settings m.client (entry_rows m) (trace_rows m)
        (λ h. sent_to h before) (λ h. got_from h before) o.telling k at.1 h act))))

    -- a client that reserves is between blocks, of which some are left
    pub reserves_between : act_due m ≡ acts.Reserve → (l : Locals) × (m.client.stage ≡ clients.between l) × (m.client.begun < length code.blocks)
    reserves_between asked = search (rules, asks, reserves_more, reserve_at)

    pub reserving : act_due m ≡ acts.Reserve
        → InClientHistory (before ++ deeds.reserves ∷ []) (finish (mind_after_begin (hands_out m acts.Reserve) (next_ticket c (hands_out m acts.Reserve))))
    reserving asked =
        let found = reserves_between asked in
        let l = found.0 in
        let k = m.client.begun in
        let t = ticket c k in
        let after : List Deed = before ++ deeds.reserves ∷ [] in
        let walk = walk_is k l found.2 in
        subst (λ (m : ClientModel). InClientHistory after (finish (mind_after_begin (hands_out m acts.Reserve) (next_ticket c (hands_out m acts.Reserve)))))
        (sym (own_is m m.ticket o.code_is o.size_is refl))
        (subst (InClientHistory after) (sym (reserve_does (own m m.ticket) c l found.1))
        (subst (λ names. InClientHistory after (came (enters (own m m.ticket) t l) (begin settings t names m.client (tree_at code k l)) m.syncs m.counts))
        (sym (reserved_is k found.2))
        (begun_with l found.2 (begin settings t (objects_of_block program t) m.client (tree_at code k l))
        (settle_begun settings t (objects_of_block program t) (tree_at code k l) (record m.client { begun = suc m.client.begun }))
        (settle_full settings t (objects_of_block program t) (tree_at code k l) (record m.client { begun = suc m.client.begun }))
        (history_reserved program fine lined c (length code.blocks) settings m.client (entry_rows m) (trace_rows m)
        (λ h. sent_to h before) (λ h. got_from h before) o.telling l found.1 found.2 (tree_at code k l) walk.0 walk.1 walk.2))))
      where
        begun_with : (l : Locals) → m.client.begun < length code.blocks → (r : Settlement) → r.client.begun ≡ suc m.client.begun → ComesFull r
            → BlockHistories program c (length code.blocks) r.client (put (entry_rows m) m.client.begun l)
            (put (trace_rows m) m.client.begun (trace_rows m m.client.begun ++ r.events)) (λ h. sent_to h before) (λ h. got_from h before)
            → InClientHistory (before ++ deeds.reserves ∷ []) (came (enters (own m m.ticket) (ticket c m.client.begun) l) r m.syncs m.counts)
        begun_with l less r more full telling = search (rules, length-append, length-set, reservations_join, history_by, slice_index_or, came, row_push, row_set, sent_join, append-nil, got_join)

  -- before the first deed
  pub fresh_tale : InClientHistory [] (finish (fresh_mind code size))
  fresh_tale = subst (InClientHistory []) (sym (done_still (fresh_mind code size) refl)) (record {
    code_is = refl;
    size_is = refl;
    ticket_is = λ k e. absurd (omega (arith, e));
    entry_count = refl;
    trace_count = length-replicate (length code.blocks) [];
    reserved = refl;
    full = tt;
    telling = no_history program c (length code.blocks) (clients.first_client zeros) (entry_rows (fresh_mind code size)) (trace_rows (fresh_mind code size))
        refl refl (λ h. (refl, refl)) (none_at (length code.blocks));
  })
    where
      none_at : (n k : ℕ) → slice_index_or (replicate n (no_events)) k [] ≡ []
      none_at (suc n) (suc k) = none_at n k
      none_at _ _ = refl

  pub in_tale : (deeds : List Deed) (last : ClientModel) → DeedsLead c (fresh_mind code size) deeds last → InClientHistory deeds (finish last)
  in_tale deeds last lead = deeds_keep c InClientHistory reserving sending getting taking deeds [] (fresh_mind code size) last fresh_tale lead

  -- a mind that asks for nothing more
  finished_tale : (deeds : List Deed) (m : ClientModel) → InClientHistory deeds m → act_due m ≡ acts.Finished → ClientHistory program c code deeds m
  finished_tale deeds m o asked =
      let act : act_of settings (length code.blocks) m.client ≡ acts.Finished = sym (asks deeds m o) ∙ asked in
      let w = o.telling in
      let at = place_of m.client.begun refl act in
      let over = rests program c (length code.blocks) settings m.client (entry_rows m) (trace_rows m)
      (λ h. sent_to h deeds) (λ h. got_from h deeds) w at.0 at.1 m.client.begun refl in
      let all : m.client.begun ≡ length code.blocks =
      (let within = w.within in let none = finished_all settings (length code.blocks) m.client at.0 at.1 act in omega (arith, within, none)) in
      record {
        block_record = λ k. (w.block k).block_record;
        sent = λ k. (w.block k).sent;
        got = λ k. (w.block k).got;
        begun = all;
        reserved = sym o.reserved ∙ all;
        between = ap is_between at.1;
        hands = over.hands;
        first = λ none. (w.idle (all ∙ none)).0;
        blocks = λ k lt. over.over k (omega (arith, all, lt));
        begins = λ k lt. w.begins k (omega (arith, all, lt));
        entries = λ k lt. w.entries k (omega (arith, all, lt));
        traces = λ k lt. w.traces k (omega (arith, all, lt));
        sent_is = λ h. w.sent_is h ∙ ap (upto (λ k. (w.block k).sent h)) all;
        got_is = λ h. w.got_is h ∙ ap (upto (λ k. (w.block k).got h)) all;
      }
    where
      place_of : (n : ℕ) → m.client.begun ≡ n → act_of settings (length code.blocks) m.client ≡ acts.Finished
          → (l : Locals) × (m.client.stage ≡ clients.between l)
      place_of zero e act = (zeros, (o.telling.idle e).0)
      place_of (suc k) e act =
          let b = o.telling.block k in
          finished_at program (ticket c k) b.sent b.got settings (length code.blocks) m.client b.block_record m.client.stage (o.telling.last k e) o.full act

  -- what a client's whole run says
  pub client_history : (deeds : List Deed) (end : ClientModel) → RunsTo c (fresh_mind code size) deeds end → ClientHistory program c code deeds end
  client_history deeds end run = search (rules, finished_tale, in_tale)
