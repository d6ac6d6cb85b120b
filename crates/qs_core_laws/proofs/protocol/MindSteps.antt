-- What each deed of a client makes of its mind, once nothing is left to be done for its act; and so what a whole run
-- keeps.
use Rattle.std.proofs.Common.{◌≡◌, ℕ, ◌+◌, List, [], ◌∷◌, ◌++◌, refl, sym, ap, ◌∙◌, subst, append_assoc, append-nil, add-zero, rules, arith}
use Rattle.qs_played.proofs.Names.{HeldState, Locals, SyncCount}
use Rattle.qs_core_laws.proofs.Names.{code_at, Parcel, Settlement, between, begin, take_object, after_parcel, take_chunk, count_sync, outgoing_of, sends_are_parted}
use Rattle.qs_client.specs.declared.rules.outgoing.Outgoing.TheVariants as outgoings
use Rattle.qs_client.specs.declared.rules.act.Act.TheVariants as acts
use Rattle.qs_client.specs.audit.ClientRuns.{Deed, DeedsLead, reserves, sends, gets, takes_chunk, next_ticket}
use Rattle.qs_client.specs.audit.ClientModel.{ClientModel, act_due, mind_after_begin, mind_after_chunk, finish, enters, extend, mind_after_object, hands_out, locals_at, next_mind, reserved_by, settings_of, tally, tree_at}
use Rattle.qs_client.proofs.MindRefinement.{extend_none}

-- a mind whose client came to this, with these numbers of Syncs, for whose last act nothing is left
abbrev pub came : ClientModel → Settlement → ℕ → List (List SyncCount) → ClientModel
came m s syncs counts = record {
  code = m.code;
  size = m.size;
  ticket = m.ticket;
  client = s.client;
  entries = m.entries;
  traces = extend m.traces m.ticket.index s.events;
  syncs = syncs;
  counts = counts;
  outgoing = outgoings.Nothing;
}

-- where nothing is left to be done the mind stays
pub done_still : (m : ClientModel) → m.outgoing ≡ outgoings.Nothing → finish m ≡ m
done_still m e = search (rules, extend_none, add-zero)

module _ (m : ClientModel) where
  -- a parcel was sent, and counted where it is a Sync
  pub send_does : (h : ℕ) (p : Parcel) → act_due m ≡ acts.Send h p
      → finish (hands_out m (acts.Send h p))
      ≡ came m (after_parcel (settings_of m) m.ticket (reserved_by m) m.client h p) (m.syncs + count_sync (outgoing_of (acts.Send h p)))
      (tally (outgoing_of (acts.Send h p)) m.ticket.index m.counts)
  send_does h p act = search (rules, came)

  -- an object came
  pub get_does : (h : ℕ) (x : HeldState)
      → finish (mind_after_object (hands_out m (acts.Await h)) x)
      ≡ came m (take_object (settings_of m) m.ticket (reserved_by m) m.client x m.client.stage) m.syncs m.counts
  get_does h x = done_still (mind_after_object (hands_out m (acts.Await h)) x) refl

  -- an empty chunk came
  pub chunk_does : (h : ℕ)
      → finish (mind_after_chunk (hands_out m (acts.NeedChunk h)) h)
      ≡ came m (take_chunk (settings_of m) m.ticket (reserved_by m) m.client h m.client.stage) m.syncs m.counts
  chunk_does h = done_still (mind_after_chunk (hands_out m (acts.NeedChunk h)) h) refl

  -- the next block was reserved
  pub reserve_does : (c : ℕ) (l : Locals) → m.client.stage ≡ between l
      → let t = next_ticket c m in
      finish (mind_after_begin (hands_out m acts.Reserve) (next_ticket c (hands_out m acts.Reserve)))
      ≡ came (enters m t l) (begin (settings_of m) t (code_at m.code t.index).reserved m.client (tree_at m.code t.index l)) m.syncs m.counts
  reserve_does c l at =
      let t = next_ticket c m in
      done_still (mind_after_begin (hands_out m acts.Reserve) (next_ticket c (hands_out m acts.Reserve))) refl
      ∙ ap (λ l. came (enters m t l) (begin (settings_of m) t (code_at m.code t.index).reserved m.client (tree_at m.code t.index l)) m.syncs m.counts)
      (ap locals_at at)

-- what each deed keeps of a mind, by the deeds so far, a whole run keeps
module _ (c : ℕ) (Kept : List Deed → ClientModel → Type 0)
    (reserving : (before : List Deed) (m : ClientModel) → Kept before m → act_due m ≡ acts.Reserve
    → Kept (before ++ reserves ∷ []) (finish (mind_after_begin (hands_out m acts.Reserve) (next_ticket c (hands_out m acts.Reserve)))))
    (sending : (before : List Deed) (m : ClientModel) → Kept before m → (h : ℕ) (p : Parcel) → act_due m ≡ acts.Send h p
    → Kept (before ++ sends h p ∷ []) (finish (hands_out m (acts.Send h p))))
    (getting : (before : List Deed) (m : ClientModel) → Kept before m → (h : ℕ) (x : HeldState) → act_due m ≡ acts.Await h
    → Kept (before ++ gets h x ∷ []) (finish (mind_after_object (hands_out m (acts.Await h)) x)))
    (taking : (before : List Deed) (m : ClientModel) → Kept before m → (h : ℕ) → act_due m ≡ acts.NeedChunk h
    → Kept (before ++ takes_chunk h ∷ []) (finish (mind_after_chunk (hands_out m (acts.NeedChunk h)) h))) where
  pub deeds_keep : (deeds before : List Deed) (m end : ClientModel) → Kept before (finish m) → DeedsLead c m deeds end → Kept (before ++ deeds) (finish end)
  deeds_keep [] before m end k lead = search (rules, append-nil)
  deeds_keep (reserves ∷ deeds) before m end k lead =
      subst (λ b. Kept b (finish end)) (append_assoc before (reserves ∷ []) deeds)
      (deeds_keep deeds (before ++ reserves ∷ []) (mind_after_begin (next_mind m) (next_ticket c (next_mind m))) end
      (subst (λ act. Kept (before ++ reserves ∷ []) (finish (mind_after_begin (hands_out (finish m) act) (next_ticket c (hands_out (finish m) act))))) (sym lead.0)
      (reserving before (finish m) k lead.0)) lead.1)
  deeds_keep (sends h p ∷ deeds) before m end k lead =
      subst (λ b. Kept b (finish end)) (append_assoc before (sends h p ∷ []) deeds)
      (deeds_keep deeds (before ++ sends h p ∷ []) (next_mind m) end
      (subst (λ act. Kept (before ++ sends h p ∷ []) (finish (hands_out (finish m) act))) (sym lead.0) (sending before (finish m) k h p lead.0)) lead.1)
  deeds_keep (gets h x ∷ deeds) before m end k lead =
      subst (λ b. Kept b (finish end)) (append_assoc before (gets h x ∷ []) deeds)
      (deeds_keep deeds (before ++ gets h x ∷ []) (mind_after_object (next_mind m) x) end
      (subst (λ act. Kept (before ++ gets h x ∷ []) (finish (mind_after_object (hands_out (finish m) act) x))) (sym lead.0) (getting before (finish m) k h x lead.0)) lead.1)
  deeds_keep (takes_chunk h ∷ deeds) before m end k lead =
      subst (λ b. Kept b (finish end)) (append_assoc before (takes_chunk h ∷ []) deeds)
      (deeds_keep deeds (before ++ takes_chunk h ∷ []) (mind_after_chunk (next_mind m) h) end
      (subst (λ act. Kept (before ++ takes_chunk h ∷ []) (finish (mind_after_chunk (hands_out (finish m) act) h))) (sym lead.0)
      (taking before (finish m) k h lead.0)) lead.1)
