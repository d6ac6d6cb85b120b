-- All quiet work of a client keeps what its lanes say of its trace: it puts a command into the open chunk, runs a query
-- on the object in hand, and passes a synchronisation that it may skip. The lemmas on acts with the quiet work after
-- them (`ClientLogs`) stand on this. The proof is an induction on the block's tree, where each event is a move of one
-- object's lane.
use Rattle.std.proofs.Common.{◌≡◌, ℕ, Bool, true, false, true≢false, if◌then◌else◌, ◌==◌, ◌&&◌, is_some, List, [], ◌∷◌, ◌++◌, length, refl, sym, ap, ap₂, ◌∙◌, subst, ◌⊎◌, inl, inr, ⊎_elim, append_assoc, append-nil, Option, Some, None, ℤ, rules, arith}
use Rattle.qs_played.proofs.Names.{HeldState, run_one, command_event, part, Event, Ticket, Request, and_cases, num_cases, never_answers, reserves, AsksOnly, Leads, block_tree, Interaction, ProgramShape, event, put, value_of, is_in, Locals, advance, BlockRecord, leads_call, leads_query, part_snoc_here, part_snoc_there, put_there}
use Rattle.qs_core_laws.proofs.Names.{IsCommand, without_syncs, IsSoundSynced, sends, holds, ClientLane, Parcel, Client, ClientStage, Settings, Settlement, between, runs, full, leaves, stop_at, with_event, end_block, call, query, settle, put_all, apart_from}
use Rattle.qs_graph.specs.audit.Synced.{Synced, Done, Call, Sync, Query}
use Rattle.qs_core_laws.proofs.protocol.ClientInvariants.{in_hand, holding, objects_of_block, Lined, Ready, Leaving, PlaceOk}
use Rattle.qs_core_laws.proofs.protocol.LaneMoves.{lane_goes, goes_put, goes_ask}

pub put_more : (s s' : ℕ → Bool) → ((h : ℕ) → s h ≡ true → s' h ≡ true) → (n : ℕ) (b : Bool) (h : ℕ) → put s n b h ≡ true → put s' n b h ≡ true
put_more s s' e n b h = search rules

-- what suffices with some objects suffices with more
pub sound_more : (s s' : ℕ → Bool) (code : Synced) → ((h : ℕ) → s h ≡ true → s' h ≡ true) → IsSoundSynced s code → IsSoundSynced s' code
sound_more s s' (Done l) e k = tt
sound_more s s' (Call r next) e k = sound_more (put s r.object false) (put s' r.object false) next (put_more s s' e r.object false) k
sound_more s s' (Sync h next) e k = sound_more (put s h true) (put s' h true) next (put_more s s' e h true) k
sound_more s s' (Query r next) e k = (e r.object k.0, λ v. sound_more s s' (next v) e (k.1 v))

module _ (program : ProgramShape) (t : Ticket) (sent : ℕ → List Parcel) (got : ℕ → List HeldState) (settings : Settings) (lined : Lined (reserves program t) (objects_of_block program t)) where
  -- after these events the block record, and the client at its place
  abbrev pub Ends : BlockRecord → Settlement → Type 0
  Ends pg r = (pg' : BlockRecord) × (pg'.entry ≡ pg.entry) × (pg'.trace ≡ pg.trace ++ r.events) × PlaceOk program t sent got r.client pg' r.client.stage

  pub ends_stays : (pg : BlockRecord) (m : Client) (p : ClientStage) → PlaceOk program t sent got (record m { stage = p }) pg p → Ends pg (stop_at m p)
  ends_stays pg m p ok = (pg, refl, sym (append-nil pg.trace), ok)

  ends_event : (pg : BlockRecord) (e : Event) (next : Interaction) (r : Settlement) → Ends (advance pg e next) r → Ends pg (with_event e r)
  ends_event pg e next r k = (k.0, k.1, k.2 ∙ append_assoc pg.trace (e ∷ []) r.events, k.3)

  -- its place says nothing of what it has
  ready_at : (m : Client) (p : ClientStage) (pg : BlockRecord) (code : Synced) → Ready program t sent got m pg code → Ready program t sent got (record m { stage = p }) pg code
  ready_at m p pg code k = record { block_record = k.block_record; rest = k.rest; lanes = k.lanes; not_both = k.not_both; own = k.own; sound = k.sound; on = k.on }

  -- a command goes into the chunk in hand
  put_ready : (m : Client) (pg : BlockRecord) (r : Request) (next : Synced) (rs : List Request) → m.held r.object ≡ None → m.chunk r.object ≡ Some rs → Ready program t sent got m pg (Call r next)
      → Ready program t sent got (record m { chunk = put m.chunk r.object (Some (rs ++ r ∷ [])) }) (advance pg (command_event r) (without_syncs next)) next
  put_ready m pg r next rs none some k =
      let fine = subst (AsksOnly (reserves program t)) k.rest k.block_record.fine in
      record {
        block_record = record { path = leads_call (block_tree program t pg.entry) pg.trace r (without_syncs next) (subst (Leads (block_tree program t pg.entry) pg.trace) k.rest k.block_record.path); fine = fine.2 };
        rest = refl;
        lanes = put_all (λ h (c : Option (List Request)). ClientLane t false (sent h) (got h) (part h (pg.trace ++ command_event r ∷ [])) (in_hand (m.held h) c)) m.chunk r.object (Some (rs ++ r ∷ []))
            (here (never_answers r.op fine.0))
            (λ h other. subst (λ es. ClientLane t false (sent h) (got h) es (in_hand (m.held h) (m.chunk h))) (sym (part_snoc_there h pg.trace (command_event r) other)) (k.lanes h));
        not_both = put_all (λ h (c : Option (List Request)). (m.held h ≡ None) ⊎ (c ≡ None)) m.chunk r.object (Some (rs ++ r ∷ [])) (inl none) (λ h other. k.not_both h);
        own = put_all (λ h (c : Option (List Request)). reserves program t h ≡ false → (m.held h ≡ None) × (c ≡ None)) m.chunk r.object (Some (rs ++ r ∷ [])) (λ out. absurd (true≢false (sym fine.1 ∙ out))) (λ h other. k.own h);
        sound = sound_more (put (holding m) r.object false) (holding m) next less k.sound;
        on = k.on.1;
      }
    where
      here : IsCommand r.op → ClientLane t false (sent r.object) (got r.object) (part r.object (pg.trace ++ command_event r ∷ [])) (in_hand (m.held r.object) (Some (rs ++ r ∷ [])))
      here command =
          let old : ClientLane t false (sent r.object) (got r.object) (part r.object pg.trace) (sends rs) = subst (ClientLane t false (sent r.object) (got r.object) (part r.object pg.trace)) (ap₂ in_hand none some) (k.lanes r.object) in
          let new = lane_goes t false (sent r.object) (got r.object) (part r.object pg.trace) (sends rs) [] [] (command_event r ∷ []) (sends (rs ++ r ∷ [])) old (goes_put t rs r command) in
          subst (λ x. ClientLane t false (sent r.object) (got r.object) (part r.object (pg.trace ++ command_event r ∷ [])) (in_hand x (Some (rs ++ r ∷ [])))) (sym none)
          (subst (λ es. ClientLane t false (sent r.object) (got r.object) es (sends (rs ++ r ∷ []))) (sym (part_snoc_here r.object pg.trace (command_event r) refl))
          (subst (λ ps. ClientLane t false ps (got r.object) (part r.object pg.trace ++ command_event r ∷ []) (sends (rs ++ r ∷ []))) (append-nil (sent r.object))
          (subst (λ gs. ClientLane t false (sent r.object ++ []) gs (part r.object pg.trace ++ command_event r ∷ []) (sends (rs ++ r ∷ []))) (append-nil (got r.object)) new)))

      less : (h : ℕ) → put (holding m) r.object false h ≡ true → holding m h ≡ true
      less h = search (rules, holding, true≢false)

  -- a query is run on the object in hand
  ask_ready : (m : Client) (pg : BlockRecord) (r : Request) (next : ℤ → Synced) (x : HeldState) → m.held r.object ≡ Some x → Ready program t sent got m pg (Query r next)
      → Ready program t sent got (record m { held = put m.held r.object (Some (run_one x t r).0) }) (advance pg (event r (run_one x t r).1) (without_syncs (next (value_of (run_one x t r).1)))) (next (value_of (run_one x t r).1))
  ask_ready m pg r next x some k =
      let e = event r (run_one x t r).1 in
      let fine = subst (AsksOnly (reserves program t)) k.rest k.block_record.fine in
      record {
        block_record = record { path = leads_query (block_tree program t pg.entry) pg.trace e (λ v. without_syncs (next v)) (subst (Leads (block_tree program t pg.entry) pg.trace) k.rest k.block_record.path); fine = fine.2 (value_of (run_one x t r).1) };
        rest = refl;
        lanes = put_all (λ h (o : Option HeldState). ClientLane t false (sent h) (got h) (part h (pg.trace ++ e ∷ [])) (in_hand o (m.chunk h))) m.held r.object (Some (run_one x t r).0)
            here
            (λ h other. subst (λ es. ClientLane t false (sent h) (got h) es (in_hand (m.held h) (m.chunk h))) (sym (part_snoc_there h pg.trace e other)) (k.lanes h));
        not_both = put_all (λ h (o : Option HeldState). (o ≡ None) ⊎ (m.chunk h ≡ None)) m.held r.object (Some (run_one x t r).0) (inr (elim (k.not_both r.object) [ inl a ↦ absurd (cc (a, some)) | inr b ↦ b ])) (λ h other. k.not_both h);
        own = put_all (λ h (o : Option HeldState). reserves program t h ≡ false → (o ≡ None) × (m.chunk h ≡ None)) m.held r.object (Some (run_one x t r).0) (λ out. absurd (true≢false (sym fine.1 ∙ out))) (λ h other. k.own h);
        sound = sound_more (holding m) (holding (record m { held = put m.held r.object (Some (run_one x t r).0) })) (next (value_of (run_one x t r).1)) more (k.sound.1 (value_of (run_one x t r).1));
        on = k.on.1 (value_of (run_one x t r).1);
      }
    where
      here : ClientLane t false (sent r.object) (got r.object) (part r.object (pg.trace ++ event r (run_one x t r).1 ∷ [])) (holds (run_one x t r).0)
      here =
          let e = event r (run_one x t r).1 in
          let old : ClientLane t false (sent r.object) (got r.object) (part r.object pg.trace) (holds x) = subst (λ o. ClientLane t false (sent r.object) (got r.object) (part r.object pg.trace) (in_hand o (m.chunk r.object))) some (k.lanes r.object) in
          let new = lane_goes t false (sent r.object) (got r.object) (part r.object pg.trace) (holds x) [] [] (e ∷ []) (holds (run_one x t r).0) old (goes_ask t x r) in
          subst (λ es. ClientLane t false (sent r.object) (got r.object) es (holds (run_one x t r).0)) (sym (part_snoc_here r.object pg.trace e refl))
          (subst (λ ps. ClientLane t false ps (got r.object) (part r.object pg.trace ++ e ∷ []) (holds (run_one x t r).0)) (append-nil (sent r.object))
          (subst (λ gs. ClientLane t false (sent r.object ++ []) gs (part r.object pg.trace ++ e ∷ []) (holds (run_one x t r).0)) (append-nil (got r.object)) new))

      more : (h : ℕ) → holding m h ≡ true → is_some (put m.held r.object (Some (run_one x t r).0) h) ≡ true
      more h = search (rules, holding, is_some)

  order_ends : (m : Client) (pg : BlockRecord) (r : Request) (next : Synced) (hd : Option HeldState) (ck : Option (List Request)) → m.held r.object ≡ hd → m.chunk r.object ≡ ck → Ready program t sent got m pg (Call r next)
      → ((m : Client) (pg : BlockRecord) → Ready program t sent got m pg next → Ends pg (settle settings t (objects_of_block program t) next m))
      → Ends pg (call settings t (objects_of_block program t) m r next (λ m. settle settings t (objects_of_block program t) next m) hd ck)
  order_ends m pg r next None (Some rs) a b k ih = ends_event pg (command_event r) (without_syncs next) _ (by_case (length (rs ++ r ∷ []) == settings.size))
    where
      by_case : (x : Bool) → Ends (advance pg (command_event r) (without_syncs next)) (if x then stop_at (record m { chunk = put m.chunk r.object (Some (rs ++ r ∷ [])) }) (full r.object next) else settle settings t (objects_of_block program t) next (record m { chunk = put m.chunk r.object (Some (rs ++ r ∷ [])) }))
      by_case true = ends_stays (advance pg (command_event r) (without_syncs next)) (record m { chunk = put m.chunk r.object (Some (rs ++ r ∷ [])) }) (full r.object next) (ready_at (record m { chunk = put m.chunk r.object (Some (rs ++ r ∷ [])) }) (full r.object next) (advance pg (command_event r) (without_syncs next)) next (put_ready m pg r next rs a b k))
      by_case false = ih (record m { chunk = put m.chunk r.object (Some (rs ++ r ∷ [])) }) (advance pg (command_event r) (without_syncs next)) (put_ready m pg r next rs a b k)
  order_ends m pg r next _ _ a b k ih = ends_stays pg m (runs (Call r next)) (ready_at m (runs (Call r next)) pg (Call r next) k, tt)

  ask_ends : (m : Client) (pg : BlockRecord) (r : Request) (next : ℤ → Synced) (hd : Option HeldState) → m.held r.object ≡ hd → Ready program t sent got m pg (Query r next)
      → ((v : ℤ) (m : Client) (pg : BlockRecord) → Ready program t sent got m pg (next v) → Ends pg (settle settings t (objects_of_block program t) (next v) m))
      → Ends pg (query settings t (objects_of_block program t) m r next (λ v m. settle settings t (objects_of_block program t) (next v) m) hd)
  ask_ends m pg r next (Some x) a k ih =
      let v = (run_one x t r).1 in
      ends_event pg (event r v) (without_syncs (next (value_of v))) _ (ih (value_of v) (record m { held = put m.held r.object (Some (run_one x t r).0) }) (advance pg (event r v) (without_syncs (next (value_of v)))) (ask_ready m pg r next x a k))
  ask_ends m pg r next None a k ih = absurd (true≢false (sym k.sound.0 ∙ ap is_some a))

  sync_ends : (m : Client) (pg : BlockRecord) (h : ℕ) (next : Synced) → Ready program t sent got m pg (Sync h next) → (b : Bool) → (settings.dynamic && is_some (m.held h)) ≡ b
      → (Ready program t sent got m pg next → Ends pg (settle settings t (objects_of_block program t) next m)) → Ends pg (if b then settle settings t (objects_of_block program t) next m else stop_at m (runs (Sync h next)))
  sync_ends m pg h next k true e ih = search (rules, sound_more, holding, and_cases, is_some, put_there, num_cases)
  sync_ends m pg h next k false e ih = ends_stays pg m (runs (Sync h next)) (ready_at m (runs (Sync h next)) pg (Sync h next) k, tt)

  pub leaving_ends : (m : Client) (pg : BlockRecord) (l : Locals) (hs : List ℕ) → Leaving program t sent got m pg hs l → Ends pg (end_block settings t (objects_of_block program t) m hs l)
  leaving_ends m pg l v k = search (rules, ends_stays)

  pub settle_ends : (code : Synced) (m : Client) (pg : BlockRecord) → Ready program t sent got m pg code → Ends pg (settle settings t (objects_of_block program t) code m)
  settle_ends (Done l) m pg k = search (rules, leaving_ends)
  settle_ends (Call r next) m pg k = order_ends m pg r next (m.held r.object) (m.chunk r.object) refl refl k (settle_ends next)
  settle_ends (Sync h next) m pg k = sync_ends m pg h next k (settings.dynamic && is_some (m.held h)) refl (settle_ends next m pg)
  settle_ends (Query r next) m pg k = ask_ends m pg r next (m.held r.object) refl k (λ v. settle_ends (next v))
