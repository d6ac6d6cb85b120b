-- After each act of a client, and all the quiet work that follows it, the client still stands in its block as its lanes
-- say. The machine's invariant and the tale of a client's whole run take this from here (`sends_ok`, `gets_ok`,
-- `chunks_ok`, and `books_ok` where a block begins). The proof goes by cases on the client's stage and on what it has
-- in hand: first the act, then the quiet work.
use Rattle.std.proofs.Common.{◌≡◌, ℕ, suc, nat_lt, false, true≢false, List, [], ◌∷◌, ◌++◌, refl, sym, ap₂, subst, inl, Option, Some, None, rules, arith}
use Rattle.qs_played.proofs.Names.{HeldState, Ticket, Request, reserves, AsksOnly, block_tree, ProgramShape, put, Locals, BlockRecord}
use Rattle.qs_core_laws.proofs.Names.{Synced, Call, Sync, without_syncs, IsSoundSynced, IsOnReserved, ClientLane, Parcel, Send, Await, NeedChunk, Finished, Client, ClientStage, Settings, Settlement, between, runs, full, awaits, leaves, work, clear, call_act, act_at, act_of, settle, after_home, after_work, after_sync, after_end, after_parcel, take_chunk, begin}
use Rattle.qs_chunk.specs.declared.parcel.Parcel.TheVariants as parcels
use Rattle.qs_client.specs.audit.rules.Client as clients
use Rattle.qs_core_laws.proofs.protocol.ClientInvariants.{in_hand, holding, objects_of_block, Lined, Ready, Leaving, PlaceOk}
use Rattle.qs_core_laws.proofs.protocol.ActKinds.{outside_not_send, outside_not_await, outside_not_need, call_not_await, clears_not_await, full_not_await, clears_not_need, full_not_need}
use Rattle.qs_core_laws.proofs.protocol.SilentSteps.{sound_more, Ends, ends_stays, settle_ends, leaving_ends}
use Rattle.qs_core_laws.proofs.protocol.ClientActs.{home_ready, sound_order, sound_synced, work_ready, sync_waits, got_ready, chunk_ready, end_leaves, home_leaves, work_leaves}

-- where a parcel that was sent leaves a client, by its place
abbrev pub sent_from : Settings → Ticket → List ℕ → Client → ℕ → Parcel → ClientStage → Settlement
sent_from settings t names m h (parcels.Home x) pl = after_home settings t names m h pl
sent_from settings t names m h (parcels.Work chunk) pl = after_work settings t names m h pl
sent_from settings t names m h parcels.Sync pl = after_sync settings t names m pl
sent_from settings t names m h parcels.End pl = after_end settings t names m pl

moved_to : (P : ℕ → Parcel → Type 0) (g : ℕ) (q : Parcel) (h : ℕ) (parcel : Parcel) → Send g q ≡ Send h parcel → P g q → P h parcel
moved_to P g q h parcel e k = search rules

module _ (program : ProgramShape) (t : Ticket) (snt : ℕ → List Parcel) (got : ℕ → List HeldState) (settings : Settings) (lined : Lined (reserves program t) (objects_of_block program t)) (blocks : ℕ) where
  -- after a parcel to an object
  abbrev After : BlockRecord → Client → ClientStage → ℕ → Parcel → Type 0
  After pg m pl h parcel = Ends program t (put snt h (snt h ++ parcel ∷ [])) got settings lined pg (sent_from settings t (objects_of_block program t) m h parcel pl)

  order_sends : (m : Client) (pg : BlockRecord) (r : Request) (next : Synced) (hd : Option HeldState) (ck : Option (List Request)) → m.held r.object ≡ hd → m.chunk r.object ≡ ck → Ready program t snt got m pg (Call r next)
      → (h : ℕ) (parcel : Parcel) → call_act settings r.object hd ck ≡ Send h parcel → After pg m (runs (Call r next)) h parcel
  order_sends m pg r next (Some x) ck a b k h parcel e =
      moved_to (After pg m (runs (Call r next))) r.object (parcels.Home x) h parcel e
      (settle_ends program t (put snt r.object (snt r.object ++ parcels.Home x ∷ [])) got settings lined (Call r next) (record m { held = put m.held r.object None }) pg
      (home_ready program t snt got m pg (Call r next) r.object x a (sound_order program t snt got (holding m) r next k.sound) k))
  order_sends m pg r next None None a b k h parcel e = absurd (cc)
  order_sends m pg r next None (Some rs) a b k h parcel e =
      moved_to (After pg m (runs (Call r next))) r.object (work settings rs) h parcel e
      (settle_ends program t (put snt r.object (snt r.object ++ work settings rs ∷ [])) got settings lined (Call r next) (record m { chunk = put m.chunk r.object None }) pg
      (work_ready program t snt got settings m pg (Call r next) r.object rs b k))

  sync_sends : (m : Client) (pg : BlockRecord) (g : ℕ) (next : Synced) (hd : Option HeldState) (ck : Option (List Request)) → m.held g ≡ hd → m.chunk g ≡ ck → Ready program t snt got m pg (Sync g next)
      → (h : ℕ) (parcel : Parcel) → clear settings g hd ck (Send g parcels.Sync) ≡ Send h parcel → After pg m (runs (Sync g next)) h parcel
  sync_sends m pg g next (Some x) ck a b k h parcel e =
      moved_to (After pg m (runs (Sync g next))) g (parcels.Home x) h parcel e
      (settle_ends program t (put snt g (snt g ++ parcels.Home x ∷ [])) got settings lined (Sync g next) (record m { held = put m.held g None }) pg
      (home_ready program t snt got m pg (Sync g next) g x a (sound_synced program t snt got (holding m) g next k.sound) k))
  sync_sends m pg g next None (Some rs) a b k h parcel e =
      moved_to (After pg m (runs (Sync g next))) g (work settings rs) h parcel e
      (settle_ends program t (put snt g (snt g ++ work settings rs ∷ [])) got settings lined (Sync g next) (record m { chunk = put m.chunk g None }) pg
      (work_ready program t snt got settings m pg (Sync g next) g rs b k))
  sync_sends m pg g next None None a b k h parcel e =
      moved_to (After pg m (runs (Sync g next))) g parcels.Sync h parcel e
      (ends_stays program t (put snt g (snt g ++ parcels.Sync ∷ [])) got settings lined pg m (awaits g next)
      (let w = sync_waits program t snt got m pg g next a b k in
      record { block_record = w.block_record; rest = w.rest; lanes = w.lanes; not_both = w.not_both; held = w.held; chunk = w.chunk; own = w.own; at = w.at; sound = w.sound; on = w.on }))

  full_sends : (m : Client) (pg : BlockRecord) (g : ℕ) (code : Synced) (ck : Option (List Request)) → m.chunk g ≡ ck → Ready program t snt got m pg code
      → (h : ℕ) (parcel : Parcel) → clear settings g None ck Finished ≡ Send h parcel → After pg m (full g code) h parcel
  full_sends m pg g code (Some rs) b k h parcel e =
      moved_to (After pg m (full g code)) g (work settings rs) h parcel e
      (settle_ends program t (put snt g (snt g ++ work settings rs ∷ [])) got settings lined code (record m { chunk = put m.chunk g None }) pg
      (work_ready program t snt got settings m pg code g rs b k))
  full_sends m pg g code None b k h parcel e = absurd (cc)

  leaves_sends : (m : Client) (pg : BlockRecord) (g : ℕ) (hs : List ℕ) (l : Locals) (hd : Option HeldState) (ck : Option (List Request)) → m.held g ≡ hd → m.chunk g ≡ ck → Leaving program t snt got m pg (g ∷ hs) l
      → (h : ℕ) (parcel : Parcel) → clear settings g hd ck (Send g parcels.End) ≡ Send h parcel → After pg m (leaves g hs l) h parcel
  leaves_sends m pg g hs l (Some x) ck a b k h parcel e =
      moved_to (After pg m (leaves g hs l)) g (parcels.Home x) h parcel e
      (ends_stays program t (put snt g (snt g ++ parcels.Home x ∷ [])) got settings lined pg (record m { held = put m.held g None }) (leaves g hs l)
      (let w = home_leaves program t snt got m pg g hs l x a k in
      record { block_record = w.block_record; rest = w.rest; lanes = w.lanes; not_both = w.not_both; lined = w.lined; empty = w.empty }))
  leaves_sends m pg g hs l None (Some rs) a b k h parcel e =
      moved_to (After pg m (leaves g hs l)) g (work settings rs) h parcel e
      (ends_stays program t (put snt g (snt g ++ work settings rs ∷ [])) got settings lined pg (record m { chunk = put m.chunk g None }) (leaves g hs l)
      (let w = work_leaves program t snt got settings m pg g hs l rs b k in
      record { block_record = w.block_record; rest = w.rest; lanes = w.lanes; not_both = w.not_both; lined = w.lined; empty = w.empty }))
  leaves_sends m pg g hs l None None a b k h parcel e =
      moved_to (After pg m (leaves g hs l)) g parcels.End h parcel e
      (leaving_ends program t (put snt g (snt g ++ parcels.End ∷ [])) got settings lined m pg l hs (end_leaves program t snt got m pg g hs l a b k))

  sends_at : (m : Client) (pg : BlockRecord) (pl : ClientStage) → PlaceOk program t snt got m pg pl → (h : ℕ) (parcel : Parcel) → act_at settings blocks m pl ≡ Send h parcel → After pg m pl h parcel
  sends_at m pg (between l) k h parcel e = absurd (outside_not_send (nat_lt m.begun blocks) h parcel e)
  sends_at m pg (runs (Call r next)) k h parcel e = order_sends m pg r next (m.held r.object) (m.chunk r.object) refl refl k.0 h parcel e
  sends_at m pg (runs (Sync g next)) k h parcel e = sync_sends m pg g next (m.held g) (m.chunk g) refl refl k.0 h parcel e
  sends_at m pg (full g code) k h parcel e = full_sends m pg g code (m.chunk g) refl k h parcel e
  sends_at m pg (awaits g code) k h parcel e = absurd (cc)
  sends_at m pg (leaves g hs l) k h parcel e = leaves_sends m pg g hs l (m.held g) (m.chunk g) refl refl k h parcel e
  sends_at m pg (runs _) k h parcel e = absurd k.1

  from_is : (m : Client) (h : ℕ) (parcel : Parcel) → after_parcel settings t (objects_of_block program t) m h parcel ≡ sent_from settings t (objects_of_block program t) m h parcel m.stage
  from_is m h v = search rules

  -- a parcel that was sent
  pub sends_ok : (m : Client) (pg : BlockRecord) (h : ℕ) (parcel : Parcel) → PlaceOk program t snt got m pg m.stage → act_of settings blocks m ≡ Send h parcel
      → Ends program t (put snt h (snt h ++ parcel ∷ [])) got settings lined pg (after_parcel settings t (objects_of_block program t) m h parcel)
  sends_ok m pg h parcel k e = subst (Ends program t (put snt h (snt h ++ parcel ∷ [])) got settings lined pg) (sym (from_is m h parcel)) (sends_at m pg m.stage k h parcel e)

  gets_at : (m : Client) (pg : BlockRecord) (pl : ClientStage) (x : HeldState) → PlaceOk program t snt got m pg pl → (h : ℕ) → act_at settings blocks m pl ≡ Await h → Ends program t snt (put got h (got h ++ x ∷ [])) settings lined pg (clients.take_object settings t (objects_of_block program t) m x pl)
  gets_at m pg (between l) x k h e = absurd (outside_not_await (nat_lt m.begun blocks) h e)
  gets_at m pg (runs (Call r next)) x k h e = absurd (call_not_await settings r.object (m.held r.object) (m.chunk r.object) h e)
  gets_at m pg (runs (Sync g next)) x k h e = absurd (clears_not_await settings g (m.held g) (m.chunk g) parcels.Sync h e)
  gets_at m pg (full g code) x k h e = absurd (full_not_await settings g (m.chunk g) h e)
  gets_at m pg (awaits g code) x k h e =
      let is : g ≡ h = cc in
      subst (λ h. Ends program t snt (put got h (got h ++ x ∷ [])) settings lined pg (clients.take_object settings t (objects_of_block program t) m x (awaits g code))) is
      (settle_ends program t snt (put got g (got g ++ x ∷ [])) settings lined code (record m { held = put m.held g (Some x) }) pg (got_ready program t snt got m pg g code x k))
  gets_at m pg (leaves g hs l) x k h e = absurd (clears_not_await settings g (m.held g) (m.chunk g) parcels.End h e)
  gets_at m pg (runs _) x k h e = absurd k.1

  -- an object that came
  pub gets_ok : (m : Client) (pg : BlockRecord) (h : ℕ) (x : HeldState) → PlaceOk program t snt got m pg m.stage → act_of settings blocks m ≡ Await h
      → Ends program t snt (put got h (got h ++ x ∷ [])) settings lined pg (clients.take_object settings t (objects_of_block program t) m x m.stage)
  gets_ok m pg h x k e = gets_at m pg m.stage x k h e

  chunk_order : (m : Client) (pg : BlockRecord) (r : Request) (next : Synced) (hd : Option HeldState) (ck : Option (List Request)) → m.held r.object ≡ hd → m.chunk r.object ≡ ck → Ready program t snt got m pg (Call r next)
      → (h : ℕ) → call_act settings r.object hd ck ≡ NeedChunk h → Ends program t snt got settings lined pg (settle settings t (objects_of_block program t) (Call r next) (record m { chunk = put m.chunk h (Some []) }))
  chunk_order m pg r next None None a b k h e =
      let is : r.object ≡ h = cc in
      let fine = subst (AsksOnly (reserves program t)) k.rest k.block_record.fine in
      subst (λ h. Ends program t snt got settings lined pg (settle settings t (objects_of_block program t) (Call r next) (record m { chunk = put m.chunk h (Some []) }))) is
      (settle_ends program t snt got settings lined (Call r next) (record m { chunk = put m.chunk r.object (Some []) }) pg (chunk_ready program t snt got m pg (Call r next) r.object a b fine.1 k))
  chunk_order m pg r next _ _ a b k h e = absurd (cc)

  chunks_at : (m : Client) (pg : BlockRecord) (pl : ClientStage) → PlaceOk program t snt got m pg pl → (h : ℕ) → act_at settings blocks m pl ≡ NeedChunk h → Ends program t snt got settings lined pg (take_chunk settings t (objects_of_block program t) m h pl)
  chunks_at m pg pl k h e = search (rules, outside_not_need, chunk_order, clears_not_need, full_not_need)

  -- a chunk that came
  pub chunks_ok : (m : Client) (pg : BlockRecord) (h : ℕ) → PlaceOk program t snt got m pg m.stage → act_of settings blocks m ≡ NeedChunk h
      → Ends program t snt got settings lined pg (take_chunk settings t (objects_of_block program t) m h m.stage)
  chunks_ok m pg h k e = chunks_at m pg m.stage k h e

  -- a block begins: nothing was sent or got yet
  pub books_ok : (m : Client) (l : Locals) (code : Synced) → ((h : ℕ) → m.held h ≡ None) → ((h : ℕ) → m.chunk h ≡ None) → ((h : ℕ) → snt h ≡ []) → ((h : ℕ) → got h ≡ [])
      → without_syncs code ≡ block_tree program t l → AsksOnly (reserves program t) (block_tree program t l) → IsSoundSynced (λ h. false) code → IsOnReserved (objects_of_block program t) code
      → Ends program t snt got settings lined (record { entry = l; trace = []; rest = block_tree program t l }) (begin settings t (objects_of_block program t) m code)
  books_ok m l code nh nc ns ng e fine sound on =
      settle_ends program t snt got settings lined code (record m { begun = suc m.begun }) (record { entry = l; trace = []; rest = block_tree program t l })
      (record {
        block_record = record { path = refl; fine = fine };
        rest = sym e;
        lanes = search rules;
        not_both = λ h. inl (nh h);
        own = λ h out. (nh h, nc h);
        sound = sound_more (λ h. false) (holding (record m { begun = suc m.begun })) code (λ h e. absurd (true≢false (sym e))) sound;
        on = on;
      })
