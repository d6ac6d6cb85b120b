-- What one client did so far, block by block: for each block its block record, what it sent to each object and what it
-- got from it, and what each act adds to that. The last block is where the client stands; those before it are over.
use Rattle.std.proofs.Common.{◌≡◌, ◌<◌, ◌≤◌, arith, ℕ, zero, suc, true, false, if◌then◌else◌, ◌==◌, List, [], ◌∷◌, ◌++◌, refl, sym, ap, ap₂, ◌∙◌, subst, ⊎_elim, append-nil, rules}
use Rattle.qs_played.proofs.Names.{HeldState, Event, Ticket, apart_eqb, eqb_self, num_cases, ProgramShape, Locals, reserves, AsksOnly, block_tree, zeros, put, BlockRecord, Begins, IsDone, put_here, put_there, ticket}
use Rattle.qs_meaning.specs.audit.Interaction as tree
use Rattle.qs_core_laws.proofs.Names.{Synced, without_syncs, IsSoundSynced, IsOnReserved, Parcel, Client, Settings, Settlement, act_of, between, begin, after_parcel, take_chunk, Send, Await, NeedChunk, put_all, put_both, put_kept, upto, IsBlockHistory, HasNone}
use Rattle.qs_client.specs.audit.rules.Client as clients
use Rattle.qs_core_laws.proofs.protocol.ActObjects.{await_at, chunk_begun, got_begun, send_at, sent_begun, settle_begun}
use Rattle.qs_core_laws.proofs.protocol.BlockLists.{after_not, before_not, upto_more, upto_new}
use Rattle.qs_core_laws.proofs.protocol.ClientInvariants.{Leaving, Lined, PlaceOk, objects_of_block}
use Rattle.qs_core_laws.proofs.protocol.ClientLogs.{books_ok, chunks_ok, gets_ok, sends_ok}
use Rattle.qs_core_laws.proofs.protocol.SilentSteps.{Ends}

-- what is known of a block: its block record, what was sent to each object and what was got from it
pub record Block : Type 0 where
  pub block_record : BlockRecord
  pub sent : ℕ → List Parcel
  pub got : ℕ → List HeldState

abbrev pub block_with : BlockRecord → (ℕ → List Parcel) → (ℕ → List HeldState) → Block
block_with block_record sent got = record { block_record = block_record; sent = sent; got = got }

-- a client with so many blocks, in the midst of its run: the variables at entry and the trace of each block that it
-- began, and all that it sent and got
pub record BlockHistories (program : ProgramShape) (c blocks : ℕ) (m : Client) (entry : ℕ → Locals) (trace : ℕ → List Event)
    (sent : ℕ → List Parcel) (got : ℕ → List HeldState) : Type 0 where
  pub block : ℕ → Block
  pub within : m.begun ≤ blocks
  pub idle : m.begun ≡ 0 → (m.stage ≡ between zeros) × ((h : ℕ) → HasNone m h)
  pub last : (k : ℕ) → m.begun ≡ suc k → PlaceOk program (ticket c k) (block k).sent (block k).got m (block k).block_record m.stage
  pub older : (k : ℕ) → suc k < m.begun → IsBlockHistory program c k (block k).block_record (block k).sent (block k).got
  pub begins : (k : ℕ) → k < m.begun → Begins (λ (t : Ticket). (block t.index).block_record) c k (block k).block_record.entry
  pub outside : (k : ℕ) → k < m.begun → (h : ℕ) → reserves program (ticket c k) h ≡ false → ((block k).sent h ≡ []) × ((block k).got h ≡ [])
  pub entries : (k : ℕ) → k < m.begun → entry k ≡ (block k).block_record.entry
  pub traces : (k : ℕ) → k < m.begun → trace k ≡ (block k).block_record.trace
  pub fresh : (k : ℕ) → m.begun ≤ k → trace k ≡ []
  pub sent_is : (h : ℕ) → sent h ≡ upto (λ k. (block k).sent h) m.begun
  pub got_is : (h : ℕ) → got h ≡ upto (λ k. (block k).got h) m.begun

-- the same by other names
pub history_by : (program : ProgramShape) (c blocks : ℕ) (m : Client) (entry entry' : ℕ → Locals) (trace trace' : ℕ → List Event)
    (sent sent' : ℕ → List Parcel) (got got' : ℕ → List HeldState) → ((k : ℕ) → k < m.begun → entry k ≡ entry' k) → ((k : ℕ) → trace k ≡ trace' k)
    → ((h : ℕ) → sent h ≡ sent' h) → ((h : ℕ) → got h ≡ got' h)
    → BlockHistories program c blocks m entry trace sent got → BlockHistories program c blocks m entry' trace' sent' got'
history_by program c blocks m entry entry' trace trace' sent sent' got got' en tr se go o = search rules

-- before the first block
pub no_history : (program : ProgramShape) (c blocks : ℕ) (m : Client) (entry : ℕ → Locals) (trace : ℕ → List Event) → m.begun ≡ 0 → m.stage ≡ between zeros
    → ((h : ℕ) → HasNone m h) → ((k : ℕ) → trace k ≡ []) → BlockHistories program c blocks m entry trace (λ h. []) (λ h. [])
no_history program c blocks m entry trace none at hands empty = record {
  block = λ k. block_with (record { entry = []; trace = []; rest = tree.Done [] }) (λ h. []) (λ h. []);
  within = omega (arith, none);
  idle = λ e. (at, hands);
  last = λ k e. absurd (omega (arith, none, e));
  older = λ k lt. absurd (omega (arith, none, lt));
  begins = λ k lt. absurd (omega (arith, none, lt));
  outside = λ k lt. absurd (omega (arith, none, lt));
  entries = λ k lt. absurd (omega (arith, none, lt));
  traces = λ k lt. absurd (omega (arith, none, lt));
  fresh = λ k low. empty k;
  sent_is = λ h. sym (ap (upto (λ k. [])) none);
  got_is = λ h. sym (ap (upto (λ k. [])) none);
}

-- a block begins with what the one before it left, whatever becomes of that block's own block record
begins_still : (block : ℕ → Block) (c k : ℕ) (new : Block) (j : ℕ) (l : Locals) → j ≤ k
    → Begins (λ (t : Ticket). (block t.index).block_record) c j l → Begins (λ (t : Ticket). (put block k new t.index).block_record) c j l
begins_still block c k new v l low b = grind (arith, put_there, after_not)

module _ (program : ProgramShape) (c blocks : ℕ) (settings : Settings) (m : Client) (entry : ℕ → Locals) (trace : ℕ → List Event)
    (snt : ℕ → List Parcel) (got : ℕ → List HeldState) (o : BlockHistories program c blocks m entry trace snt got) where
  -- between blocks all that were begun are over, the next begins with these variables, and nothing is in hand
  pub record Rests (l : Locals) (n : ℕ) : Type 0 where
    pub next : Begins (λ (t : Ticket). (o.block t.index).block_record) c n l
    pub hands : (h : ℕ) → HasNone m h
    pub over : (k : ℕ) → k < n → IsBlockHistory program c k (o.block k).block_record (o.block k).sent (o.block k).got

  pub rests : (l : Locals) → m.stage ≡ between l → (n : ℕ) → m.begun ≡ n → Rests l n
  rests l at zero e = grind (arith, o)
  rests l at (suc k) e =
      let b = o.block k in
      let ok : Leaving program (ticket c k) b.sent b.got m b.block_record [] l = subst (PlaceOk program (ticket c k) b.sent b.got m b.block_record) at (o.last k e) in
      record {
        next = ok.rest;
        hands = λ h. ok.empty h refl;
        over = grind (arith, o, apart_eqb, num_cases);
      }

  -- it did something in the block that it is in
  module _ (k : ℕ) (e : m.begun ≡ suc k) (r : Settlement) (still : r.client.begun ≡ m.begun) (new : Block)
      (more : ℕ → List Parcel) (came : ℕ → List HeldState) where
    pub within_block : new.block_record.entry ≡ (o.block k).block_record.entry → new.block_record.trace ≡ (o.block k).block_record.trace ++ r.events
        → PlaceOk program (ticket c k) new.sent new.got r.client new.block_record r.client.stage
        → ((h : ℕ) → new.sent h ≡ (o.block k).sent h ++ more h) → ((h : ℕ) → new.got h ≡ (o.block k).got h ++ came h)
        → ((h : ℕ) → reserves program (ticket c k) h ≡ false → (more h ≡ []) × (came h ≡ []))
        → BlockHistories program c blocks r.client entry (put trace k (trace k ++ r.events)) (λ h. snt h ++ more h) (λ h. got h ++ came h)
    within_block same_entry trace_is ok sent_more got_more none =
        let n : r.client.begun ≡ suc k = still ∙ e in
        record {
          block = put o.block k new;
          within = let w = o.within in omega (arith, w, still);
          idle = λ z. absurd (omega (arith, n, z));
          last = grind (arith, o, put_here);
          older = grind (arith, put_there, o, after_not);
          begins = grind (arith, o, put_kept, begins_still);
          outside = grind (arith, put_all, o);
          entries = λ j lt. o.entries j (omega (arith, still, lt)) ∙ sym (put_kept (λ (b : Block). b.block_record.entry) o.block k new same_entry j);
          traces = grind (arith, put_both, o);
          fresh = grind (arith, put_there, before_not, o);
          sent_is = λ h.
              ap (λ x. x ++ more h) (o.sent_is h ∙ ap (upto (λ k. (o.block k).sent h)) e)
              ∙ (sym (upto_more (λ (b : Block). b.sent h) o.block k new (more h) (sent_more h)) ∙ ap (upto (λ j. (put o.block k new j).sent h)) (sym n));
          got_is = λ h.
              ap (λ x. x ++ came h) (o.got_is h ∙ ap (upto (λ k. (o.block k).got h)) e)
              ∙ (sym (upto_more (λ (b : Block). b.got h) o.block k new (came h) (got_more h)) ∙ ap (upto (λ j. (put o.block k new j).got h)) (sym n));
        }

  -- its next block begins
  pub with_block : (l : Locals) → m.stage ≡ between l → m.begun < blocks → (r : Settlement) (new : Block) → r.client.begun ≡ suc m.begun
      → new.block_record.entry ≡ l → new.block_record.trace ≡ r.events → PlaceOk program (ticket c m.begun) new.sent new.got r.client new.block_record r.client.stage
      → ((h : ℕ) → new.sent h ≡ []) → ((h : ℕ) → new.got h ≡ [])
      → BlockHistories program c blocks r.client (put entry m.begun l) (put trace m.begun (trace m.begun ++ r.events)) snt got
  with_block l at less r new n entry_is trace_is ok none_sent none_got =
      let k = m.begun in
      let before = rests l at k refl in
      record {
        block = put o.block k new;
        within = omega (arith, less, n);
        idle = λ z. absurd (omega (arith, n, z));
        last = grind (arith, o, put_here);
        older = grind (arith, put_there, o, after_not);
        begins = search (rules, put_all, o, begins_still, apart_eqb);
        outside = grind (arith, put_all, o, apart_eqb);
        entries = grind (arith, put_both, o, apart_eqb);
        traces = grind (arith, put_both, o, apart_eqb);
        fresh = grind (arith, put_there, before_not, o);
        sent_is = λ h. o.sent_is h
            ∙ (sym (upto_new (λ (b : Block). b.sent h) o.block k new (none_sent h)) ∙ ap (upto (λ j. (put o.block k new j).sent h)) (sym n));
        got_is = λ h. o.got_is h
            ∙ (sym (upto_new (λ (b : Block). b.got h) o.block k new (none_got h)) ∙ ap (upto (λ j. (put o.block k new j).got h)) (sym n));
      }

-- a list with one more at a place
one_more : {A : Type 0} (f : ℕ → List A) (a : ℕ) (x : A) (h : ℕ) → put f a (f a ++ x ∷ []) h ≡ f h ++ (if a == h then x ∷ [] else [])
one_more f a x h = search (rules, put_here, eqb_self, put_there, append-nil, num_cases)

-- none at a place that is not reserved
only_reserved : {A : Type 0} (program : ProgramShape) (t : Ticket) (a h : ℕ) (xs : List A) → reserves program t a ≡ true → reserves program t h ≡ false
    → (if a == h then xs else []) ≡ []
only_reserved program t a h xs mine free = search (rules, num_cases)

module _ (program : ProgramShape) (fine : (t : Ticket) (l : Locals) → AsksOnly (reserves program t) (block_tree program t l))
    (lined : (t : Ticket) → Lined (reserves program t) (objects_of_block program t)) (c blocks : ℕ) (settings : Settings) (m : Client)
    (entry : ℕ → Locals) (trace : ℕ → List Event) (snt : ℕ → List Parcel) (got : ℕ → List HeldState)
    (o : BlockHistories program c blocks m entry trace snt got) where
  -- what it came to in block k, with what it sent and got
  abbrev pub Comes : ℕ → Settlement → (ℕ → List Parcel) → (ℕ → List HeldState) → Type 0
  Comes k r more came = BlockHistories program c blocks r.client entry (put trace k (trace k ++ r.events)) (λ h. snt h ++ more h) (λ h. got h ++ came h)

  -- it is in a block, where its act is none of those between blocks
  pub in_block : ((l : Locals) → m.stage ≡ between l → ⊥) → (k : ℕ) × (m.begun ≡ suc k)
  in_block inside = by_number m.begun refl
    where
      by_number : (n : ℕ) → m.begun ≡ n → (k : ℕ) × (m.begun ≡ suc k)
      by_number zero e = absurd (inside zeros (o.idle e).0)
      by_number (suc k) e = (k, e)

  within_ends : (k : ℕ) → m.begun ≡ suc k → (r : Settlement) → r.client.begun ≡ m.begun → (S : ℕ → List Parcel) (G : ℕ → List HeldState)
      (more : ℕ → List Parcel) (came : ℕ → List HeldState)
      → ((h : ℕ) → S h ≡ (o.block k).sent h ++ more h) → ((h : ℕ) → G h ≡ (o.block k).got h ++ came h)
      → ((h : ℕ) → reserves program (ticket c k) h ≡ false → (more h ≡ []) × (came h ≡ []))
      → Ends program (ticket c k) S G settings (lined (ticket c k)) (o.block k).block_record r → Comes k r more came
  within_ends k e r still S G more came sent_more got_more none ends =
      within_block program c blocks settings m entry trace snt got o k e r still (block_with ends.0 S G) more came ends.1 ends.2 ends.3 sent_more got_more none

  pub history_sent : (k : ℕ) → m.begun ≡ suc k → (a : ℕ) (p : Parcel) → act_of settings blocks m ≡ Send a p
      → Comes k (after_parcel settings (ticket c k) (objects_of_block program (ticket c k)) m a p) (λ h. if a == h then p ∷ [] else []) (λ h. [])
  history_sent k e a p act =
      let t = ticket c k in
      let b = o.block k in
      let ok = o.last k e in
      let mine = (send_at program t b.sent b.got settings blocks m b.block_record m.stage ok a p act).0 in
      within_ends k e (after_parcel settings t (objects_of_block program t) m a p) (sent_begun settings t (objects_of_block program t) m a p)
      (put b.sent a (b.sent a ++ p ∷ [])) b.got (λ h. if a == h then p ∷ [] else []) (λ h. [])
      (one_more b.sent a p) (λ h. sym (append-nil (b.got h))) (λ h no. (only_reserved program t a h (p ∷ []) mine no, refl))
      (sends_ok program t b.sent b.got settings (lined t) blocks m b.block_record a p ok act)

  pub history_got : (k : ℕ) → m.begun ≡ suc k → (a : ℕ) (x : HeldState) → act_of settings blocks m ≡ Await a
      → Comes k (clients.take_object settings (ticket c k) (objects_of_block program (ticket c k)) m x m.stage) (λ h. []) (λ h. if a == h then x ∷ [] else [])
  history_got k e a x act =
      let t = ticket c k in
      let b = o.block k in
      let ok = o.last k e in
      let mine = (await_at program t b.sent b.got settings blocks m b.block_record m.stage ok a act).0 in
      within_ends k e (clients.take_object settings t (objects_of_block program t) m x m.stage) (got_begun settings t (objects_of_block program t) m a x m.stage)
      b.sent (put b.got a (b.got a ++ x ∷ [])) (λ h. []) (λ h. if a == h then x ∷ [] else [])
      (λ h. sym (append-nil (b.sent h))) (one_more b.got a x) (λ h no. (refl, only_reserved program t a h (x ∷ []) mine no))
      (gets_ok program t b.sent b.got settings (lined t) blocks m b.block_record a x ok act)

  pub history_with_chunk : (k : ℕ) → m.begun ≡ suc k → (a : ℕ) → act_of settings blocks m ≡ NeedChunk a
      → Comes k (take_chunk settings (ticket c k) (objects_of_block program (ticket c k)) m a m.stage) (λ h. []) (λ h. [])
  history_with_chunk k e a act =
      let t = ticket c k in
      let b = o.block k in
      let ok = o.last k e in
      within_ends k e (take_chunk settings t (objects_of_block program t) m a m.stage) (chunk_begun settings t (objects_of_block program t) m a m.stage)
      b.sent b.got (λ h. []) (λ h. []) (λ h. sym (append-nil (b.sent h))) (λ h. sym (append-nil (b.got h))) (λ h no. (refl, refl))
      (chunks_ok program t b.sent b.got settings (lined t) blocks m b.block_record a ok act)

  -- the next block, whose code is this
  pub history_reserved : (l : Locals) → m.stage ≡ between l → m.begun < blocks → (code : Synced)
      → without_syncs code ≡ block_tree program (ticket c m.begun) l → IsSoundSynced (λ h. false) code → IsOnReserved (objects_of_block program (ticket c m.begun)) code
      → let r = begin settings (ticket c m.begun) (objects_of_block program (ticket c m.begun)) m code in
      BlockHistories program c blocks r.client (put entry m.begun l) (put trace m.begun (trace m.begun ++ r.events)) snt got
  history_reserved l at less code is_tree sound on =
      let t = ticket c m.begun in
      let r = begin settings t (objects_of_block program t) m code in
      let hands = (rests program c blocks settings m entry trace snt got o l at m.begun refl).hands in
      let ends = books_ok program t (λ h. []) (λ h. []) settings (lined t) blocks m l code (λ h. (hands h).0) (λ h. (hands h).1) (λ h. refl) (λ h. refl)
      is_tree (fine t l) sound on in
      with_block program c blocks settings m entry trace snt got o l at less r (block_with ends.0 (λ h. []) (λ h. []))
      (settle_begun settings t (objects_of_block program t) code (record m { begun = suc m.begun })) ends.1 ends.2 ends.3 (λ h. refl) (λ h. refl)
