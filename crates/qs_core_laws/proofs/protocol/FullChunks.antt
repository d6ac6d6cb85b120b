-- A client that stands with a full chunk has that chunk: so where it asks for nothing more it is between blocks.
use Rattle.std.proofs.Common.{◌≡◌, ◌<◌, ◌≤◌, ℕ, Bool, true, false, if◌then◌else◌, ◌&&◌, is_some, List, [], ◌∷◌, Option, Some, None, ℤ, rules, arith}
use Rattle.qs_core_laws.proofs.Names.{nat_tests, Parcel, Reserve, Send, Finished, Client, ClientStage, Settings, Settlement, between, runs, full, awaits, leaves, act_at, call_act, call, clear, end_block, query, after_parcel, after_end, after_home, after_sync, after_work, settle, stop_at, take_chunk}
use Rattle.qs_played.proofs.Names.{HeldState, run_one, Ticket, Request, ProgramShape, Locals, put, value_of, BlockRecord, put_here}
use Rattle.qs_graph.specs.audit.Synced.{Synced, Done, Call, Sync, Query}
use Rattle.qs_client.specs.audit.rules.Client as clients
use Rattle.qs_core_laws.proofs.protocol.ActObjects.{between_acts}
use Rattle.qs_core_laws.proofs.protocol.ClientInvariants.{PlaceOk}

abbrev pub HasFull : Client → ClientStage → Type 0
HasFull m (full h rest) = is_some (m.chunk h) ≡ true
HasFull m _ = Unit {0}

abbrev pub ComesFull : Settlement → Type 0
ComesFull r = HasFull r.client r.client.stage

module _ (settings : Settings) (t : Ticket) (names : List ℕ) where
  leaving_full : (m : Client) (hs : List ℕ) (l : Locals) → ComesFull (end_block settings t names m hs l)
  leaving_full m v l = search rules

  call_full : (m : Client) (r : Request) (next : Synced) (hd : Option HeldState) (ck : Option (List Request))
      → ((m : Client) → ComesFull (settle settings t names next m)) → ComesFull (call settings t names m r next (λ m. settle settings t names next m) hd ck)
  call_full m r next hd ck ih = search (rules, put_here)

  query_full : (m : Client) (r : Request) (next : ℤ → Synced) (hd : Option HeldState) → ((v : ℤ) (m : Client) → ComesFull (settle settings t names (next v) m))
      → ComesFull (query settings t names m r next (λ v m. settle settings t names (next v) m) hd)
  query_full m r next v ih = search rules

  sync_full : (m : Client) (h : ℕ) (next : Synced) (b : Bool) → ((m : Client) → ComesFull (settle settings t names next m))
      → ComesFull (if b then settle settings t names next m else stop_at m (runs (Sync h next)))
  sync_full m h next v ih = search rules

  pub settle_full : (code : Synced) (m : Client) → ComesFull (settle settings t names code m)
  settle_full (Done l) m = leaving_full m names l
  settle_full (Call r next) m = call_full m r next (m.held r.object) (m.chunk r.object) (λ m. settle_full next m)
  settle_full (Sync h next) m = sync_full m h next (settings.dynamic && is_some (m.held h)) (λ m. settle_full next m)
  settle_full (Query r next) m = query_full m r next (m.held r.object) (λ v m. settle_full (next v) m)

  home_full : (m : Client) (h : ℕ) (pl : ClientStage) → HasFull m pl → ComesFull (after_home settings t names m h pl)
  home_full m h v k = search (rules, settle_full)

  work_full : (m : Client) (h : ℕ) (pl : ClientStage) → HasFull m pl → ComesFull (after_work settings t names m h pl)
  work_full m h v k = search (rules, settle_full)

  sync_sent_full : (m : Client) (pl : ClientStage) → HasFull m pl → ComesFull (after_sync settings t names m pl)
  sync_sent_full m v k = search rules

  end_full : (m : Client) (pl : ClientStage) → HasFull m pl → ComesFull (after_end settings t names m pl)
  end_full m v k = search (rules, leaving_full)

  pub sent_full : (m : Client) (h : ℕ) (parcel : Parcel) → HasFull m m.stage → ComesFull (after_parcel settings t names m h parcel)
  sent_full m h parcel k = search (rules, home_full, work_full, sync_sent_full, end_full)

  pub got_full : (m : Client) (x : HeldState) (pl : ClientStage) → HasFull m pl → ComesFull (clients.take_object settings t names m x pl)
  got_full m x v k = search (rules, settle_full)

  pub chunk_full : (m : Client) (h : ℕ) (pl : ClientStage) → HasFull m pl → ComesFull (take_chunk settings t names m h pl)
  chunk_full m h v k = search (rules, settle_full)

-- no act in a block is the last
module _ (settings : Settings) where
  call_not_last : (h : ℕ) (hd : Option HeldState) (ck : Option (List Request)) → call_act settings h hd ck ≡ Finished → ⊥
  call_not_last h v w e = search rules

  clears_not_last : (h : ℕ) (hd : Option HeldState) (ck : Option (List Request)) (parcel : Parcel) → clear settings h hd ck (Send h parcel) ≡ Finished → ⊥
  clears_not_last h v w parcel e = search rules

  full_not_last : (h : ℕ) (ck : Option (List Request)) → is_some ck ≡ true → clear settings h None ck Finished ≡ Finished → ⊥
  full_not_last h v some e = search rules

-- who asks for nothing more is between blocks
pub finished_at : (program : ProgramShape) (t : Ticket) (snt : ℕ → List Parcel) (got : ℕ → List HeldState) (settings : Settings) (blocks : ℕ)
    (m : Client) (pg : BlockRecord) (pl : ClientStage) → PlaceOk program t snt got m pg pl → HasFull m pl → act_at settings blocks m pl ≡ Finished
    → (l : Locals) × (pl ≡ between l)
finished_at program t snt got settings blocks m pg pl k some e = search (rules, call_not_last, clears_not_last, full_not_last)

-- between blocks it reserves where a block is left, and is finished where none is
pub reserves_more : (settings : Settings) (blocks : ℕ) (m : Client) (l : Locals) → m.stage ≡ between l
    → clients.act_of settings blocks m ≡ Reserve → m.begun < blocks
reserves_more settings blocks m l at act = search (rules, between_acts, nat_tests)

pub finished_all : (settings : Settings) (blocks : ℕ) (m : Client) (l : Locals) → m.stage ≡ between l
    → clients.act_of settings blocks m ≡ Finished → blocks ≤ m.begun
finished_all settings blocks m l at act = search (rules, between_acts, nat_tests)
