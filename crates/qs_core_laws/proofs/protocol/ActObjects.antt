-- Whatever a client sends, awaits or needs a chunk for in its block is of an object that the block reserves; only
-- between blocks does it reserve; and nothing that it does to its own values begins a block. The proofs on steps of the
-- machine and of threads need this. They go by cases on where the client stands (`PlaceOk`), and for its quiet moves by
-- induction on its block's tree.
use Rattle.std.proofs.Common.{◌≡◌, ℕ, nat_lt, Bool, true, false, if◌then◌else◌, ◌&&◌, is_some, List, [], ◌∷◌, refl, sym, ap, ◌∙◌, subst, Option, Some, None, ℤ, rules, arith}
use Rattle.qs_played.proofs.Names.{HeldState, run_one, Ticket, Request, eqb_self, reserves, AsksOnly, ProgramShape, put, value_of, is_in, Locals, BlockRecord}
use Rattle.qs_graph.specs.audit.Synced.{Synced, Done, Call, Sync, Query}
use Rattle.qs_core_laws.proofs.Names.{asks, gone, Parcel, Reserve, Send, Await, NeedChunk, Finished, Client, ClientStage, Settings, between, runs, full, awaits, leaves, stop_at, act_at, act_of, end_block, call, query, settle, after_home, after_work, after_sync, after_end, after_parcel, take_chunk, apart_from}
use Rattle.qs_chunk.specs.declared.parcel.Parcel.TheVariants as parcels
use Rattle.qs_client.specs.audit.rules.Client as clients
use Rattle.qs_core_laws.proofs.protocol.ClientInvariants.{in_hand, PlaceOk, standing_at}
use Rattle.qs_core_laws.proofs.protocol.ActKinds.{outside_not_send, outside_not_await, outside_not_need, call_object, clears_object, full_object, need_object, call_not_await, clears_not_await, full_not_await, clears_not_need, full_not_need, call_not_reserve, clears_not_reserve, full_not_reserve, in_hand_gone}

or_true : (b : Bool) → (b ≡ false → ⊥) → b ≡ true
or_true v n = search rules

pub between_acts : (settings : Settings) (blocks : ℕ) (m : Client) (l : Locals) → m.stage ≡ between l → act_of settings blocks m ≡ (if nat_lt m.begun blocks then Reserve else Finished)
between_acts settings blocks m l e = ap (act_at settings blocks m) e

-- a client that has begun nothing only reserves
pub not_send : (settings : Settings) (blocks : ℕ) (m : Client) (l : Locals) (h : ℕ) (parcel : Parcel) → m.stage ≡ between l → act_of settings blocks m ≡ Send h parcel → ⊥
not_send settings blocks m l h parcel e a = outside_not_send (nat_lt m.begun blocks) h parcel (sym (between_acts settings blocks m l e) ∙ a)

pub not_await : (settings : Settings) (blocks : ℕ) (m : Client) (l : Locals) (h : ℕ) → m.stage ≡ between l → act_of settings blocks m ≡ Await h → ⊥
not_await settings blocks m l h e a = outside_not_await (nat_lt m.begun blocks) h (sym (between_acts settings blocks m l e) ∙ a)

pub not_need : (settings : Settings) (blocks : ℕ) (m : Client) (l : Locals) (h : ℕ) → m.stage ≡ between l → act_of settings blocks m ≡ NeedChunk h → ⊥
not_need settings blocks m l h e a = outside_not_need (nat_lt m.begun blocks) h (sym (between_acts settings blocks m l e) ∙ a)

module _ (program : ProgramShape) (t : Ticket) (snt : ℕ → List Parcel) (got : ℕ → List HeldState) (settings : Settings) (blocks : ℕ) where
  -- what is sent goes to a reserved object that isn't left yet
  pub send_at : (m : Client) (pg : BlockRecord) (pl : ClientStage) → PlaceOk program t snt got m pg pl → (h : ℕ) (parcel : Parcel) → act_at settings blocks m pl ≡ Send h parcel → (reserves program t h ≡ true) × (standing_at program t m pl h ≡ gone → ⊥)
  send_at m pg (between l) k h parcel e = absurd (outside_not_send (nat_lt m.begun blocks) h parcel e)
  send_at m pg (runs (Call r next)) k h parcel e = search (rules, call_object, in_hand_gone)
  send_at m pg (runs (Sync g next)) k h parcel e = search (rules, clears_object, in_hand_gone)
  send_at m pg (full g code) k h parcel e = search (rules, full_object, or_true, in_hand_gone)
  send_at m pg (awaits g code) k h parcel e = absurd (cc)
  send_at m pg (leaves g hs l) k h parcel e = search (rules, clears_object, eqb_self, in_hand_gone)
  send_at m pg (runs _) k h parcel e = absurd k.1

  -- what is awaited was asked for
  pub await_at : (m : Client) (pg : BlockRecord) (pl : ClientStage) → PlaceOk program t snt got m pg pl → (h : ℕ) → act_at settings blocks m pl ≡ Await h → (reserves program t h ≡ true) × (standing_at program t m pl h ≡ asks)
  await_at m pg pl k h e = search (rules, outside_not_await, call_not_await, clears_not_await, full_not_await, in_hand, eqb_self)

  -- a chunk is taken of a reserved object's lane
  pub need_at : (m : Client) (pg : BlockRecord) (pl : ClientStage) → PlaceOk program t snt got m pg pl → (h : ℕ) → act_at settings blocks m pl ≡ NeedChunk h → reserves program t h ≡ true
  need_at m pg pl k h e = search (rules, outside_not_need, need_object, clears_not_need, full_not_need)

  -- who reserves is between blocks
  pub reserve_at : (m : Client) (pg : BlockRecord) (pl : ClientStage) → PlaceOk program t snt got m pg pl → act_at settings blocks m pl ≡ Reserve → (l : Locals) × (pl ≡ between l)
  reserve_at m pg pl k e = search (rules, call_not_reserve, clears_not_reserve, full_not_reserve)

-- what a client does to its own values begins no block
module _ (settings : Settings) (t : Ticket) (names : List ℕ) where
  leaving_begun : (m : Client) (hs : List ℕ) (l : Locals) → (end_block settings t names m hs l).client.begun ≡ m.begun
  leaving_begun m v l = search rules

  order_begun : (m : Client) (r : Request) (next : Synced) (hd : Option HeldState) (ck : Option (List Request)) → ((m : Client) → (settle settings t names next m).client.begun ≡ m.begun)
      → (call settings t names m r next (λ m. settle settings t names next m) hd ck).client.begun ≡ m.begun
  order_begun m r next hd ck ih = search rules

  ask_begun : (m : Client) (r : Request) (next : ℤ → Synced) (hd : Option HeldState) → ((v : ℤ) (m : Client) → (settle settings t names (next v) m).client.begun ≡ m.begun)
      → (query settings t names m r next (λ v m. settle settings t names (next v) m) hd).client.begun ≡ m.begun
  ask_begun m r next v ih = search rules

  sync_begun : (m : Client) (h : ℕ) (next : Synced) (b : Bool) → ((m : Client) → (settle settings t names next m).client.begun ≡ m.begun) → (if b then settle settings t names next m else stop_at m (runs (Sync h next))).client.begun ≡ m.begun
  sync_begun m h next v ih = search rules

  pub settle_begun : (code : Synced) (m : Client) → (settle settings t names code m).client.begun ≡ m.begun
  settle_begun (Done l) m = leaving_begun m names l
  settle_begun (Call r next) m = order_begun m r next (m.held r.object) (m.chunk r.object) (λ m. settle_begun next m)
  settle_begun (Sync h next) m = sync_begun m h next (settings.dynamic && is_some (m.held h)) (λ m. settle_begun next m)
  settle_begun (Query r next) m = ask_begun m r next (m.held r.object) (λ v m. settle_begun (next v) m)

  home_begun : (m : Client) (h : ℕ) (pl : ClientStage) → (after_home settings t names m h pl).client.begun ≡ m.begun
  home_begun m h v = search (rules, settle_begun)

  work_begun : (m : Client) (h : ℕ) (pl : ClientStage) → (after_work settings t names m h pl).client.begun ≡ m.begun
  work_begun m h v = search (rules, settle_begun)

  sync_sent_begun : (m : Client) (pl : ClientStage) → (after_sync settings t names m pl).client.begun ≡ m.begun
  sync_sent_begun m v = search rules

  end_begun : (m : Client) (pl : ClientStage) → (after_end settings t names m pl).client.begun ≡ m.begun
  end_begun m v = search (rules, leaving_begun)

  pub sent_begun : (m : Client) (h : ℕ) (parcel : Parcel) → (after_parcel settings t names m h parcel).client.begun ≡ m.begun
  sent_begun m h parcel = search (rules, home_begun, work_begun, sync_sent_begun, end_begun)

  pub got_begun : (m : Client) (h : ℕ) (x : HeldState) (pl : ClientStage) → (clients.take_object settings t names m x pl).client.begun ≡ m.begun
  got_begun m h x v = search (rules, settle_begun)

  pub chunk_begun : (m : Client) (h : ℕ) (pl : ClientStage) → (take_chunk settings t names m h pl).client.begun ≡ m.begun
  chunk_begun m h v = search (rules, settle_begun)
