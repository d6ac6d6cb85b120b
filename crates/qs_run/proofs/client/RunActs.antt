-- What a client asks for in the midst of its run can be had. It is read off the client's tale so far: the block that it
-- is in, with what that block sent and got; and off how it stands to each lane.
use Rattle.std.proofs.Common.{◌≡◌, ◌<◌, arith, ℕ, true, false, List, [], length, replicate, refl, subst, Some, rules}
use Rattle.qs_played.proofs.Names.{length-replicate, ProgramShape, blocks_of, Locals, reserves, block_tree, blocks_ask_only}
use Rattle.qs_core_laws.proofs.Names.{without_syncs, ClientCode, code_at, IsSoundSynced, IsOnReserved, is_asked, MayFollow, Parcel, longest, Act, Deed, reservations, sent_to, ClientModel, finish, fresh_mind, next_act, tree_at, longest_covers}
use Rattle.qs_syncset.proofs.CodeWalks.{walks_are_sound}
use Rattle.qs_client.specs.declared.rules.act.Act.TheVariants as acts
use Rattle.qs_client.proofs.LaneSends.{client_lane_laws}
use Rattle.qs_desk.specs.Tickets.{ticket}
use Rattle.qs_core_laws.proofs.protocol.ClientInvariants.{objects_of_block}
use Rattle.qs_core_laws.proofs.protocol.ClientHistories.{InClientHistory, in_tale, reserves_between}
use Rattle.qs_core_laws.proofs.protocol.DeedLanes.{stands_along}
use Rattle.qs_core_laws.proofs.protocol.ReservedActs.{await_reserved, need_reserved, send_reserved}
use Rattle.qs_core_laws.proofs.protocol.ReservedLists.{lined}
use Rattle.qs_run.specs.client.RunActs.{IsMidRun, RunActLaws, lane_of}

module _ (p : ProgramShape) (c : ℕ) (code : ClientCode) (size : ℕ) (deeds : List Deed) (m : ClientModel) (run : IsMidRun p c code size deeds m) where
  inside : (k : ℕ) → k < length code.blocks → k < blocks_of p c
  inside k few = let n = run.of.count in omega (arith, few, n)

  own_list : (k : ℕ) → k < length code.blocks → (code_at code k).reserved ≡ objects_of_block p (ticket c k)
  own_list k few = (run.of.blocks k (inside k few)).reserved

  own_walk : (k : ℕ) (l : Locals) → k < length code.blocks
      → (without_syncs (tree_at code k l) ≡ block_tree p (ticket c k) l) × IsSoundSynced (λ h. false) (tree_at code k l)
      × IsOnReserved (objects_of_block p (ticket c k)) (tree_at code k l)
  own_walk k l few =
      let counts : List ℕ = replicate (longest code.blocks) 0 in
      let long : length counts ≡ longest code.blocks = length-replicate (longest code.blocks) 0 in
      let w = walks_are_sound p run.mode c code run.sound run.of k l counts (inside k few) (omega (arith, long, longest_covers code.blocks k)) in
      (w.tree, w.sound, w.reserved)

  -- what it did so far, block by block
  tale : InClientHistory p (blocks_ask_only p run.sound) (lined p run.sound) c code size own_list own_walk deeds (finish m)
  tale = in_tale p (blocks_ask_only p run.sound) (lined p run.sound) c code size own_list own_walk deeds m run.lead

  abbrev IsOwn : ℕ → Type 0
  IsOwn h = (k : ℕ) × (k < blocks_of p c) × (reserves p (ticket c k) h ≡ true)

  own_of : (g h : ℕ) → Some g ≡ Some h → (k : ℕ) × (k < length code.blocks) × (reserves p (ticket c k) g ≡ true) → IsOwn h
  own_of g h same own = let is : g ≡ h = cc in subst IsOwn is (own.0, inside own.0 own.1, own.2)

  pub act_reserved : (h : ℕ) (act : Act) → next_act m ≡ act → lane_of act ≡ Some h → IsOwn h
  act_reserved h (acts.Send g parcel) is uses =
      own_of g h uses (send_reserved p (blocks_ask_only p run.sound) (lined p run.sound) c code size own_list own_walk deeds (finish m) tale g parcel is)
  act_reserved h (acts.Await g) is uses =
      own_of g h uses (await_reserved p (blocks_ask_only p run.sound) (lined p run.sound) c code size own_list own_walk deeds (finish m) tale g is)
  act_reserved h (acts.NeedChunk g) is uses =
      own_of g h uses (need_reserved p (blocks_ask_only p run.sound) (lined p run.sound) c code size own_list own_walk deeds (finish m) tale g is)
  act_reserved h _ is uses = absurd (cc)

  -- its chunks' size stays
  pub size_is : m.size ≡ size
  size_is = tale.size_is

  pub send_follows : (h : ℕ) (parcel : Parcel) → next_act m ≡ acts.Send h parcel → MayFollow size (is_asked false (sent_to h deeds)) parcel
  send_follows h parcel is =
      let stands = stands_along c h deeds (fresh_mind code size) m [] (client_lane_laws.begins code size h) run.lead in
      subst (λ n. MayFollow n (is_asked false (sent_to h deeds)) parcel) size_is (client_lane_laws.sends m h parcel (sent_to h deeds) is stands).0

  -- it has begun as many blocks as it reserved
  pub begun_is : (finish m).client.begun ≡ reservations deeds
  begun_is = tale.reserved

  pub block_left : next_act m ≡ acts.Reserve → reservations deeds < blocks_of p c
  block_left is = grind (arith, reserves_between, run, lined, own_list, own_walk, tale, begun_is, inside)

pub run_act_laws : RunActLaws
run_act_laws = record {
  reserved = λ p c code size deeds m run h. act_reserved p c code size deeds m run h (next_act m) refl;
  follows = send_follows;
  left = block_left;
}
