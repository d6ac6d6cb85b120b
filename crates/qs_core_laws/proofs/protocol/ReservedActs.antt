-- In the midst of its run a client is in one of its blocks wherever it sends, awaits or takes a chunk, and that block
-- reserves the object: so a lane is there for all that it asks for.
use Rattle.std.proofs.Common.{◌≡◌, ◌<◌, ℕ, true, false, List, length, sym, ◌∙◌, rules, arith}
use Rattle.qs_played.proofs.Names.{Ticket, ProgramShape, Locals, reserves, AsksOnly, block_tree, ticket}
use Rattle.qs_core_laws.proofs.Names.{without_syncs, ClientCode, code_at, IsSoundSynced, IsOnReserved, Parcel, Settings, act_of, Deed, ClientModel, act_due, tree_at}
use Rattle.qs_client.specs.declared.rules.act.Act.TheVariants as acts
use Rattle.qs_core_laws.proofs.protocol.ActObjects.{await_at, need_at, not_await, not_need, not_send, send_at}
use Rattle.qs_core_laws.proofs.protocol.ClientInvariants.{Lined, objects_of_block}
use Rattle.qs_core_laws.proofs.protocol.ClientHistories.{InClientHistory, asks, in_tale_block, inside}

module _ (program : ProgramShape) (fine : (t : Ticket) (l : Locals) → AsksOnly (reserves program t) (block_tree program t l))
    (lined : (t : Ticket) → Lined (reserves program t) (objects_of_block program t)) (c : ℕ) (code : ClientCode) (size : ℕ)
    (reserved_is : (k : ℕ) → k < length code.blocks → (code_at code k).reserved ≡ objects_of_block program (ticket c k))
    (walk_is : (k : ℕ) (l : Locals) → k < length code.blocks
    → (without_syncs (tree_at code k l) ≡ block_tree program (ticket c k) l) × IsSoundSynced (λ h. false) (tree_at code k l)
    × IsOnReserved (objects_of_block program (ticket c k)) (tree_at code k l))
    (before : List Deed) (m : ClientModel) (o : InClientHistory program fine lined c code size reserved_is walk_is before m) where
  -- some block of the client reserves the object
  abbrev pub IsReservedObject : ℕ → Type 0
  IsReservedObject h = (k : ℕ) × (k < length code.blocks) × (reserves program (ticket c k) h ≡ true)

  abbrev by : Settings
  by = record { dynamic = code.dynamic; size = size }

  act_is : act_due m ≡ act_of by (length code.blocks) m.client
  act_is = asks program fine lined c code size reserved_is walk_is before m o

  pub send_reserved : (h : ℕ) (p : Parcel) → act_due m ≡ acts.Send h p → IsReservedObject h
  send_reserved h p asked =
      let act = sym act_is ∙ asked in
      let at = in_tale_block program fine lined c code size reserved_is walk_is before m o (λ l e. not_send by (length code.blocks) m.client l h p e act) in
      let k = at.0 in
      let b = o.telling.block k in
      let own = send_at program (ticket c k) b.sent b.got by (length code.blocks) m.client b.block_record m.client.stage (o.telling.last k at.1) h p act in
      (k, inside program fine lined c code size reserved_is walk_is before m o k at.1, own.0)

  pub await_reserved : (h : ℕ) → act_due m ≡ acts.Await h → IsReservedObject h
  await_reserved h asked =
      let act = sym act_is ∙ asked in
      let at = in_tale_block program fine lined c code size reserved_is walk_is before m o (λ l e. not_await by (length code.blocks) m.client l h e act) in
      let k = at.0 in
      let b = o.telling.block k in
      let own = await_at program (ticket c k) b.sent b.got by (length code.blocks) m.client b.block_record m.client.stage (o.telling.last k at.1) h act in
      (k, inside program fine lined c code size reserved_is walk_is before m o k at.1, own.0)

  pub need_reserved : (h : ℕ) → act_due m ≡ acts.NeedChunk h → IsReservedObject h
  need_reserved h asked =
      let act = sym act_is ∙ asked in
      let at = in_tale_block program fine lined c code size reserved_is walk_is before m o (λ l e. not_need by (length code.blocks) m.client l h e act) in
      let k = at.0 in
      let b = o.telling.block k in
      let own = need_at program (ticket c k) b.sent b.got by (length code.blocks) m.client b.block_record m.client.stage (o.telling.last k at.1) h act in
      (k, inside program fine lined c code size reserved_is walk_is before m o k at.1, own)
