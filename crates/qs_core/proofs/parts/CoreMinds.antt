-- A client's step at a lane keeps its mind's code, chunk size and ticket, and that the lane's spare chunks are empty
-- ones of one size; a client that turns to a lane has begun a block. The lemmas on the steps of the code's lists
-- (`client_kept`) need these facts. They are shown by cases on the act, and then on whether the lane has room, an
-- object or a chunk.
use Rattle.std.proofs.Common.{◌≡◌, ◌<◌, ℕ, true, nat_lt, if◌then◌else◌, List, [], Option, Some, None, subst, arith, rules}
use Rattle.qs_played.proofs.Names.{AllByRecursion, Request}
use Rattle.qs_core_laws.proofs.Names.{Batch, batch, Client, ClientStage, IsMind, mind_of, without_act, Act}
use Rattle.qs_client.specs.audit.ClientModel.{ClientModel, act_due, is_between}
use Rattle.qs_client.specs.declared.rules.act.Act.TheVariants as acts
use Rattle.qs_core.specs.parts.CoreClients.{CoreClientState, IsCoreClient, lane_step_of_client, turns_to, whole_of}
use Rattle.qs_core.specs.parts.LaneStates.{IsStocked, LaneState}

pub gave_begun : (m : Client) (act : Act) → (without_act m act).begun ≡ m.begun
gave_begun m v = search rules

pub gave_place : (m : Client) (act : Act) → (without_act m act).stage ≡ m.stage
gave_place m v = search rules

-- of the whole mind holds what holds of the mind
pub whole_mind : (s : CoreClientState) → IsCoreClient s → IsMind (mind_of s.mind) → IsMind (whole_of s)
whole_mind s kept ok = search (rules, gave_begun, gave_place)

-- a client that turns to a lane has begun a block
turning : (m : Client) (blocks : ℕ) (h : ℕ) (p : ClientStage) → is_between p ≡ true → turns_to (if nat_lt m.begun blocks then acts.Reserve else acts.Finished) ≡ Some h → ⊥
turning m blocks h p is e = search rules

pub lane_begun : (n : ClientModel) (h : ℕ) → IsMind n → turns_to (act_due n) ≡ Some h → 0 < n.client.begun
lane_begun n h ok turned = grind (arith, turning)

-- a step at a lane keeps the mind's code, size and ticket, and that the lane's chunks are empty
pub record KeepsMind (m n : ClientModel) (l k : LaneState) : Type 0 where
  pub code : n.code ≡ m.code
  pub size : n.size ≡ m.size
  pub ticket : n.ticket ≡ m.ticket
  pub stocked : (size : ℕ) → IsStocked size l → IsStocked size k

abbrev KeepsMindBy : ClientModel → LaneState → Option (ClientModel × LaneState) → Type 0
KeepsMindBy m l None = Unit {0}
KeepsMindBy m l (Some q) = KeepsMind m q.0 l q.1

tail_stocked : (size : ℕ) (bs : List (Batch Request)) (l : LaneState) → l.spare ≡ bs → IsStocked size l → AllByRecursion (λ (b : Batch Request). b ≡ batch [] size) bs
tail_stocked size bs l is all = subst (AllByRecursion (λ (b : Batch Request). b ≡ batch [] size)) is all

all_kept : (m : ClientModel) (act : Act) (l : LaneState) → KeepsMindBy m l (lane_step_of_client m act l)
all_kept m v l = search (rules, tail_stocked)

pub step_keeps : (m n : ClientModel) (act : Act) (l k : LaneState) → lane_step_of_client m act l ≡ Some (n, k) → KeepsMind m n l k
step_keeps m n act l k e = subst (KeepsMindBy m l) e (all_kept m act l)
