-- A client of the optimised machine, as the code holds it.
use Rattle.std.specs.Prelude.{◌≡◌, ◌<◌, ◌++◌, ◌∷◌, [], ℕ, Bool, true, false, List, length, nat_lt, if◌then◌else◌, slice_set, Option, Some, None}
use Rattle.std.specs.List.{AllByRecursion}
use Rattle.qs_objects.specs.audit.Journals.{HeldState}
use Rattle.qs_objects.specs.declared.Request.{Request}
use Rattle.qs_chunk.specs.audit.Batch.{Batch}
use Rattle.qs_chunk.specs.audit.Limits.{lane_room}
use Rattle.qs_client.specs.audit.ClientModel.{ClientModel, act_due, mind_after_chunk, finish, mind_after_object, hands_out}
use Rattle.qs_client.specs.ClientModel.{with_act_again}
use Rattle.qs_client.specs.MindState.{MindState, mind_of}
use Rattle.qs_client.specs.declared.rules.act.Act.{Act}
use Rattle.qs_client.specs.declared.rules.act.Act.TheVariants as acts
use Rattle.qs_played.specs.Played.{ClientRows}
use Rattle.qs_core.specs.parts.CoreHandlers.{CoreHandlerState, LaneSteps as HandlerSteps}
use Rattle.qs_core.specs.parts.LaneStates.{IsStocked, LaneState, lane_at, with_down, with_spare, with_up}

-- its mind, the act that the mind handed out last, and its lanes
pub record CoreClientState : Type 0 where
  pub mind : MindState
  pub act : Act
  pub lanes : List LaneState

-- the mind with what the act carries
unfoldable pub whole_of : CoreClientState → ClientModel
whole_of s = with_act_again (mind_of s.mind) s.act

-- what the blocks of a mind have shown
abbrev pub rows_of : ClientModel → ClientRows
rows_of m = record { traces = m.traces; entries = m.entries; counts = m.counts }

-- the act is the next one of the client, and the mind is without what it carries
pub record IsCoreClient (s : CoreClientState) : Type 0 where
  pub act : s.act ≡ act_due (whole_of s)
  pub mind : mind_of s.mind ≡ hands_out (whole_of s) s.act

-- the handler to whose lane a client turns
abbrev pub turns_to : Act → Option ℕ
turns_to acts.Reserve = None
turns_to (acts.Send h parcel) = Some h
turns_to (acts.Await h) = Some h
turns_to (acts.NeedChunk h) = Some h
turns_to acts.Finished = None

abbrev pub takes_object : ClientModel → LaneState → Option HeldState → Option (ClientModel × LaneState)
takes_object m l None = None
takes_object m l (Some x) = Some (mind_after_object m x, with_up l None)

abbrev pub takes_empty : ClientModel → ℕ → LaneState → List (Batch Request) → Option (ClientModel × LaneState)
takes_empty m h l [] = None
takes_empty m h l (b ∷ bs) = Some (mind_after_chunk m h, with_spare l bs)

-- what it does at that lane: the mind and the lane after it, where it can step
abbrev pub lane_step_of_client : ClientModel → Act → LaneState → Option (ClientModel × LaneState)
lane_step_of_client m acts.Reserve l = None
lane_step_of_client m (acts.Send h parcel) l =
    if nat_lt (length l.down) lane_room then Some (
      finish (hands_out m (acts.Send h parcel)),
      with_down l (l.down ++ parcel ∷ []),
    ) else None
lane_step_of_client m (acts.Await h) l = takes_object m l l.up
lane_step_of_client m (acts.NeedChunk h) l = takes_empty m h l l.spare
lane_step_of_client m acts.Finished l = None

-- it came to this by a step at a lane
pub record LaneSteps (old new : CoreClientState) : Type 0 where
  pub handler : ℕ
  pub turned : turns_to old.act ≡ Some handler
  pub lane : LaneState
  pub steps : lane_step_of_client (whole_of old) old.act (lane_at old.lanes handler) ≡ Some (whole_of new, lane)
  pub lanes : new.lanes ≡ slice_set old.lanes handler lane

-- it can't step at a lane
abbrev pub LaneStays : CoreClientState → Type 0
LaneStays s = (h : ℕ) → turns_to s.act ≡ Some h → lane_step_of_client (whole_of s) s.act (lane_at s.lanes h) ≡ None

-- it has the lane that it turns to
abbrev pub HasLane : CoreClientState → Type 0
HasLane s = (h : ℕ) → turns_to s.act ≡ Some h → h < length s.lanes

-- the empty chunks in its lanes are empty, and have the size of its chunks
abbrev pub AreStocked : CoreClientState → Type 0
AreStocked s = AllByRecursion (IsStocked (whole_of s).size) s.lanes

abbrev pub is_reserve : Act → Bool
is_reserve acts.Reserve = true
is_reserve (acts.Send h parcel) = false
is_reserve (acts.Await h) = false
is_reserve (acts.NeedChunk h) = false
is_reserve acts.Finished = false

-- a handler came to this by a step at the client's lane to it, and the client's part to this with the lane as it is
-- then
pub record Meets (h : ℕ) (old : CoreClientState) (handler : CoreHandlerState) (new : CoreClientState)
    (later : CoreHandlerState) : Type 0 where
  pub lane : LaneState
  pub steps : HandlerSteps handler (lane_at old.lanes h) later lane
  pub formed : new ≡ record { mind = old.mind; act = old.act; lanes = slice_set old.lanes h lane }
