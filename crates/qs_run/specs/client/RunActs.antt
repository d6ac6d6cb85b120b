-- What a client asks for in the midst of its run can be had: its acts are on objects alone that a block of it reserves,
-- what it sends may follow what it sent before, and it reserves no more blocks than it has.
use Rattle.std.specs.Prelude.{◌≡◌, ◌<◌, ℕ, true, false, List, Option, Some, None}
use Rattle.qs_program.specs.audit.Program.{ProgramShape, blocks_of}
use Rattle.qs_program.specs.Sound.{IsSound}
use Rattle.qs_chunk.specs.audit.Lanes.{is_asked}
use Rattle.qs_chunk.specs.Lanes.{MayFollow}
use Rattle.qs_chunk.specs.declared.parcel.Parcel.{Parcel}
use Rattle.qs_client.specs.audit.ClientRuns.{Deed, DeedsLead, reservations, sent_to}
use Rattle.qs_client.specs.audit.ClientModel.{ClientModel, fresh_mind, next_act}
use Rattle.qs_client.specs.declared.rules.act.Act.{Act}
use Rattle.qs_client.specs.declared.rules.act.Act.TheVariants as acts
use Rattle.qs_desk.specs.Tickets.{ticket}
use Rattle.qs_meaning.specs.audit.Following.{reserves}
use Rattle.qs_syncset.specs.audit.Codes.{ClientCode, IsCodeOf}
use Rattle.qs_syncset.specs.declared.mode.Mode.{Mode}

-- the handler whose lane an act uses
abbrev pub lane_of : Act → Option ℕ
lane_of acts.Reserve = None
lane_of (acts.Send h parcel) = Some h
lane_of (acts.Await h) = Some h
lane_of (acts.NeedChunk h) = Some h
lane_of acts.Finished = None

-- these deeds lead client c of a checked program from before its first block to this mind
pub record IsMidRun (p : ProgramShape) (c : ℕ) (code : ClientCode) (size : ℕ) (deeds : List Deed)
    (m : ClientModel) : Type 0 where
  pub sound : IsSound p
  pub mode : Mode
  pub of : IsCodeOf p mode c code
  pub lead : DeedsLead c (fresh_mind code size) deeds m

-- whose lane it uses a block of its reserves
abbrev pub ActsAreReserved : Type 0
ActsAreReserved =
    (p : ProgramShape) (c : ℕ) (code : ClientCode) (size : ℕ) (deeds : List Deed) (m : ClientModel)
    → IsMidRun p c code size deeds m
    → (h : ℕ) → lane_of (next_act m) ≡ Some h → (k : ℕ) × (k < blocks_of p c) × (reserves p (ticket c k) h ≡ true)

abbrev pub SendsFollow : Type 0
SendsFollow =
    (p : ProgramShape) (c : ℕ) (code : ClientCode) (size : ℕ) (deeds : List Deed) (m : ClientModel)
    → IsMidRun p c code size deeds m
    → (h : ℕ) (parcel : Parcel) → next_act m ≡ acts.Send h parcel
    → MayFollow size (is_asked false (sent_to h deeds)) parcel

abbrev pub BlocksAreLeft : Type 0
BlocksAreLeft =
    (p : ProgramShape) (c : ℕ) (code : ClientCode) (size : ℕ) (deeds : List Deed) (m : ClientModel)
    → IsMidRun p c code size deeds m
    → next_act m ≡ acts.Reserve → reservations deeds < blocks_of p c

pub record RunActLaws : Type 0 where
  pub reserved : ActsAreReserved
  pub follows : SendsFollow
  pub left : BlocksAreLeft
