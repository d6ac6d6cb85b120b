-- The lane from a client to a handler, as the code holds it.
use Rattle.std.specs.Prelude.{◌≡◌, ℕ, List, [], replicate, slice_index_or, Option, None}
use Rattle.std.specs.List.{AllByRecursion}
use Rattle.qs_objects.specs.audit.Journals.{HeldState}
use Rattle.qs_objects.specs.declared.Request.{Request}
use Rattle.qs_chunk.specs.audit.Batch.{Batch, batch}
use Rattle.qs_chunk.specs.audit.Limits.{spare_room}
use Rattle.qs_chunk.specs.declared.parcel.Parcel.{Parcel}

-- the parcels that lie there, the object on its way up, and the empty chunks
pub record LaneState : Type 0 where
  pub down : List Parcel
  pub up : Option HeldState
  pub spare : List (Batch Request)

abbrev pub with_down : LaneState → List Parcel → LaneState
with_down l ps = record { down = ps; up = l.up; spare = l.spare }

abbrev pub with_up : LaneState → Option HeldState → LaneState
with_up l x = record { down = l.down; up = x; spare = l.spare }

abbrev pub with_spare : LaneState → List (Batch Request) → LaneState
with_spare l bs = record { down = l.down; up = l.up; spare = bs }

-- nothing is on its way, and four empty chunks lie ready
abbrev pub fresh_lane : ℕ → LaneState
fresh_lane size = record { down = []; up = None; spare = replicate spare_room (batch [] size) }

abbrev pub lane_at : List LaneState → ℕ → LaneState
lane_at ls h = slice_index_or ls h (fresh_lane 0)

-- the empty chunks are empty, and have the chunks' size
abbrev pub IsStocked : ℕ → LaneState → Type 0
IsStocked size l = AllByRecursion (λ b. b ≡ batch [] size) l.spare
