-- The two ends of a lane, as contracts see them.
use Rattle.std.specs.Prelude.{ℕ, List}
use Rattle.atomic_table.specs.Seated.{TableId}
use Rattle.qs_objects.specs.audit.Journals.{HeldState}
use Rattle.qs_chunk.specs.declared.parcel.Parcel.{Parcel}

-- a lane's name: those of its queues of parcels, of objects and of empty chunks
pub record LaneName : Type 0 where
  pub down : TableId
  pub up : TableId
  pub spare : TableId

-- the client's end: the lane's name, the size of its chunks, the parcels that were sent, the objects that were got, and
-- how many empty chunks were taken
pub record OutView : Type 0 where
  pub name : LaneName
  pub size : ℕ
  pub sent : List Parcel
  pub got : List HeldState
  pub taken : ℕ

-- the handler's end: the parcels that were received, the objects that were given, and how many empty chunks were put
-- into the lane, with those that it began with
pub record InView : Type 0 where
  pub name : LaneName
  pub size : ℕ
  pub received : List Parcel
  pub given : List HeldState
  pub spared : ℕ
