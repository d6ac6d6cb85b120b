-- What holds of every run of a lane.
use Rattle.std.specs.Prelude.{◌≡◌, ◌≤◌, ◌↔◌, ℕ, false, List, [], ◌∷◌, ◌++◌, length}
use Rattle.std.specs.List.{AllByRecursion}
use Rattle.qs_objects.specs.audit.Journals.{HeldState}
use Rattle.qs_chunk.specs.audit.Lanes.{HasSize, is_asked}
use Rattle.qs_chunk.specs.Lanes.{IsLane, MayFollow}
use Rattle.qs_chunk.specs.audit.LaneRun.{IsLaneRun, syncs}
use Rattle.qs_chunk.specs.declared.parcel.Parcel.{Parcel}

-- the same by steps: each parcel that was sent may follow those before it, and no more objects were given than asked
-- for
pub record IsRunByParcels (size : ℕ) (sent received : List Parcel) (given got : List HeldState) : Type 0 where
  pub parcels : (rest : List Parcel) × (sent ≡ received ++ rest)
  pub form : IsLane size sent
  pub objects : (rest : List HeldState) × (given ≡ got ++ rest)
  pub served : length given ≤ syncs received

abbrev pub RunsByParcels : Type 0
RunsByParcels =
    (size : ℕ) (sent received : List Parcel) (given got : List HeldState)
    → IsLaneRun size sent received given got ↔ IsRunByParcels size sent received given got

-- every chunk that was sent has the lane's size, and so has every one that was received
abbrev pub ChunksHaveSize : Type 0
ChunksHaveSize =
    (size : ℕ) (sent received : List Parcel) (given got : List HeldState)
    → IsLaneRun size sent received given got
    → AllByRecursion (HasSize size) sent × AllByRecursion (HasSize size) received

-- the parcel that lies first in the lane may follow what was received, and the run goes on by it
abbrev pub NextMayStand : Type 0
NextMayStand =
    (size : ℕ) (received rest : List Parcel) (next : Parcel) (given got : List HeldState)
    → IsLaneRun size (received ++ next ∷ rest) received given got
    → MayFollow size (is_asked false received) next
    × IsLaneRun size (received ++ next ∷ rest) (received ++ next ∷ []) given got

pub record LaneRunLaws : Type 0 where
  pub by_parcels : RunsByParcels
  pub sizes : ChunksHaveSize
  pub next : NextMayStand
