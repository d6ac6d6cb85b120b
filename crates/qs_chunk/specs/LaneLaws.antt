-- What the form of a lane promises.
use Rattle.std.specs.Prelude.{ℕ, false, List, [], ◌∷◌, ◌++◌, ◌↔◌}
use Rattle.qs_chunk.specs.audit.Lanes.{is_asked}
use Rattle.qs_chunk.specs.Lanes.{BeginsLane, MayFollow, IsLane}
use Rattle.qs_chunk.specs.declared.parcel.Parcel.{Parcel}

-- where each parcel may follow those before it, and only there, the list is the beginning of one of the form
abbrev pub LanesAreFronts : Type 0
LanesAreFronts = (size : ℕ) (parcels : List Parcel) → IsLane size parcels ↔ BeginsLane size parcels

-- a parcel may follow exactly where the longer list is again the beginning of one of the form
abbrev pub NextKeepsForm : Type 0
NextKeepsForm =
    (size : ℕ) (parcels : List Parcel) (next : Parcel)
    → BeginsLane size parcels → MayFollow size (is_asked false parcels) next ↔ BeginsLane size (parcels ++ next ∷ [])

-- a front of what a lane may have carried is one too
abbrev pub FrontsAreLanes : Type 0
FrontsAreLanes = (size : ℕ) (front rest : List Parcel) → IsLane size (front ++ rest) → IsLane size front

pub record LaneLaws : Type 0 where
  pub lanes : LanesAreFronts
  pub next : NextKeepsForm
  pub fronts : FrontsAreLanes
