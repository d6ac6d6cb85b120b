-- One lane from both its ends, over four lists: the parcels that its client sent and its handler received, and the
-- objects that its handler gave and its client got.
use Rattle.std.specs.Prelude.{◌≡◌, ◌≤◌, ◌⊎◌, ◌+◌, ℕ, Bool, true, false, List, length, count_by}
use Rattle.qs_objects.specs.audit.Journals.{HeldState}
use Rattle.qs_objects.specs.audit.Parts.{IsFront}
use Rattle.qs_chunk.specs.audit.Lanes.{HasForm, is_asked, is_sync}
use Rattle.qs_chunk.specs.declared.parcel.Parcel.{Parcel}
use Rattle.qs_chunk.specs.declared.parcel.Parcel.TheVariants.{Home}

-- how often the object was asked for
abbrev pub syncs : List Parcel → ℕ
syncs parcels = count_by is_sync parcels

abbrev pub is_home : Parcel → Bool
is_home (Home held) = true
is_home _ = false

-- how often the object was sent home
abbrev pub homes : List Parcel → ℕ
homes parcels = count_by is_home parcels

-- each Sync that was received is served, one object for each; or each but the last parcel, which is a Sync that waits
abbrev pub AreServed : List Parcel → List HeldState → Type 0
AreServed received given =
    (length given ≡ syncs received) ⊎ ((is_asked false received ≡ true) × (length given + 1 ≡ syncs received))

-- What was received is a front of what was sent; what was sent is a front of some list of the form, in chunks of this
-- size; what was got is a front of what was given; no more objects are given than were asked for; and where the client
-- sent home no more objects than it got, as many are given as Syncs were received, but that the last parcel may be a
-- Sync that still waits.
pub record IsLaneRun (size : ℕ) (sent received : List Parcel) (given got : List HeldState) : Type 0 where
  pub parcels : IsFront received sent
  pub form : (whole : List Parcel) × IsFront sent whole × HasForm size whole
  pub objects : IsFront got given
  pub asked : length given ≤ syncs received
  pub served : homes sent ≤ length got → AreServed received given
