-- Beside what the headline reaches (`audit/Lanes.antt`): what else contracts and proofs use.
use Rattle.std.specs.Prelude.{ℕ, Bool, false, not, IsTrue, List, [], ◌∷◌, ◌++◌}
use Rattle.qs_chunk.specs.declared.parcel.Parcel.{Parcel}
use Rattle.qs_chunk.specs.declared.parcel.Parcel.TheVariants.{Home}
use Rattle.qs_chunk.specs.audit.Lanes.{HasSize, HasForm, is_sync}

-- the beginning of a list of the form, possibly all of it
abbrev pub BeginsLane : ℕ → List Parcel → Type 0
BeginsLane size parcels = (rest : List Parcel) × HasForm size (parcels ++ rest)

-- right after a Sync only the object may stand, and elsewhere anything but the object
abbrev pub may_stand : Bool → Parcel → Bool
may_stand asked (Home held) = asked
may_stand asked _ = not asked

abbrev pub MayFollow : ℕ → Bool → Parcel → Type 0
MayFollow size asked p = IsTrue (may_stand asked p) × HasSize size p

-- each parcel may follow those before it
abbrev pub StandsFrom : ℕ → Bool → List Parcel → Type 0
StandsFrom size asked [] = Unit {0}
StandsFrom size asked (p ∷ ps) = MayFollow size asked p × StandsFrom size (is_sync p) ps

-- what a lane with chunks of this size may have carried so far
abbrev pub IsLane : ℕ → List Parcel → Type 0
IsLane size parcels = StandsFrom size false parcels
