-- What may stand in a lane, the private queue of a client at a handler: (Work* (Sync Home Work*)* End)*.
use Rattle.std.specs.Prelude.{◌≡◌, ℕ, Bool, true, false, List, [], ◌∷◌, ◌++◌, map, flat_map}
use Rattle.std.specs.List.{AllByRecursion}
use Rattle.qs_objects.specs.audit.Journals.{HeldState}
use Rattle.qs_objects.specs.declared.Request.{Request}
use Rattle.qs_chunk.specs.audit.Batch.{Batch}
use Rattle.qs_chunk.specs.declared.parcel.Parcel.{Parcel}
use Rattle.qs_chunk.specs.declared.parcel.Parcel.TheVariants.{Work, Sync, Home, End}

-- a synchronisation: the client asks for the object, sends it home, and then chunks
pub record Round : Type 0 where
  pub home : HeldState
  pub chunks : List (Batch Request)

-- what a block sends to one handler: chunks, and then rounds
pub record Sending : Type 0 where
  pub chunks : List (Batch Request)
  pub rounds : List Round

-- Sync Home Work*
abbrev pub round_parcels : Round → List Parcel
round_parcels r = Sync ∷ Home r.home ∷ map Work r.chunks

-- Work* (Sync Home Work*)* End
abbrev pub block_parcels : Sending → List Parcel
block_parcels s = map Work s.chunks ++ flat_map round_parcels s.rounds ++ End ∷ []

-- a chunk has the lane's size
abbrev pub HasSize : ℕ → Parcel → Type 0
HasSize size (Work chunk) = chunk.capacity ≡ size
HasSize size _ = Unit {0}

-- what blocks send, one block after another, in chunks of one size
abbrev pub HasForm : ℕ → List Parcel → Type 0
HasForm size parcels =
    (blocks : List Sending) × (parcels ≡ flat_map block_parcels blocks) × AllByRecursion (HasSize size) parcels

abbrev pub is_sync : Parcel → Bool
is_sync Sync = true
is_sync _ = false

-- whether the last parcel is a Sync; `asked` says it of what came before them
abbrev pub is_asked : Bool → List Parcel → Bool
is_asked asked [] = asked
is_asked asked (p ∷ ps) = is_asked (is_sync p) ps
