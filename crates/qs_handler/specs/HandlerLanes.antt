-- How a handler stands to its clients' lanes: the parcels that it received from each, and the objects that it gave.
use Rattle.std.specs.Prelude.{◌≡◌, ◌≢◌, ℕ, ◌+◌, true, false, List, [], ◌∷◌, ◌++◌, length, Some}
use Rattle.qs_objects.specs.audit.Journals.{HeldState}
use Rattle.qs_objects.specs.declared.held.Next.{Next}
use Rattle.qs_objects.specs.declared.Request.{Request}
use Rattle.qs_chunk.specs.audit.Batch.{Batch, batch}
use Rattle.qs_chunk.specs.audit.Lanes.{HasSize, is_asked}
use Rattle.qs_chunk.specs.audit.LaneRun.{syncs}
use Rattle.qs_chunk.specs.declared.parcel.Parcel.{Parcel}
use Rattle.qs_handler.specs.audit.Handler.{Handler, free, serves, spares, gives, away, closed, act_of, gave, accept_next, accept_parcel}
use Rattle.qs_handler.specs.Handler.{is_away}
use Rattle.qs_handler.specs.declared.mind.Act.TheVariants as acts

-- the last parcel is no Sync, and each Sync was served
pub record OwesNothing (parcels : List Parcel) (given : List HeldState) : Type 0 where
  pub last : is_asked false parcels ≡ false
  pub served : length given ≡ syncs parcels

-- the last parcel is a Sync, and it alone is not served yet
pub record IsUnserved (parcels : List Parcel) (given : List HeldState) : Type 0 where
  pub last : is_asked false parcels ≡ true
  pub unserved : length given + 1 ≡ syncs parcels

-- the last parcel is a Sync, and each Sync was served
pub record IsServed (parcels : List Parcel) (given : List HeldState) : Type 0 where
  pub last : is_asked false parcels ≡ true
  pub served : length given ≡ syncs parcels

-- A handler at the lane of a client, with chunks of this size. From the client of the block that it serves, the last
-- parcel is a Sync exactly where it is to give its object or is without it, and a chunk that it is to give back has the
-- lane's size.
abbrev pub HandlerFitsLane : ℕ → ℕ → Handler → List Parcel → List HeldState → Type 0
HandlerFitsLane size client (free x) parcels given = OwesNothing parcels given
HandlerFitsLane size client (serves t x) parcels given = OwesNothing parcels given
HandlerFitsLane size client (spares t x n) parcels given = OwesNothing parcels given × (t.client ≡ client → n ≡ size)
HandlerFitsLane size client (gives t x) parcels given =
    (t.client ≡ client → IsUnserved parcels given) × (t.client ≢ client → OwesNothing parcels given)
HandlerFitsLane size client (away t) parcels given =
    (t.client ≡ client → IsServed parcels given) × (t.client ≢ client → OwesNothing parcels given)
HandlerFitsLane size client (closed x) parcels given = OwesNothing parcels given

-- so it stands to each lane before its first ticket, and tickets change nothing
abbrev pub BeginsAtLanes : Type 0
BeginsAtLanes = (size client : ℕ) (x : HeldState) → HandlerFitsLane size client (free x) [] []

abbrev pub TicketsKeepLanes : Type 0
TicketsKeepLanes =
    (size client : ℕ) (h new : Handler) (next : Next) (parcels : List Parcel) (given : List HeldState)
    → accept_next h next ≡ Some new → HandlerFitsLane size client h parcels given
    → HandlerFitsLane size client new parcels given

-- where it asks for a client's parcel, what may stand there by its own state is what may follow in that lane
abbrev pub AsksForWhatFollows : Type 0
AsksForWhatFollows =
    (size client : ℕ) (h : Handler) (parcels : List Parcel) (given : List HeldState)
    → act_of h ≡ acts.TakeParcel client → HandlerFitsLane size client h parcels given
    → is_away h ≡ is_asked false parcels

-- it goes on by the parcel, which has the lane's size, at this client's lane; and at each other lane, where nothing was
-- received
abbrev pub ParcelsKeepLanes : Type 0
ParcelsKeepLanes =
    (size client : ℕ) (h new : Handler) (parcel : Parcel) (parcels : List Parcel) (given : List HeldState)
    → act_of h ≡ acts.TakeParcel client → accept_parcel h parcel ≡ Some new → HasSize size parcel
    → HandlerFitsLane size client h parcels given → HandlerFitsLane size client new (parcels ++ parcel ∷ []) given

abbrev pub ParcelsKeepOtherLanes : Type 0
ParcelsKeepOtherLanes =
    (size client other : ℕ) (h new : Handler) (parcel : Parcel) (parcels : List Parcel) (given : List HeldState)
    → act_of h ≡ acts.TakeParcel client → accept_parcel h parcel ≡ Some new → client ≢ other
    → HandlerFitsLane size other h parcels given → HandlerFitsLane size other new parcels given

-- It gives its object to a client only where the last parcel that it received from the client is a Sync which is not
-- served yet; then it goes on with the object given, at this client's lane and at each other
abbrev pub GivesAreAskedFor : Type 0
GivesAreAskedFor =
    (size client : ℕ) (h : Handler) (x : HeldState) (parcels : List Parcel) (given : List HeldState)
    → act_of h ≡ acts.Give client x → HandlerFitsLane size client h parcels given
    → (is_asked false parcels ≡ true) × (length given + 1 ≡ syncs parcels)
    × HandlerFitsLane size client (gave h) parcels (given ++ x ∷ [])

abbrev pub GivesKeepOtherLanes : Type 0
GivesKeepOtherLanes =
    (size client other : ℕ) (h : Handler) (x : HeldState) (parcels : List Parcel) (given : List HeldState)
    → act_of h ≡ acts.Give client x → client ≢ other
    → HandlerFitsLane size other h parcels given → HandlerFitsLane size other (gave h) parcels given

-- a chunk that it gives back to a client is empty and has the lane's size, and at each lane it goes on
abbrev pub SparesAreEmpty : Type 0
SparesAreEmpty =
    (size client : ℕ) (h : Handler) (chunk : Batch Request) (parcels : List Parcel) (given : List HeldState)
    → act_of h ≡ acts.Spare client chunk → HandlerFitsLane size client h parcels given → chunk ≡ batch [] size

abbrev pub SparesKeepLanes : Type 0
SparesKeepLanes =
    (size client other : ℕ) (h : Handler) (chunk : Batch Request) (parcels : List Parcel) (given : List HeldState)
    → act_of h ≡ acts.Spare client chunk → HandlerFitsLane size other h parcels given
    → HandlerFitsLane size other (gave h) parcels given

-- a handler that has ended has served each Sync
abbrev pub EndsAtLanes : Type 0
EndsAtLanes =
    (size client : ℕ) (h : Handler) (parcels : List Parcel) (given : List HeldState)
    → act_of h ≡ acts.Closed → HandlerFitsLane size client h parcels given → length given ≡ syncs parcels

pub record HandlerLaneLaws : Type 0 where
  pub begins : BeginsAtLanes
  pub tickets : TicketsKeepLanes
  pub asks : AsksForWhatFollows
  pub parcels : ParcelsKeepLanes
  pub parcels_elsewhere : ParcelsKeepOtherLanes
  pub gives : GivesAreAskedFor
  pub gives_elsewhere : GivesKeepOtherLanes
  pub spares : SparesAreEmpty
  pub spares_on : SparesKeepLanes
  pub ends : EndsAtLanes
