-- What lies in a lane, cut by tickets: the commands in parcels, and each ticket's own parcels.
use Rattle.std.specs.Prelude.{List, [], ◌∷◌, Option, Some, None}
use Rattle.qs_objects.specs.audit.Journals.{HeldState}
use Rattle.qs_chunk.specs.declared.parcel.Parcel.{Parcel}
use Rattle.qs_chunk.specs.declared.parcel.Parcel.TheVariants.{Work, Sync, Home, End}

-- the object that its handler gave away: on its way to the client, on its way home, or with the client
abbrev pub home_of : Parcel → Option HeldState
home_of (Home x) = Some x
home_of (Work chunk) = None
home_of Sync = None
home_of End = None

abbrev pub away_at : Option HeldState → List Parcel → Option HeldState → Option HeldState
away_at (Some x) down held = Some x
away_at None (parcel ∷ down) held = home_of parcel
away_at None [] held = held
