-- Beside what the headline reaches (`audit/LaneParts.antt`): what else contracts and proofs use.
use Rattle.std.specs.Prelude.{if◌then◌else◌, List, [], ◌∷◌, ◌++◌}
use Rattle.qs_objects.specs.audit.Parts.{same}
use Rattle.qs_objects.specs.declared.held.Ticket.{Ticket}
use Rattle.qs_objects.specs.declared.Request.{Request}
use Rattle.qs_chunk.specs.declared.parcel.Parcel.{Parcel}
use Rattle.qs_chunk.specs.declared.parcel.Parcel.TheVariants.{Work, Sync, Home, End}

-- the commands in parcels
abbrev pub commands_in : List Parcel → List Request
commands_in [] = []
commands_in (Work chunk ∷ ps) = chunk.items ++ commands_in ps
commands_in (Sync ∷ ps) = commands_in ps
commands_in (Home x ∷ ps) = commands_in ps
commands_in (End ∷ ps) = commands_in ps

-- the parcels up to the first End, and those after it
abbrev pub to_end : List Parcel → List Parcel
to_end [] = []
to_end (Work chunk ∷ ps) = Work chunk ∷ to_end ps
to_end (Sync ∷ ps) = Sync ∷ to_end ps
to_end (Home x ∷ ps) = Home x ∷ to_end ps
to_end (End ∷ ps) = End ∷ []

abbrev pub past_end : List Parcel → List Parcel
past_end [] = []
past_end (Work chunk ∷ ps) = past_end ps
past_end (Sync ∷ ps) = past_end ps
past_end (Home x ∷ ps) = past_end ps
past_end (End ∷ ps) = ps

-- a ticket's parcels, where these belong to these tickets one after another, to each up to its End
abbrev pub lane_of : Ticket → List Ticket → List Parcel → List Parcel
lane_of t [] ps = []
lane_of t (u ∷ us) ps = if same t u then to_end ps else lane_of t us (past_end ps)
