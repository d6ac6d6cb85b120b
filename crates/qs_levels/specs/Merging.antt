-- Parts of a level are merged: again and again the one is taken whose first lead is the least.
use Rattle.std.specs.Prelude.{◌≡◌, ◌<◌, ◌⊎◌, ℕ, List, [], ◌∷◌, Option, None, Some, drop, length, slice_index_or, Result, IfOk, IsErrOf}
use Rattle.qs_objects.specs.declared.held.Ticket.{Ticket}
use Rattle.qs_program.specs.audit.Program.{ProgramShape}
use Rattle.qs_standings.specs.Standings.{StandingShape}
use Rattle.qs_levels.specs.meaning.Onward.{HasMoreOnward}
use Rattle.qs_levels.specs.Leads.{IsPartOf}
use Rattle.qs_levels.specs.declared.merging.Candidate.{Candidate}
use Rattle.qs_levels.specs.Founds.{Found, no_found}
use Rattle.qs_levels.specs.declared.level.Spot.{Spot}
use Rattle.qs_levels.specs.declared.table.Lead.{Lead}
use Rattle.qs_outcomes.specs.declared.fault.OutcomesFault.{OutcomesFault}
use Rattle.qs_outcomes.specs.declared.fault.OutcomesFault.TheVariants.{Limit, Order}

abbrev pub first_lead : List Found → Option Lead
first_lead [] = None
first_lead (f ∷ fs) = Some f.lead

-- what is left of each part, from a place on
abbrev pub rests_of : List ℕ → List (List Found) → List (List Found)
rests_of [] parts = []
rests_of (n ∷ ns) [] = []
rests_of (n ∷ ns) (fs ∷ parts) = drop n fs ∷ rests_of ns parts

-- a place of a part, and who goes on from there
abbrev pub spot_of : List (List Found) → ℕ → ℕ → Spot
spot_of parts k place = record {
  part = k;
  place = place;
  going = record { clients = (slice_index_or (slice_index_or parts k []) place no_found).going; share = k };
}

-- leads by the place from which they lead, and from one place by the client
abbrev pub IsLess : Lead → Lead → Type 0
IsLess l k = (l.source < k.source) ⊎ ((l.source ≡ k.source) × (l.client < k.client))

abbrev pub IsNoMore : Lead → Lead → Type 0
IsNoMore l k = IsLess l k ⊎ ((l.source ≡ k.source) × (l.client ≡ k.client))

-- than the first lead of a part, where it has one
abbrev pub IsNoMoreThanFirst : Lead → Option Lead → Type 0
IsNoMoreThanFirst l None = Unit {0}
IsNoMoreThanFirst l (Some k) = IsNoMore l k

-- the part with the least first lead, with one part more
abbrev pub IsBetter : Option Candidate → ℕ → Option Lead → Option Candidate → Type 0
IsBetter best number None better = better ≡ best
IsBetter None number (Some l) better = better ≡ Some (record { number = number; lead = l })
IsBetter (Some b) number (Some l) better =
    (IsLess l b.lead × (better ≡ Some (record { number = number; lead = l }))) ⊎ (IsNoMore b.lead l × (better ≡ Some b))

-- of the parts below n, the one with the least first lead; none where they are empty
abbrev pub IsLeastTo : List (List Found) → ℕ → Option Candidate → Type 0
IsLeastTo parts n None = (i : ℕ) → i < n → first_lead (slice_index_or parts i []) ≡ None
IsLeastTo parts n (Some b) =
    (b.number < n) × (first_lead (slice_index_or parts b.number []) ≡ Some b.lead)
    × ((i : ℕ) → i < n → IsNoMoreThanFirst b.lead (first_lead (slice_index_or parts i [])))

-- of all parts
abbrev pub IsLeastPart : List (List Found) → Option ℕ → Type 0
IsLeastPart parts None = (i : ℕ) → i < length parts → slice_index_or parts i [] ≡ []
IsLeastPart parts (Some k) =
    (k < length parts) × (f : Found) × (fs : List Found) × (slice_index_or parts k [] ≡ f ∷ fs)
    × ((i : ℕ) → i < length parts → IsNoMoreThanFirst f.lead (first_lead (slice_index_or parts i [])))

-- parts of a level, one for each share
abbrev pub AreParts : ProgramShape → List Ticket → List StandingShape → List (List Found) → Type 0
AreParts p front level parts =
    (i : ℕ) → i < length parts → IsPartOf p front i (length parts) level (slice_index_or parts i [])

-- what a thread comes to that leads a level on
pub record IsPartLed (p : ProgramShape) (front : List Ticket) (level : List StandingShape) (room number count : ℕ)
    (result : Result (List Found) OutcomesFault) : Type 0 where
  pub ok : IfOk result (IsPartOf p front number count level)
  pub limit : IsErrOf result Limit → HasMoreOnward p front level room
  pub order : IsErrOf result Order → ⊥
