-- The configurations that orders which are reduced after a front lead to, as a graph: places by number, and the blocks
-- that lead from one to another.
use Rattle.std.specs.Prelude.{◌≡◌, ◌<◌, ◌≤◌, ℕ, suc, Bool, List, ◌++◌, Some, length, map, slice_get, ◌⊎◌}
use Rattle.std.specs.List.{AllByRecursion}
use Rattle.qs_objects.specs.declared.held.Ticket.{Ticket}
use Rattle.qs_program.specs.audit.Program.{ProgramShape}
use Rattle.qs_meaning.specs.audit.Configurations.{Configuration, configuration_after, one_block_on}
use Rattle.qs_meaning.specs.Reduced.{IsReducedFrom}
use Rattle.qs_meaning.specs.audit.Serial.{IsLegal}
use Rattle.qs_dot.specs.declared.chart.Lead.{Lead}
use Rattle.qs_standings.specs.Lists.{EachTwo, HasOne, NoTwo}
use Rattle.qs_standings.specs.Rows.{IsInserted}
use Rattle.qs_standings.specs.Standings.{GoesOn, IsStanding, RowShape, StandingShape, configuration_in, row_of}

pub record ChartShape : Type 0 where
  pub places : List StandingShape
  pub leads : List Lead

-- the configuration of a place
abbrev pub HasPlaceFor : List StandingShape → ℕ → Configuration → Type 0
HasPlaceFor places i g = (s : StandingShape) × (slice_get places i ≡ Some s) × (configuration_in s ≡ g)

-- The configurations to which orders lead that are reduced after the front, each at one place, that of the front at the
-- first.
pub record ArePlaces (p : ProgramShape) (front : List Ticket) (places : List StandingShape) : Type 0 where
  pub reached : AllByRecursion (IsStanding p front) places
  pub apart : NoTwo (λ s t. configuration_in s ≡ configuration_in t) places
  pub first : HasPlaceFor places 0 (configuration_after p front)
  pub all : (rest : List Ticket) → IsLegal p (front ++ rest) → IsReducedFrom p (configuration_after p front) rest
      → (i : ℕ) × HasPlaceFor places i (configuration_after p (front ++ rest))

-- A client goes on at one place, and its next block leads to another.
pub record IsLead (p : ProgramShape) (places : List StandingShape) (l : Lead) : Type 0 where
  pub standing : StandingShape
  pub begins : slice_get places l.from ≡ Some standing
  pub goes : GoesOn p standing l.client
  pub ends : HasPlaceFor places l.to (one_block_on p l.client (configuration_in standing))

-- from an earlier place, or from the same one by a client with a smaller number
abbrev pub IsSooner : Lead → Lead → Type 0
IsSooner l m = (l.from < m.from) ⊎ ((l.from ≡ m.from) × (l.client < m.client))

abbrev pub IsLeadOf : ℕ → ℕ → Lead → Type 0
IsLeadOf i c l = (l.from ≡ i) × (l.client ≡ c)

-- one lead for each client who goes on at a place, by places and clients
pub record AreLeads (p : ProgramShape) (places : List StandingShape) (leads : List Lead) : Type 0 where
  pub each : AllByRecursion (IsLead p places) leads
  pub all : (i c : ℕ) (s : StandingShape) → slice_get places i ≡ Some s → GoesOn p s c → HasOne (IsLeadOf i c) leads
  pub sorted : EachTwo IsSooner leads

-- what a chart has while it is drawn: its places with their rows
pub record AreCharted (p : ProgramShape) (front : List Ticket) (limit : ℕ) (kept : List RowShape)
    (places : List StandingShape) : Type 0 where
  pub rows : kept ≡ map (row_of p) places
  pub reached : AllByRecursion (IsStanding p front) places
  pub apart : NoTwo (λ s t. configuration_in s ≡ configuration_in t) places
  pub small : length places ≤ limit

-- whether a row is new, the rows with it, and its place
abbrev pub IsRowPlaced : List RowShape → RowShape → ℕ → Bool → List RowShape → Type 0
IsRowPlaced before r i new after = IsInserted before r new after × (slice_get after i ≡ Some r)

-- some more places
abbrev pub AreMore : List StandingShape → List StandingShape → Type 0
AreMore before after = (added : List StandingShape) × (after ≡ before ++ added)

-- at most one more place, and one of them for a configuration
pub record IsPlaced (before after : List StandingShape) (g : Configuration) (i : ℕ) : Type 0 where
  pub more : AreMore before after
  pub few : length after ≤ suc (length before)
  pub there : HasPlaceFor after i g

-- a place before another, or the same one and a client before another
abbrev pub IsBehind : (at client : ℕ) → (i c : ℕ) → Type 0
IsBehind at client i c = (i < at) ⊎ ((i ≡ at) × (c < client))

-- the leads of all places before one, and of that one by all clients before one
pub record AreLeadsUpTo (p : ProgramShape) (places : List StandingShape) (leads : List Lead)
    (at client : ℕ) : Type 0 where
  pub each : AllByRecursion (IsLead p places) leads
  pub behind : AllByRecursion (λ (l : Lead). IsBehind at client l.from l.client) leads
  pub all : (i c : ℕ) (s : StandingShape) → slice_get places i ≡ Some s → GoesOn p s c → IsBehind at client i c
      → HasOne (IsLeadOf i c) leads
  pub sorted : EachTwo IsSooner leads
