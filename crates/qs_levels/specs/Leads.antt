-- How a level is led on, as far as a share of the configurations goes. The next blocks of those who go on give orders
-- that are longer by one block; for each configuration of the share to which these lead, a table has its row, and the
-- standing there by the least of these orders.
use Rattle.std.specs.Prelude.{◌≡◌, ◌<◌, ◌⊎◌, ℕ, zero, suc, true, false, if◌then◌else◌, List, [], ◌∷◌, ◌++◌, length, map, flat_map, slice_index_or}
use Rattle.std.specs.List.{AllByRecursion}
use Rattle.qs_objects.specs.declared.held.Ticket.{Ticket}
use Rattle.qs_program.specs.audit.Program.{ProgramShape}
use Rattle.qs_outcomes.specs.LeastOrders.{AreSorted}
use Rattle.qs_standings.specs.Lists.{HasOne, NoTwo}
use Rattle.qs_standings.specs.Rows.{rows_in}
use Rattle.qs_standings.specs.Standings.{IsNext, IsStanding, RowShape, StandingShape, configuration_in, row_of}
use Rattle.qs_meaning.specs.Reduced.{goes_on}
use Rattle.qs_standings.specs.going.Going.{in_byte}
use Rattle.qs_levels.specs.meaning.Onward.{IsReached, order_on}
use Rattle.qs_levels.specs.Shares.{is_taken}
use Rattle.qs_levels.specs.Founds.{Found, found_in, no_standing, zipped}
use Rattle.qs_levels.specs.declared.table.Lead.{Lead}
use Rattle.qs_levels.specs.declared.table.Table.{Table}

-- Of the standings to which these orders lead, these are kept: each by one of the orders, no two in one configuration,
-- and for each order one that is there by an order that is no later.
pub record AreKept (p : ProgramShape) (front : List Ticket) (orders : List (List Ticket))
    (standings : List StandingShape) : Type 0 where
  pub standing : AllByRecursion (IsStanding p front) standings
  pub by_order : AllByRecursion (λ s. HasOne (λ order. s.order ≡ order) orders) standings
  pub once : NoTwo (λ s t. row_of p s ≡ row_of p t) standings
  pub sorted : AreSorted standings
  pub reached : AllByRecursion (IsReached p standings) orders

-- the orders by which those of the clients below n lead on who lead to a configuration of the share
abbrev pub leads_below : ProgramShape → (number count : ℕ) → StandingShape → ℕ → List (List Ticket)
leads_below p number count s zero = []
leads_below p number count s (suc c) =
    if is_taken p number count s c then leads_below p number count s c ++ order_on s c ∷ [] else leads_below p number count s c

-- of all clients from all of these standings
abbrev pub leads : ProgramShape → (number count : ℕ) → List StandingShape → List (List Ticket)
leads p number count ss = flat_map (λ s. leads_below p number count s (length p.clients)) ss

-- rows, and what was found at each
pub record TableShape : Type 0 where
  pub rows : List RowShape
  pub found : List Found

abbrev pub tabled : Table → TableShape
tabled t = record { rows = rows_in t.rows.keys; found = zipped t.marks.items t.standings }

-- a mark for each standing
abbrev pub AreEven : Table → Type 0
AreEven t = length t.marks.items ≡ length t.standings

-- where a lead to a configuration of the share leads from one of these standings
pub record IsLead (p : ProgramShape) (front : List Ticket) (number count : ℕ) (ss : List StandingShape)
    (f : Found) : Type 0 where
  pub within : f.lead.source < length ss
  pub taken : is_taken p number count (slice_index_or ss f.lead.source no_standing) f.lead.client ≡ true
  pub next : IsNext p front (slice_index_or ss f.lead.source no_standing) f.lead.client f.standing

-- of each that was found it is known who goes on from there
abbrev pub AreKnown : ProgramShape → List Found → Type 0
AreKnown p found =
    AllByRecursion (λ (f : Found). in_byte f.going ≡ goes_on p (configuration_in f.standing).begun) found

-- of the standings to which these orders lead, those in a table are kept
pub record IsTableOf (p : ProgramShape) (front : List Ticket) (number count : ℕ) (ss : List StandingShape)
    (orders : List (List Ticket)) (t : TableShape) : Type 0 where
  pub are_rows : t.rows ≡ map (row_of p) (found_in t.found)
  pub kept : AreKept p front orders (found_in t.found)
  pub by_lead : AllByRecursion (IsLead p front number count ss) t.found

-- all configurations of a share to which these standings lead by one block more
pub record IsPartOf (p : ProgramShape) (front : List Ticket) (number count : ℕ) (ss : List StandingShape)
    (found : List Found) : Type 0 where
  pub kept : AreKept p front (leads p number count ss) (found_in found)
  pub by_lead : AllByRecursion (IsLead p front number count ss) found
  pub known : AreKnown p found

-- with a lead more
abbrev pub with_lead : ProgramShape → TableShape → Lead → StandingShape → ℕ → TableShape
with_lead p t lead n going = record {
  rows = t.rows ++ row_of p n ∷ [];
  found = t.found ++ record { lead = lead; standing = n; going = going } ∷ [];
}

-- a client leads on: its lead is added, or the row of where it leads is there
abbrev pub IsLedOn : ProgramShape → List Ticket → StandingShape → Lead → (before after : TableShape) → Type 0
IsLedOn p front s lead before after =
    (n : StandingShape) × IsNext p front s lead.client n
    × (((HasOne (λ r. row_of p n ≡ r) before.rows → ⊥) × (going : ℕ) × (after ≡ with_lead p before lead n going))
    ⊎ (HasOne (λ r. row_of p n ≡ r) before.rows × (after ≡ before)))

-- those of the clients below n lead on who lead to a configuration of the share, one after another, from a standing at
-- a place
abbrev pub IsLedUpTo : ProgramShape → List Ticket → (number count : ℕ) → StandingShape → (place n : ℕ)
    → (before after : TableShape) → Type 0
IsLedUpTo p front number count s place zero before after = after ≡ before
IsLedUpTo p front number count s place (suc c) before after =
    (middle : TableShape) × IsLedUpTo p front number count s place c before middle
    × (is_taken p number count s c ≡ true
    → IsLedOn p front s (record { source = place; client = c }) middle after)
    × (is_taken p number count s c ≡ false → after ≡ middle)

-- a table with one more than there is room for
abbrev pub IsOverfull : ℕ → TableShape → Type 0
IsOverfull room t = length t.rows ≡ suc room

-- where some client leads on, there is no room for what is kept
abbrev pub IsLedTooFar : ProgramShape → List Ticket → (number count : ℕ) → StandingShape → (place room : ℕ)
    → TableShape → Type 0
IsLedTooFar p front number count s place room before =
    (c : ℕ) × (after : TableShape) × IsLedUpTo p front number count s place c before after × IsOverfull room after
