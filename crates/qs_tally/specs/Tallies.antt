-- How often each end of a program came in many runs, by the orders of these.
use Rattle.std.specs.Prelude.{◌≡◌, ◌<◌, ◌≤◌, ◌==◌, ℕ, Bool, Some, List, filter, length, map, slice_get}
use Rattle.std.specs.List.{AllByRecursion, AllZip}
use Rattle.qs_objects.specs.declared.held.Ticket.{Ticket}
use Rattle.qs_program.specs.audit.Program.{ProgramShape}
use Rattle.qs_meaning.specs.audit.Configurations.{IsComplete}
use Rattle.qs_meaning.specs.Configurations.{outcome_of}
use Rattle.qs_outcomes.specs.Outcomes.{AreApart, AreOutcomes, HasMoreThan, HasPlaces, OutcomesShape, outcome_at}
use Rattle.qs_standings.specs.Standings.{StandingShape}

-- where a program stands at an end, and in how many runs it came to it
pub record CountedShape : Type 0 where
  pub standing : StandingShape
  pub times : ℕ

-- the ends, and whether these are all outcomes of the program in their order
pub record TallyShape : Type 0 where
  pub ends : List CountedShape
  pub listed : Bool

abbrev pub tally_of : List CountedShape → Bool → TallyShape
tally_of ends listed = record { ends = ends; listed = listed }

abbrev pub standings_in : List CountedShape → List StandingShape
standings_in ends = map (λ (e : CountedShape). e.standing) ends

-- how often a number stands in a list of places
abbrev pub times_of : ℕ → List ℕ → ℕ
times_of k places = length (filter (λ place. place == k) places)

-- its order is complete, and comes to what it holds
pub record IsEnd (p : ProgramShape) (s : StandingShape) : Type 0 where
  pub complete : IsComplete p s.order
  pub outcome : outcome_at s ≡ outcome_of p s.order
  pub places : HasPlaces p s

-- the end at a place is what an order comes to
abbrev pub CameTo : ProgramShape → List CountedShape → List Ticket → ℕ → Type 0
CameTo p ends order place =
    (e : CountedShape) × (slice_get ends place ≡ Some e) × (outcome_at e.standing ≡ outcome_of p order)

-- Each order came to the end at its place, and each end has the number of the orders that came to it. No two ends are
-- equal, and each is one of the program.
pub record IsCountOf (p : ProgramShape) (orders : List (List Ticket)) (ends : List CountedShape) : Type 0 where
  pub places : List ℕ
  pub met : AllZip (CameTo p ends) orders places
  pub times : (k : ℕ) (e : CountedShape) → slice_get ends k ≡ Some e → e.times ≡ times_of k places
  pub apart : AreApart (standings_in ends)
  pub sound : AllByRecursion (IsEnd p) (standings_in ends)

-- the ends are all outcomes in their order, found over so many configurations at most
abbrev pub AreListed : ProgramShape → ℕ → List CountedShape → Type 0
AreListed p limit ends =
    (all : OutcomesShape) × AreOutcomes p all × (standings_in ends ≡ all.found) × (all.configurations ≤ limit)

abbrev pub HasCome : CountedShape → Type 0
HasCome e = 0 < e.times

-- there are more configurations, and each end has come
abbrev pub AreUnlisted : ProgramShape → ℕ → List CountedShape → Type 0
AreUnlisted p limit ends = HasMoreThan p limit × AllByRecursion HasCome ends
