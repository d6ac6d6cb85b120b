-- What a count of runs keeps from one run to the next, and how it goes on.
use Rattle.std.specs.Prelude.{◌≡◌, ◌⊎◌, ℕ, suc, Bool, true, false, Some, List, [], ◌∷◌, ◌++◌, map, slice_get, slice_set}
use Rattle.std.specs.List.{AllByRecursion}
use Rattle.qs_objects.specs.declared.held.Ticket.{Ticket}
use Rattle.qs_program.specs.audit.Program.{ProgramShape}
use Rattle.qs_meaning.specs.audit.Configurations.{IsComplete}
use Rattle.qs_meaning.specs.Configurations.{outcome_of}
use Rattle.qs_outcomes.specs.Outcomes.{HasPlaces, outcome_at}
use Rattle.qs_standings.specs.Standings.{IsStanding, RowShape, StandingShape, row_of}
use Rattle.qs_tally.specs.Tallies.{AreListed, AreUnlisted, CameTo, CountedShape, IsCountOf, IsEnd, standings_in}

-- a standing at the end of a complete order
pub record IsAtEnd (p : ProgramShape) (s : StandingShape) : Type 0 where
  pub standing : IsStanding p s.order s
  pub complete : IsComplete p s.order

-- the rows that are kept are those of the ends
pub record AreTabled (p : ProgramShape) (kept : List RowShape) (ends : List CountedShape) : Type 0 where
  pub rows : kept ≡ map (row_of p) (standings_in ends)
  pub at_end : AllByRecursion (IsAtEnd p) (standings_in ends)

-- an end to which no run has come yet
abbrev pub not_yet : StandingShape → CountedShape
not_yet s = record { standing = s; times = 0 }

-- an end to which one more run has come
abbrev pub once_more : CountedShape → CountedShape
once_more e = record { standing = e.standing; times = suc e.times }

-- an order comes to none of these
abbrev pub ComesToNone : ProgramShape → List Ticket → List StandingShape → Type 0
ComesToNone p order ss = AllByRecursion (λ s. outcome_at s ≡ outcome_of p order → ⊥) ss

-- behind the ends there is one more, to which no run has come yet: what an order comes to that comes to none of them
pub record IsAdded (p : ProgramShape) (order : List Ticket) (before after : List CountedShape) : Type 0 where
  pub standing : StandingShape
  pub along : standing.order ≡ order
  pub is_end : IsEnd p standing
  pub longer : after ≡ before ++ not_yet standing ∷ []
  pub new : ComesToNone p order (standings_in before)

-- the end to which an order comes has this place, where it was or was added
pub record IsPlaced (p : ProgramShape) (order : List Ticket) (place : ℕ) (before after : List CountedShape)
    : Type 0 where
  pub came : CameTo p after order place
  pub either : (after ≡ before) ⊎ IsAdded p order before after

-- one more order was counted
pub record IsCounted (p : ProgramShape) (order : List Ticket) (before after : List CountedShape) : Type 0 where
  pub place : ℕ
  pub between : List CountedShape
  pub placed : IsPlaced p order place before between
  pub more : (e : CountedShape) → slice_get between place ≡ Some e → after ≡ slice_set between place (once_more e)

-- another standing after the same order
pub record IsSameEnd (p : ProgramShape) (s t : StandingShape) : Type 0 where
  pub along : t.order ≡ s.order
  pub same : outcome_at t ≡ outcome_at s
  pub places : HasPlaces p t

abbrev pub HasNotCome : CountedShape → Type 0
HasNotCome e = e.times ≡ 0

-- the ends before the first run
pub record IsBegun (p : ProgramShape) (limit : ℕ) (listed : Bool) (ends : List CountedShape) : Type 0 where
  pub counted : IsCountOf p [] ends
  pub listed_all : listed ≡ true → AreListed p limit ends
  pub unlisted : listed ≡ false → AreUnlisted p limit ends
