-- What the search depth first has seen, what it has yet to see, and what it has found. Of all configurations that differ
-- by a change of alike clients it goes on from one.
use Rattle.std.specs.Prelude.{◌≡◌, ℕ, List, [], ◌∷◌, ◌++◌, ◌⊎◌, ◌<◌, ◌≤◌, ◌+◌, ◌-◌, ◌*◌, Bool, length}
use Rattle.std.specs.List.{AllByRecursion}
use Rattle.qs_objects.specs.declared.held.Ticket.{Ticket}
use Rattle.qs_program.specs.audit.Program.{ProgramShape}
use Rattle.qs_alike.specs.Changes.{Becomes, Classes}
use Rattle.qs_alike.specs.Followed.{GoesOnUpTo, IsFollowedAfter, only_reduced}
use Rattle.qs_alike.specs.Keys.{IsKey}
use Rattle.qs_outcomes.specs.LeastOrders.{IsBefore, IsLeastFirst}
use Rattle.qs_outcomes.specs.Reached.{IsFollowedTo}
use Rattle.qs_standings.specs.Lists.{EachTwo, HasOne, NoTwo}
use Rattle.qs_standings.specs.Rows.{IsInserted}
use Rattle.qs_standings.specs.Standings.{IsFirst, IsOneOn, NoneNext, RowShape, StandingShape, configuration_in}

-- where the next block leads of a client that goes on
pub record IsOn (p : ProgramShape) (k : Classes) (front : List Ticket) (s : StandingShape) (c : ℕ)
    (n : StandingShape) : Type 0 where
  pub on : IsOneOn p s c n
  pub followed : IsFollowedAfter p k only_reduced front n.order

-- one with the property stands on the stack, or its key was seen
abbrev pub IsSeenOrAhead : ProgramShape → Classes → (StandingShape → Type 0) → List RowShape → List StandingShape
    → Type 0
IsSeenOrAhead p k Q rows stack = HasOne Q stack ⊎ HasOne (λ r. (n : StandingShape) × Q n × IsKey p k n r) rows

-- A row that was seen is the key of a standing; wherever the next block of one who goes on leads from there is seen or
-- ahead, and where no block is left it is found, but for a change.
pub record IsSeen (p : ProgramShape) (k : Classes) (front : List Ticket) (rows : List RowShape)
    (ahead results : List StandingShape) (r : RowShape) (s : StandingShape) : Type 0 where
  pub to : IsFollowedTo p k only_reduced front s
  pub key : IsKey p k s r
  pub closed : (c : ℕ) → GoesOnUpTo p k (configuration_in s) c → IsSeenOrAhead p k (IsOn p k front s c) rows ahead
  pub found : NoneNext p s → HasOne (λ x. Becomes k (configuration_in s) (configuration_in x)) results

-- found where no block is left, and seen
pub record IsFound (p : ProgramShape) (k : Classes) (front : List Ticket) (rows : List RowShape)
    (s : StandingShape) : Type 0 where
  pub to : IsFollowedTo p k only_reduced front s
  pub over : NoneNext p s
  pub seen : HasOne (IsKey p k s) rows

-- a standing that was reached by at most so many blocks after the front
abbrev pub IsReachedBy : List Ticket → (blocks : ℕ) → StandingShape → Type 0
IsReachedBy front blocks s = length s.order ≤ length front + blocks

pub record IsExplored (p : ProgramShape) (k : Classes) (front : List Ticket) (rows : List RowShape)
    (ahead results : List StandingShape) : Type 0 where
  pub stack : AllByRecursion (IsFollowedTo p k only_reduced front) ahead
  pub near : AllByRecursion (IsReachedBy front (length rows)) ahead
  pub first : IsSeenOrAhead p k (IsFirst p front) rows ahead
  pub seen : AllByRecursion (λ r. (s : StandingShape) × IsSeen p k front rows ahead results r s) rows
  pub once : NoTwo ◌≡◌ rows
  pub found : AllByRecursion (IsFound p k front rows) results
  pub apart : NoTwo (λ x y. Becomes k (configuration_in x) (configuration_in y)) results
  pub least : IsLeastFirst p k front rows ahead results

-- These were added: for each client from a number on that goes on, where its next block leads is among them, or its key
-- was seen. Each is before those that were added earlier.
pub record AreNextFrom (p : ProgramShape) (k : Classes) (front : List Ticket) (rows : List RowShape)
    (s : StandingShape) (from : ℕ) (added : List StandingShape) : Type 0 where
  pub next : AllByRecursion (λ n. (c : ℕ) × (from ≤ c) × IsOn p k front s c n) added
  pub sorted : EachTwo (λ m n. IsBefore n.order m.order) added
  pub each : (c : ℕ) → from ≤ c → c < length p.clients → GoesOnUpTo p k (configuration_in s) c
      → IsSeenOrAhead p k (IsOn p k front s c) rows added
  pub few : length added + from ≤ length p.clients

-- a list with these after it
abbrev pub IsLonger : ProgramShape → Classes → List Ticket → List RowShape → StandingShape → ℕ
    → (before after : List StandingShape) → Type 0
IsLonger p k front rows s from before after =
    (added : List StandingShape) × (after ≡ before ++ added) × AreNextFrom p k front rows s from added

-- where the client's next block leads, and its key was seen
abbrev pub WasSeen : ProgramShape → Classes → List Ticket → List RowShape → StandingShape → ℕ → Type 0
WasSeen p k front rows s c = HasOne (λ r. (n : StandingShape) × IsOn p k front s c n × IsKey p k n r) rows

-- one more where the client goes on and leads to what was not seen
abbrev pub IsPushed : ProgramShape → Classes → List Ticket → List RowShape → StandingShape → ℕ
    → (before after : List StandingShape) → Type 0
IsPushed p k front rows s c before after =
    ((n : StandingShape) × IsOn p k front s c n × (after ≡ before ++ n ∷ []))
    ⊎ ((WasSeen p k front rows s c ⊎ (GoesOnUpTo p k (configuration_in s) c → ⊥)) × (after ≡ before))

-- and no more rows than the limit
abbrev pub IsNoted : List RowShape → RowShape → ℕ → Bool → List RowShape → Type 0
IsNoted before r limit new after = IsInserted before r new after × (length after ≤ limit)

-- what is left to do falls with each standing that is taken off the stack
abbrev pub work_left : ℕ → List RowShape → List StandingShape → ℕ
work_left limit rows ahead = 9 * (limit - length rows) + length ahead
