-- A level: all configurations after so many blocks, each with its least order, sorted by these orders.
use Rattle.std.specs.Prelude.{◌≡◌, ◌<◌, ◌≤◌, ◌+◌, ℕ, suc, List, ◌++◌, length}
use Rattle.std.specs.List.{AllByRecursion}
use Rattle.qs_objects.specs.declared.held.Ticket.{Ticket}
use Rattle.qs_program.specs.audit.Program.{ProgramShape}
use Rattle.qs_meaning.specs.audit.Configurations.{configuration_after}
use Rattle.qs_outcomes.specs.LeastOrders.{AreSorted}
use Rattle.qs_standings.specs.Lists.{HasOne}
use Rattle.qs_standings.specs.Standings.{GoesOn, IsStanding, StandingShape, configuration_in}
use Rattle.qs_levels.specs.meaning.Fronts.{AreDistinct, IsAfter, IsOnward}
use Rattle.qs_levels.specs.meaning.Onward.{IsOneLonger, IsReached, order_on}

-- Where an order leads that goes on from the front by so many blocks, one of these stands by an order that is no later.
pub record IsLevel (p : ProgramShape) (front : List Ticket) (blocks : ℕ) (level : List StandingShape) : Type 0 where
  pub each : AllByRecursion (IsAfter p front blocks) level
  pub once : AreDistinct level
  pub sorted : AreSorted level
  pub reached : (rest : List Ticket) → IsOnward p front blocks rest → IsReached p level (front ++ rest)

-- All to which a level leads by one block more.
pub record IsNextOf (p : ProgramShape) (front : List Ticket) (level next : List StandingShape) : Type 0 where
  pub standing : AllByRecursion (IsStanding p front) next
  pub onward : AllByRecursion (λ n. HasOne (λ s. IsOneLonger s n) level) next
  pub once : AreDistinct next
  pub sorted : AreSorted next
  pub reached : AllByRecursion (λ s. (c : ℕ) → GoesOn p s c → IsReached p next (order_on s c)) level

-- after some number of blocks
abbrev pub IsSomeLevel : ProgramShape → List Ticket → List StandingShape → Type 0
IsSomeLevel p front level = (blocks : ℕ) × IsLevel p front blocks level

-- All configurations after up to so many blocks, each once.
pub record AreNotedTo (p : ProgramShape) (front : List Ticket) (blocks : ℕ) (noted : List StandingShape) : Type 0 where
  pub each : AllByRecursion (λ s. IsStanding p front s × (length s.order ≤ length front + blocks)) noted
  pub once : AreDistinct noted
  pub all : (rest : List Ticket) (most : ℕ) → most ≤ blocks → IsOnward p front most rest
      → HasOne (λ s. configuration_in s ≡ configuration_after p (front ++ rest)) noted

-- A level, the next one, and how many configurations there are up to the level.
pub record IsSearched (p : ProgramShape) (front : List Ticket) (level next : List StandingShape)
    (count : ℕ) : Type 0 where
  pub blocks : ℕ
  pub is_level : IsLevel p front blocks level
  pub some : 0 < length level
  pub is_next : IsLevel p front (suc blocks) next
  pub noted : List StandingShape
  pub are_noted : AreNotedTo p front blocks noted
  pub counted : length noted ≡ count
