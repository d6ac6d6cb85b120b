-- Where the orders lead that a search follows after a front: how many configurations these are, of which none becomes
-- another by a change of alike clients.
use Rattle.std.specs.Prelude.{◌≡◌, ◌<◌, ◌+◌, ℕ, suc, List, ◌++◌, length}
use Rattle.std.specs.List.{AllByRecursion}
use Rattle.qs_objects.specs.declared.held.Ticket.{Ticket}
use Rattle.qs_program.specs.audit.Program.{ProgramShape}
use Rattle.qs_meaning.specs.audit.Configurations.{configuration_after}
use Rattle.qs_meaning.specs.audit.Serial.{IsLegal}
use Rattle.qs_standings.specs.Lists.{HasOne, NoTwo}
use Rattle.qs_standings.specs.Standings.{IsStanding, StandingShape, configuration_in}
use Rattle.qs_alike.specs.Changes.{Becomes, Classes}
use Rattle.qs_alike.specs.Followed.{IsFollowedAfter, IsFollowedFrom, Orders}

-- where an order leads that begins with the front and is followed after it
pub record IsFollowedTo (p : ProgramShape) (k : Classes) (o : Orders) (front : List Ticket)
    (s : StandingShape) : Type 0 where
  pub standing : IsStanding p s.order s
  pub followed : IsFollowedAfter p k o front s.order

-- as many of these, of which none becomes another
pub record AreUnlike (p : ProgramShape) (k : Classes) (o : Orders) (front : List Ticket) (ss : List StandingShape)
    (many : ℕ) : Type 0 where
  pub count : length ss ≡ many
  pub reached : AllByRecursion (IsFollowedTo p k o front) ss
  pub unlike : NoTwo (λ s t. Becomes k (configuration_in s) (configuration_in t)) ss

-- so many were noted
abbrev pub HasNoted : ProgramShape → Classes → Orders → List Ticket → ℕ → Type 0
HasNoted p k o front many = (ss : List StandingShape) × AreUnlike p k o front ss many

-- and these are more than the blocks by which a standing is reached after the front
abbrev pub HasNotedUntil : ProgramShape → Classes → Orders → List Ticket → ℕ → StandingShape → Type 0
HasNotedUntil p k o front many s = HasNoted p k o front many × (length s.order < length front + many)

-- wherever such an order leads becomes one of these
abbrev pub AreAllReached : ProgramShape → Classes → Orders → List Ticket → List StandingShape → Type 0
AreAllReached p k o front ss =
    (rest : List Ticket) → IsLegal p (front ++ rest) → IsFollowedFrom p k o (configuration_after p front) rest
    → HasOne (λ s. Becomes k (configuration_after p (front ++ rest)) (configuration_in s)) ss

-- such orders lead to exactly so many configurations, but for changes
abbrev pub HasReached : ProgramShape → Classes → Orders → List Ticket → ℕ → Type 0
HasReached p k o front many =
    (ss : List StandingShape) × AreUnlike p k o front ss many × AreAllReached p k o front ss

-- and to more than so many
abbrev pub HasMore : ProgramShape → Classes → Orders → List Ticket → ℕ → Type 0
HasMore p k o front limit = HasNoted p k o front (suc limit)
