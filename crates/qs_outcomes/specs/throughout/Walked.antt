-- What the search breadth first has noted, and from which of these standings it has gone on. It goes on from them in the
-- order in which they were noted, so those with fewer blocks come first. It keeps those that wait, and of the others
-- their keys.
use Rattle.std.specs.Prelude.{◌≡◌, ◌<◌, ◌≤◌, ◌+◌, ℕ, suc, Bool, false, List, ◌∷◌, ◌++◌, [], length}
use Rattle.std.specs.List.{AllByRecursion, AllZip}
use Rattle.qs_objects.specs.declared.held.Ticket.{Ticket}
use Rattle.qs_program.specs.audit.Program.{ProgramShape}
use Rattle.qs_meaning.specs.audit.Configurations.{Configuration, configuration_after, one_block_on}
use Rattle.qs_meaning.specs.Configurations.{OrderOutcome}
use Rattle.qs_meaning.specs.audit.Serial.{IsLegal}
use Rattle.qs_alike.specs.Changes.{Becomes, Classes}
use Rattle.qs_alike.specs.Followed.{all_legal}
use Rattle.qs_alike.specs.Keys.{IsKey}
use Rattle.qs_outcomes.specs.Answers.{AreUnmet}
use Rattle.qs_outcomes.specs.Outcomes.{outcome_at}
use Rattle.qs_outcomes.specs.Reached.{IsFollowedTo}
use Rattle.qs_standings.specs.Lists.{EachTwo, HasOne, NoTwo}
use Rattle.qs_standings.specs.Standings.{HasNext, RowShape, StandingShape, configuration_in}

-- The standings that were noted, with their keys: none becomes another, each is reached by fewer blocks after the front
-- than there are of them, and none is what is asked for.
pub record AreNoted (p : ProgramShape) (k : Classes) (front : List Ticket) (limit : ℕ) (asked : OrderOutcome → Bool)
    (kept : List RowShape) (places : List StandingShape) : Type 0 where
  pub keys : AllZip (λ r s. IsKey p k s r) kept places
  pub reached : AllByRecursion (IsFollowedTo p k all_legal front) places
  pub apart : NoTwo (λ s t. Becomes k (configuration_in s) (configuration_in t)) places
  pub near : AllByRecursion (λ s. length s.order < length front + length places) places
  pub small : length places ≤ limit
  pub unmet : AreUnmet asked places

-- a configuration becomes what it holds, after so many blocks at most
abbrev pub IsAtWithin : Classes → Configuration → ℕ → StandingShape → Type 0
IsAtWithin k g most s = Becomes k g (configuration_in s) × (length s.order ≤ most)

-- what legal orders with fewer blocks lead to was noted, but for a change
abbrev pub AreFewerNoted : ProgramShape → Classes → List Ticket → List StandingShape → ℕ → Type 0
AreFewerNoted p k front places many =
    (rest : List Ticket) → IsLegal p (front ++ rest) → length (front ++ rest) < many
    → HasOne (λ s. Becomes k (configuration_after p (front ++ rest)) (configuration_in s)) places

-- where the client's next block leads was noted, but for a change, if it has one left
abbrev pub IsNextNoted : ProgramShape → Classes → List StandingShape → StandingShape → ℕ → Type 0
IsNextNoted p k places s c =
    HasNext p s c → HasOne (IsAtWithin k (one_block_on p c (configuration_in s)) (suc (length s.order))) places

-- as many blocks as this, or one more
abbrev pub IsAbout : ℕ → StandingShape → Type 0
IsAbout blocks s = (blocks ≤ length s.order) × (length s.order ≤ suc blocks)

-- The search has gone on from the first of those that were noted, which have so many blocks at most: where their next
-- blocks lead was noted. The others wait, those with fewer blocks first, and have as many blocks, or one more.
pub record IsWalked (p : ProgramShape) (k : Classes) (front : List Ticket) (blocks : ℕ)
    (walked waiting : List StandingShape) : Type 0 where
  pub first : HasOne (IsAtWithin k (configuration_after p front) (length front)) (walked ++ waiting)
  pub closed : AllByRecursion (λ s. (c : ℕ) → IsNextNoted p k (walked ++ waiting) s c) walked
  pub before : AllByRecursion (λ s. length s.order ≤ blocks) walked
  pub behind : AllByRecursion (IsAbout blocks) waiting
  pub sorted : EachTwo (λ s t. length s.order ≤ length t.order) waiting

-- these keys were noted, and these standings wait: the search has gone on from some others
pub record HasWalked (p : ProgramShape) (k : Classes) (front : List Ticket) (limit : ℕ) (asked : OrderOutcome → Bool)
    (rows : List RowShape) (waiting : List StandingShape) : Type 0 where
  pub walked : List StandingShape
  pub blocks : ℕ
  pub noted : AreNoted p k front limit asked rows (walked ++ waiting)
  pub turn : IsWalked p k front blocks walked waiting

-- It goes on from a standing, the first of those that wait: where the next blocks of all clients before one lead was
-- noted.
pub record IsGoingOn (p : ProgramShape) (k : Classes) (front : List Ticket) (limit : ℕ) (asked : OrderOutcome → Bool)
    (rows : List RowShape) (s : StandingShape) (client : ℕ) (waiting : List StandingShape) : Type 0 where
  pub walked : List StandingShape
  pub noted : AreNoted p k front limit asked rows (walked ++ s ∷ waiting)
  pub turn : IsWalked p k front (length s.order) walked (s ∷ waiting)
  pub here : (c : ℕ) → c < client → IsNextNoted p k (walked ++ s ∷ waiting) s c

-- a standing that is not what is asked for waits behind the others
pub record IsTakenIn (asked : OrderOutcome → Bool) (s : StandingShape)
    (before after : List StandingShape) : Type 0 where
  pub unmet : asked (outcome_at s) ≡ false
  pub last : after ≡ before ++ s ∷ []
