-- Beside what the headline reaches (`audit/Configurations.antt`): what else contracts and proofs use.
use Rattle.std.specs.Prelude.{◌≡◌, ◌<◌, ◌↔◌, ℕ, List, ◌++◌, length, take, drop}
use Rattle.qs_objects.specs.declared.held.Ticket.{Ticket}
use Rattle.qs_program.specs.audit.Limits.{most_variables}
use Rattle.qs_program.specs.audit.Program.{ProgramShape, blocks_of, client_at}
use Rattle.qs_program.specs.Sound.{IsSound}
use Rattle.qs_program.specs.audit.Values.{Locals}
use Rattle.qs_meaning.specs.audit.Serial.{IsLegal, zeros}
use Rattle.qs_meaning.specs.Serial.{serial}
use Rattle.qs_meaning.specs.audit.Solo.{States}
use Rattle.qs_meaning.specs.audit.Configurations.{Configuration, configuration_after, IsComplete}

abbrev pub HasBlockLeft : ProgramShape → Configuration → ℕ → Type 0
HasBlockLeft p g c = g.begun c < blocks_of p c

-- what an order comes to: the clients' variables and the objects' states at the end of its serial run
pub record OrderOutcome : Type 0 where
  pub locals : ℕ → Locals
  pub states : States

abbrev pub outcome_of : ProgramShape → List Ticket → OrderOutcome
outcome_of p order = let s = serial p order in record { locals = s.locals; states = s.states }

-- what some complete order comes to
abbrev pub IsProgramOutcome : ProgramShape → OrderOutcome → Type 0
IsProgramOutcome p x = (order : List Ticket) × IsComplete p order × (outcome_of p order ≡ x)

abbrev pub outcome_in : Configuration → OrderOutcome
outcome_in g = record { locals = g.locals; states = g.states }

-- The configuration after a legal order is what the serial run says of it.
abbrev pub ConfigurationsFollowOrders : Type 0
ConfigurationsFollowOrders =
    (p : ProgramShape) (order : List Ticket) → IsLegal p order
    → outcome_in (configuration_after p order) ≡ outcome_of p order

-- A legal order is complete exactly where no client has a block left after it.
abbrev pub CompleteOrdersLeaveNone : Type 0
CompleteOrdersLeaveNone =
    (p : ProgramShape) (order : List Ticket) → IsLegal p order
    → IsComplete p order ↔ ((c : ℕ) → (configuration_after p order).begun c ≡ blocks_of p c)

-- a client's variables: those that its text names, and 0 for the others
pub record AreNamedAlone (p : ProgramShape) (c : ℕ) (l : Locals) : Type 0 where
  pub long : length l ≡ most_variables
  pub named : l ≡ take (length (client_at p c).variables) l ++ drop (length (client_at p c).variables) zeros

-- After any order a variable that its client's text does not name is 0.
abbrev pub UnnamedStayZero : Type 0
UnnamedStayZero =
    (p : ProgramShape) → IsSound p → (order : List Ticket) (c : ℕ)
    → AreNamedAlone p c ((configuration_after p order).locals c)
