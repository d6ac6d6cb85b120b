-- The variables of all clients as they are kept: of each client as many as a width says, one client's behind another's.
-- All others are 0.
use Rattle.std.specs.Prelude.{ℕ, zero, suc, ◌≤◌, ◌*◌, length, List, [], ◌∷◌, ◌++◌, drop, take, ℤ}
use Rattle.qs_program.specs.audit.Limits.{most_clients, most_variables}
use Rattle.qs_program.specs.audit.Values.{Locals}
use Rattle.qs_meaning.specs.audit.Serial.{zeros}

-- the first numbers of a list, and zeros in the place of those behind them
abbrev pub widened : ℕ → List ℤ → Locals
widened width numbers = take width numbers ++ drop width zeros

-- of so many clients
abbrev pub spread : ℕ → ℕ → List ℤ → List Locals
spread width zero numbers = []
spread width (suc n) numbers = widened width numbers ∷ spread width n (drop width numbers)

-- all of these are there
pub record IsSpread (width clients : ℕ) (numbers : List ℤ) : Type 0 where
  pub narrow : width ≤ most_variables
  pub few : clients ≤ most_clients
  pub all : clients * width ≤ length numbers
