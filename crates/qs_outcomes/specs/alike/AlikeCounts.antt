-- What it is counted by for how many outcomes one of them stands: for each client those of its class from it on, and
-- which of these have the same variables.
use Rattle.std.specs.Prelude.{◌≡◌, ◌<◌, ◌≤◌, ℕ, List, length}
use Rattle.std.specs.List.{AllByRecursion}
use Rattle.qs_meaning.specs.Configurations.{OrderOutcome}
use Rattle.qs_standings.specs.Lists.{HasOne, NoTwo}
use Rattle.qs_alike.specs.Changes.{Classes}

-- one of a client's class, from that client on
abbrev pub IsAlikeFrom : Classes → ℕ → ℕ → Type 0
IsAlikeFrom k n c = (n ≤ c) × (k c ≡ k n)

-- one of these that has the same
abbrev pub IsSameFrom : Classes → OrderOutcome → ℕ → ℕ → Type 0
IsSameFrom k o n c = (n ≤ c) × (k c ≡ k n) × (o.locals c ≡ o.locals n)

-- all numbers below one that are such, each once
pub record AreThose (P : ℕ → Type 0) (to : ℕ) (xs : List ℕ) : Type 0 where
  pub sound : AllByRecursion (λ c. (c < to) × P c) xs
  pub complete : (c : ℕ) → c < to → P c → HasOne (λ d. d ≡ c) xs
  pub once : NoTwo ◌≡◌ xs

-- there are so many of them
abbrev pub CountsThose : (ℕ → Type 0) → ℕ → ℕ → Type 0
CountsThose P to count = (xs : List ℕ) × AreThose P to xs × (length xs ≡ count)
