-- Which configurations a thread leads to. What all blocks count for that the clients have begun, by the remainder of a
-- division, says whose share a configuration is in; so each is in exactly one.
use Rattle.std.specs.Prelude.{◌≡◌, ◌<◌, ◌+◌, ◌*◌, ◌/◌, ◌%◌, ◌==◌, ◌&&◌, ℕ, suc, Bool, List, length, slice_index_or}
use Rattle.std.specs.List.{AllZip}
use Rattle.qs_program.specs.audit.Limits.{most_clients}
use Rattle.qs_program.specs.audit.Program.{ProgramShape, block_at, blocks_of}
use Rattle.qs_meaning.specs.audit.Reduced.{Counts}
use Rattle.qs_meaning.specs.Reduced.{goes_on}
use Rattle.qs_standings.specs.going.Going.{in_byte}
use Rattle.qs_standings.specs.Standings.{StandingShape, configuration_in}
use Rattle.qs_levels.specs.meaning.Weights.{weighted}
use Rattle.qs_levels.specs.declared.level.Going.{Going}

-- what a block of a client counts for: 0, 1, 1, 0, 0, 1, 1, 0
abbrev pub weight : ℕ → ℕ
weight c = c * (c + 1) / 2 % 2

-- what all begun blocks count for
abbrev pub mark_of : ProgramShape → Counts → ℕ
mark_of p begun = weighted weight (length p.clients) begun

-- whether a client is one of those who go on, and its next block leads to a configuration of the share with this
-- number, of so many
abbrev pub is_taken : ProgramShape → (number count : ℕ) → StandingShape → ℕ → Bool
is_taken p number count s c =
    goes_on p (configuration_in s).begun c && ((mark_of p (configuration_in s).begun + weight c) % count == number)

-- those clients as a set
abbrev pub AreTaken : ProgramShape → (number count : ℕ) → StandingShape → ℕ → Type 0
AreTaken p number count s set = (c : ℕ) → c < length p.clients → in_byte set c ≡ is_taken p number count s c

-- for each share, whose next blocks lead from there to the one with this number
pub record AreMasks (number count : ℕ) (masks : List ℕ) : Type 0 where
  pub long : length masks ≡ count
  pub each : (r c : ℕ) → r < count → c < most_clients
      → in_byte (slice_index_or masks r 0) c ≡ ((r + weight c) % count == number)

-- a client has a block left behind its next one that reserves the same objects
pub record ReservesAgain (p : ProgramShape) (begun : Counts) (c : ℕ) : Type 0 where
  pub left : suc (begun c) < blocks_of p c
  pub same : (block_at p c (begun c)).reserved ≡ (block_at p c (suc (begun c))).reserved

-- who goes on from a standing, and in which share of so many it is
pub record IsGoing (p : ProgramShape) (count : ℕ) (s : StandingShape) (g : Going) : Type 0 where
  pub clients : in_byte g.clients ≡ goes_on p (configuration_in s).begun
  pub share : g.share ≡ mark_of p (configuration_in s).begun % count

abbrev pub AreGoing : ProgramShape → ℕ → List StandingShape → List Going → Type 0
AreGoing p count ss gs = AllZip (IsGoing p count) ss gs
