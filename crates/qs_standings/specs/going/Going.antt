-- Sets of clients as bytes, and the last block of each client that reserves an object: by these who goes on is found
-- without memory.
use Rattle.std.specs.Prelude.{◌≡◌, ◌<◌, ◌==◌, ℕ, List, [], length, drop, nat_lt, slice_index_or}
use Rattle.std.specs.List.{list_any}
pub use Rattle.qs_objects.specs.ByteSets.{in_byte}
use Rattle.qs_program.specs.audit.Limits.{most_objects}
use Rattle.qs_program.specs.audit.Program.{ProgramShape, client_at}
use Rattle.qs_meaning.specs.audit.Reduced.{Counts}
use Rattle.qs_meaning.specs.Reduced.{block_reserves, comes_in, group_of, wider}

-- how many blocks each client has begun, by a list
abbrev pub begun_counts : List ℕ → Counts
begun_counts begun c = slice_index_or begun c 0

-- For each object how many blocks a client has up to the last one that reserves it: a block from a place on reserves
-- the object exactly where the place is below this number.
abbrev pub IsLast : ProgramShape → ℕ → List ℕ → Type 0
IsLast p c last =
    (k h : ℕ) → h < most_objects
    → list_any (block_reserves h) (drop k (client_at p c).blocks) ≡ nat_lt k (slice_index_or last h 0)

-- for each client
pub record AreLast (p : ProgramShape) (rows : List (List ℕ)) : Type 0 where
  pub count : length rows ≡ length p.clients
  pub each : (c : ℕ) → c < length p.clients → IsLast p c (slice_index_or rows c [])

-- for each client, who comes in its way
abbrev pub AreComers : ProgramShape → List ℕ → List ℕ → Type 0
AreComers p begun rows =
    (c : ℕ) → c < length p.clients → in_byte (slice_index_or rows c 0) ≡ comes_in p (begun_counts begun) c

-- the set that is grown from whichever client this is the set after one round of
abbrev pub IsGrown : ProgramShape → List ℕ → ℕ → ℕ → Type 0
IsGrown p begun first set =
    (c : ℕ) → c < length p.clients → wider p (begun_counts begun) (λ d. c == d) ≡ in_byte first
    → group_of p (begun_counts begun) c ≡ in_byte set
