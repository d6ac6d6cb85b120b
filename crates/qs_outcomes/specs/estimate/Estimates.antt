-- How many configurations a search can have at most, and how many there are at least on the way, from how many blocks
-- each client has left.
use Rattle.std.specs.Prelude.{◌≡◌, ◌<◌, ◌≤◌, ◌+◌, ◌-◌, ◌*◌, ℕ, zero, suc, min, nat_le, if◌then◌else◌}
use Rattle.std.specs.Prelude.{List, [], ◌∷◌, length, slice_index, Option, Some, None}
use Rattle.qs_objects.specs.declared.held.Ticket.{Ticket}
use Rattle.qs_program.specs.audit.Limits.{most_blocks, most_clients}
use Rattle.qs_program.specs.audit.Program.{ClientShape, ProgramShape}
use Rattle.qs_meaning.specs.audit.Configurations.{configuration_after}
use Rattle.qs_meaning.specs.audit.Reduced.{Counts}
use Rattle.qs_outcomes.specs.declared.estimate.estimate.Estimate.{Estimate}

-- of clients from a number on, how many blocks each has after those that it has begun
abbrev pub left_from : Counts → ℕ → List ClientShape → List ℕ
left_from begun c [] = []
left_from begun c (x ∷ xs) = (length x.blocks - begun c) ∷ left_from begun (suc c) xs

-- how many blocks each client has left after an order
abbrev pub left : ProgramShape → List Ticket → List ℕ
left p front = left_from (configuration_after p front).begun 0 p.clients

-- in how many ways up to so many equal letters can be put into a word of so many others: the next letter of the word is
-- one of the equal ones, or the next of the others
abbrev pub insertions : ℕ → ℕ → ℕ
insertions zero m = 1
insertions (suc b) zero = suc (suc b)
insertions (suc b) (suc m) = insertions b (suc m) + insertions (suc b) m

-- in how many ways up to so many of each letter can be put into a word of so many others, one letter after another, if
-- all of the letters before were put in
abbrev pub most_from : ℕ → List ℕ → ℕ
most_from m [] = 1
most_from m (b ∷ bs) = insertions b m * most_from (m + b) bs

-- orders of up to so many blocks of each client: there are no more than this
abbrev pub most_orders : List ℕ → ℕ
most_orders bs = most_from 0 bs

-- the choices of how many of its blocks each client has run
abbrev pub least_orders : List ℕ → ℕ
least_orders [] = 1
least_orders (b ∷ bs) = suc b * least_orders bs

-- the greatest number that is told of a bound: 10^18
abbrev pub most_told : ℕ
most_told = 1000000000000000000

abbrev pub told : ℕ → Option ℕ
told n = if nat_le n most_told then Some n else None

-- no count goes further
abbrev pub past_told : ℕ
past_told = 1000000000000000001

abbrev pub capped : ℕ → ℕ
capped n = min n past_told

-- the ways for words of no others, of one, of two, and so on
abbrev pub IsRow : ℕ → List ℕ → Type 0
IsRow b row = (m : ℕ) → m < length row → slice_index row m ≡ capped (insertions b m)

-- no more clients than a program has, and of each no more blocks than a client has
pub record AreBlocksLeft (bs : List ℕ) : Type 0 where
  pub clients : length bs ≤ most_clients
  pub blocks : (i : ℕ) → slice_index bs i ≤ most_blocks

-- Of a search after an order: the bound, where it is not too great to be told; and how many configurations there are at
-- least, if all on the way count.
pub record IsEstimateAfter (p : ProgramShape) (front : List Ticket) (e : Estimate) : Type 0 where
  pub most : e.most ≡ told (most_orders (left p front))
  pub least : e.least ≡ least_orders (left p front)
