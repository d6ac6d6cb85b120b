-- Beside what the headline reaches (`audit/run/BlockSizes.antt`): what else contracts and proofs use.
use Rattle.std.specs.Prelude.{ℕ, zero, suc, ◌+◌, List, map}
use Rattle.qs_syncset.specs.audit.Codes.{BlockCode, load_at}
use Rattle.qs_objects.specs.Traces.{TraceState, empty_trace}
use Rattle.qs_program.specs.audit.Limits.{most_objects}

-- the sum of f below n
abbrev pub sum_below : ℕ → (ℕ → ℕ) → ℕ
sum_below zero f = 0
sum_below (suc n) f = f n + sum_below n f

-- at most so many requests are made in a block
abbrev pub room_for : BlockCode → ℕ
room_for b = sum_below most_objects (load_at b)

-- the traces before the first block
abbrev pub empty_rows : List BlockCode → List TraceState
empty_rows blocks = map empty_trace (map room_for blocks)
