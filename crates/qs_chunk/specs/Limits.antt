-- Beside what the headline reaches (`audit/Limits.antt`): what else contracts and proofs use.
use Rattle.std.specs.Prelude.{ℕ}

-- requests in a chunk
abbrev pub largest_chunk : ℕ
largest_chunk = 32
