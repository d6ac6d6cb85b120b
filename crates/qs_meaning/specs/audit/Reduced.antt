-- Reduced orders: at each configuration only some clients go on, those for whom it can matter who comes first, and yet
-- every outcome is reached. They are a smallest set of clients of which nobody else comes in the way: nobody else has a
-- block left that shares an object with the next block of one of them.
use Rattle.std.specs.Prelude.{ℕ}

-- how many blocks each client has begun
abbrev pub Counts : Type 0
Counts = ℕ → ℕ
