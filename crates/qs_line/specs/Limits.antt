-- Beside what the headline reaches (`audit/Limits.antt`): what else contracts and proofs use.
use Rattle.std.specs.Prelude.{ℕ}

-- runs on threads whose ends are counted
abbrev pub most_times : ℕ
most_times = 100000

-- blocks that a front may have: all of all clients
abbrev pub most_front : ℕ
most_front = 512

-- threads that a search may take
abbrev pub most_threads : ℕ
most_threads = 64
