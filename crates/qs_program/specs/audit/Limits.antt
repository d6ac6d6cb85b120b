-- The limits of a program.
use Rattle.std.specs.Prelude.{ℕ}

abbrev pub most_objects : ℕ
most_objects = 8

-- each object has its own
abbrev pub most_handlers : ℕ
most_handlers = most_objects

abbrev pub most_clients : ℕ
most_clients = 8

-- of a client
abbrev pub most_blocks : ℕ
most_blocks = 64

-- of a client
abbrev pub most_variables : ℕ
most_variables = 16

-- of a repeat
abbrev pub most_turns : ℕ
most_turns = 1000

-- requests of a program
abbrev pub most_requests : ℕ
most_requests = 100000

-- steps of a program
abbrev pub most_steps : ℕ
most_steps = 1000000
