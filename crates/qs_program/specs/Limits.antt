-- Beside what the headline reaches (`audit/Limits.antt`): what else contracts and proofs use.
use Rattle.std.specs.Prelude.{ℕ, ◌*◌}
use Rattle.qs_program.specs.audit.Limits.{most_clients, most_blocks}

-- of a template
abbrev pub most_formals : ℕ
most_formals = 8

-- of a program: one for each block of each client
abbrev pub most_tickets : ℕ
most_tickets = most_clients * most_blocks
