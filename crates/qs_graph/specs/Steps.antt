-- Beside what the headline reaches (`audit/Steps.antt`): what else contracts and proofs use.
use Rattle.std.specs.Prelude.{ℕ, ◌+◌, ◌*◌, max}
use Rattle.qs_program.specs.audit.Statements.{Statements, end, command, query, assign, choose, again, leave}

-- no walk through statements takes more nodes than this
abbrev pub steps : Statements → ℕ
steps end = 0
steps (command c rest) = 1 + steps rest
steps (query x c rest) = 2 + steps rest
steps (assign x e rest) = 1 + steps rest
steps (choose t has_else first other rest) = 1 + max (steps first) (steps other) + steps rest
steps (again n body rest) = 2 + n * (1 + steps body) + steps rest
steps (leave rest) = 1 + steps rest

-- Entry, the statements' nodes and Exit
abbrev pub whole_steps : Statements → ℕ
whole_steps body = 2 + steps body
