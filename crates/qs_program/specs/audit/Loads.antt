-- How many requests a list of statements can make on an object, and how many steps it can take.
use Rattle.std.specs.Prelude.{ℕ, ◌+◌, ◌*◌, max, ◌==◌, if◌then◌else◌}
use Rattle.qs_program.specs.audit.Statements.{Statements, end, command, query, assign, choose, again, leave}

abbrev pub load_of : Statements → ℕ → ℕ
load_of end h = 0
load_of (command c rest) h = (if c.object == h then 1 else 0) + load_of rest h
load_of (query x c rest) h = (if c.object == h then 1 else 0) + load_of rest h
load_of (assign x e rest) h = load_of rest h
load_of (choose t has_else first other rest) h = max (load_of first h) (load_of other h) + load_of rest h
load_of (again n body rest) h = n * load_of body h + load_of rest h
load_of (leave rest) h = load_of rest h

-- a repeat's empty body weighs 1, and no other list that has a statement weighs less
abbrev pub weight_of : Statements → ℕ
weight_of end = 0
weight_of (command c rest) = 1 + weight_of rest
weight_of (query x c rest) = 1 + weight_of rest
weight_of (assign x e rest) = 1 + weight_of rest
weight_of (choose t has_else first other rest) = 1 + max (weight_of first) (weight_of other) + weight_of rest
weight_of (again n body rest) = 1 + n * max 1 (weight_of body) + weight_of rest
weight_of (leave rest) = 1 + weight_of rest
