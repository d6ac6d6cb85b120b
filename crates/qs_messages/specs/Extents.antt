-- How far statements go: how deep they are nested, and how often a repeat turns.
use Rattle.std.specs.Prelude.{ℕ, ◌-◌, max}
use Rattle.qs_program.specs.Sound.{levels_of}
use Rattle.qs_program.specs.audit.Statements.{Statements, end, command, query, assign, choose, again, leave}

-- how many `if`s and `repeat`s the innermost statement stands in
abbrev pub nesting_of : Statements → ℕ
nesting_of b = levels_of b - 1

-- the most turns of a `repeat`
abbrev pub turns_of : Statements → ℕ
turns_of end = 0
turns_of (command c rest) = turns_of rest
turns_of (query x c rest) = turns_of rest
turns_of (assign x e rest) = turns_of rest
turns_of (choose t has_else first other rest) = max (max (turns_of first) (turns_of other)) (turns_of rest)
turns_of (again n body rest) = max (max (turns_of body) n) (turns_of rest)
turns_of (leave rest) = turns_of rest
