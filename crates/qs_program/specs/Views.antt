-- What a slice of the code's statements means, and how many statements there are.
use Rattle.std.specs.Prelude.{ℕ, ◌+◌, List, [], ◌∷◌}
use Rattle.qs_program.specs.audit.Statements.{Statements, end, command, query, assign, choose, again, leave}
use Rattle.qs_program.specs.declared.code.Stmt.{Stmt}
use Rattle.qs_program.specs.declared.code.Stmt.TheVariants.{Command, Query, Assign, If, Repeat, Leave}

abbrev pub statements_of : List Stmt → Statements
statements_of [] = end
statements_of (Command c ∷ xs) = command c (statements_of xs)
statements_of (Query x c ∷ xs) = query x c (statements_of xs)
statements_of (Assign x e ∷ xs) = assign x e (statements_of xs)
statements_of (If t b first other ∷ xs) = choose t b first other (statements_of xs)
statements_of (Repeat n body ∷ xs) = again n body (statements_of xs)
statements_of (Leave ∷ xs) = leave (statements_of xs)

-- a list of one statement
abbrev pub single : Stmt → Statements
single s = statements_of (s ∷ [])

-- how many statements there are, inner ones too
abbrev pub size_of : Statements → ℕ
size_of end = 0
size_of (command c rest) = size_of rest + 1
size_of (query x c rest) = size_of rest + 1
size_of (assign x e rest) = size_of rest + 1
size_of (choose t b first other rest) = size_of first + size_of other + size_of rest + 1
size_of (again n body rest) = size_of body + size_of rest + 1
size_of (leave rest) = size_of rest + 1
