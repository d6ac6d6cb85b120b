-- What a list of the code's statements means.
use Rattle.std.specs.Prelude.{ℕ, ◌+◌, List, [], ◌∷◌}
use Rattle.qs_script.specs.audit.tree.Tree.{Stmts, end, command, query, assign, choose, choose_else, again, leave}
use Rattle.qs_script.specs.declared.tree.tree.Stmt.{Stmt}
use Rattle.qs_script.specs.declared.tree.tree.Stmt.TheVariants.{Command, Query, Assign, If, IfElse, Repeat, Leave}

abbrev pub stmts_of : List Stmt → Stmts
stmts_of [] = end
stmts_of (Command c ∷ xs) = command c (stmts_of xs)
stmts_of (Query v c ∷ xs) = query v c (stmts_of xs)
stmts_of (Assign v e ∷ xs) = assign v e (stmts_of xs)
stmts_of (If t first ∷ xs) = choose t first (stmts_of xs)
stmts_of (IfElse t first other ∷ xs) = choose_else t first other (stmts_of xs)
stmts_of (Repeat n body ∷ xs) = again n body (stmts_of xs)
stmts_of (Leave ∷ xs) = leave (stmts_of xs)

-- a list of one statement
abbrev pub single : Stmt → Stmts
single s = stmts_of (s ∷ [])

-- how many statements there are, inner ones too
abbrev pub size_of : Stmts → ℕ
size_of end = 0
size_of (command c rest) = size_of rest + 1
size_of (query v c rest) = size_of rest + 1
size_of (assign v e rest) = size_of rest + 1
size_of (choose t first rest) = size_of first + size_of rest + 1
size_of (choose_else t first other rest) = size_of first + size_of other + size_of rest + 1
size_of (again n body rest) = size_of body + size_of rest + 1
size_of (leave rest) = size_of rest + 1
