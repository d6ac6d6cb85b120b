-- Beside what the headline reaches (`audit/tree/Tree.antt`): what else contracts and proofs use.
use Rattle.std.specs.Prelude.{ℕ, List}
use Rattle.qs_script.specs.declared.tree.tree.Atom.{Atom}
use Rattle.qs_script.specs.declared.tree.tree.Call.{Call}
use Rattle.qs_script.specs.audit.tree.Tree.{Stmts, end, command, query, assign, choose, choose_else, again, leave}

-- a request of these parts
abbrev pub call_of : (object op : List ℕ) → List Atom → Call
call_of object op args = record { object = object; op = op; args = args }

-- one list of statements after another
abbrev pub join_statements : Stmts → Stmts → Stmts
join_statements end ys = ys
join_statements (command c xs) ys = command c (join_statements xs ys)
join_statements (query v c xs) ys = query v c (join_statements xs ys)
join_statements (assign v e xs) ys = assign v e (join_statements xs ys)
join_statements (choose t first xs) ys = choose t first (join_statements xs ys)
join_statements (choose_else t first other xs) ys = choose_else t first other (join_statements xs ys)
join_statements (again n body xs) ys = again n body (join_statements xs ys)
join_statements (leave xs) ys = leave (join_statements xs ys)
