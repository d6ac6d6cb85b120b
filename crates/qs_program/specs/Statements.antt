-- Beside what the headline reaches (`audit/Statements.antt`): what else contracts and proofs use.
use Rattle.qs_program.specs.audit.Statements.{Statements, end, command, query, assign, choose, again, leave}

-- one list after another
abbrev pub join_statements : Statements → Statements → Statements
join_statements end ys = ys
join_statements (command c xs) ys = command c (join_statements xs ys)
join_statements (query x c xs) ys = query x c (join_statements xs ys)
join_statements (assign x e xs) ys = assign x e (join_statements xs ys)
join_statements (choose t b first other xs) ys = choose t b first other (join_statements xs ys)
join_statements (again n body xs) ys = again n body (join_statements xs ys)
join_statements (leave xs) ys = leave (join_statements xs ys)
