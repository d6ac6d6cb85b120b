-- Lists of statements can be joined in any grouping, the empty list changes nothing, and a statement that is pushed to
-- a list is joined to its end. The loops of the reader stand on the first two, and the proof of `push` on the third.
-- Each goes by induction on the list.
use Rattle.std.proofs.Common.{◌≡◌, List, [], ◌∷◌, ◌++◌, refl, ap}
use Rattle.qs_script.specs.Types.{Stmt, Command}
use Rattle.qs_script.specs.audit.tree.Tree.{Stmts, end, command, query, assign, choose, choose_else, again, leave}
use Rattle.qs_script.specs.tree.Tree.{join_statements}
use Rattle.qs_script.specs.tree.Views.{stmts_of, single}

pub stmts_appended : (xs : List Stmt) (s : Stmt) → stmts_of (xs ++ s ∷ []) ≡ join_statements (stmts_of xs) (single s)
stmts_appended [] s = refl
stmts_appended (Command c ∷ xs) s = cc (stmts_appended xs s)
stmts_appended (_ ∷ xs) s = cc (stmts_appended xs s)

pub joined_assoc : (xs ys zs : Stmts) → join_statements (join_statements xs ys) zs ≡ join_statements xs (join_statements ys zs)
joined_assoc end ys zs = refl
joined_assoc (command c xs) ys zs = ap (command c) (joined_assoc xs ys zs)
joined_assoc (query v c xs) ys zs = ap (query v c) (joined_assoc xs ys zs)
joined_assoc (assign v e xs) ys zs = ap (assign v e) (joined_assoc xs ys zs)
joined_assoc (choose t first xs) ys zs = ap (choose t first) (joined_assoc xs ys zs)
joined_assoc (choose_else t first other xs) ys zs = ap (choose_else t first other) (joined_assoc xs ys zs)
joined_assoc (again n body xs) ys zs = ap (again n body) (joined_assoc xs ys zs)
joined_assoc (leave xs) ys zs = ap leave (joined_assoc xs ys zs)

pub joined-end : (xs : Stmts) → join_statements xs end ≡ xs
joined-end end = refl
joined-end (command c xs) = ap (command c) (joined-end xs)
joined-end (query v c xs) = ap (query v c) (joined-end xs)
joined-end (assign v e xs) = ap (assign v e) (joined-end xs)
joined-end (choose t first xs) = ap (choose t first) (joined-end xs)
joined-end (choose_else t first other xs) = ap (choose_else t first other) (joined-end xs)
joined-end (again n body xs) = ap (again n body) (joined-end xs)
joined-end (leave xs) = ap leave (joined-end xs)
