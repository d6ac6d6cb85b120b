-- A statement that is pushed to a list of statements is joined to its end, and a statement of a list has no more
-- statements in it than the list. The first is the proof of `push`, and by the second the functions that go down into
-- bodies come to an end. Joining lists of statements is associative, which the loops that make one list of another
-- stand on. All go by induction on the list.
use Rattle.std.proofs.Common.{◌≡◌, ◌≤◌, ◌<◌, ℕ, zero, suc, List, [], ◌∷◌, ◌++◌, length, get_or, refl, ap, arith}
use Rattle.qs_program.specs.declared.code.Stmt.{Stmt}
use Rattle.qs_program.specs.declared.code.Stmt.TheVariants.{Command, Query, Assign, If, Repeat, Leave}
use Rattle.qs_program.specs.audit.Statements.{Statements, end, command, query, assign, choose, again, leave}
use Rattle.qs_program.specs.Statements.{join_statements}
use Rattle.qs_program.specs.Views.{statements_of, single, size_of}

pub statements_of-append : (xs : List Stmt) (s : Stmt) → statements_of (xs ++ s ∷ []) ≡ join_statements (statements_of xs) (single s)
statements_of-append [] s = refl
statements_of-append (Command c ∷ xs) s = ap (command c) (statements_of-append xs s)
statements_of-append (Query x c ∷ xs) s = ap (query x c) (statements_of-append xs s)
statements_of-append (Assign x e ∷ xs) s = ap (assign x e) (statements_of-append xs s)
statements_of-append (If t b first other ∷ xs) s = ap (choose t b first other) (statements_of-append xs s)
statements_of-append (Repeat n body ∷ xs) s = ap (again n body) (statements_of-append xs s)
statements_of-append (Leave ∷ xs) s = ap leave (statements_of-append xs s)

-- a statement of a list has no more statements than the list
pub size_at : (xs : List Stmt) (i : ℕ) (d : Stmt) → i < length xs → size_of (single (get_or xs i d)) ≤ size_of (statements_of xs)
size_at [] i d within = absurd (omega arith)
size_at (Command c ∷ xs) zero d within = omega arith
size_at (Query x c ∷ xs) zero d within = omega arith
size_at (Assign x e ∷ xs) zero d within = omega arith
size_at (If t b first other ∷ xs) zero d within = omega arith
size_at (Repeat n body ∷ xs) zero d within = omega arith
size_at (Leave ∷ xs) zero d within = omega arith
size_at (Command c ∷ xs) (suc i) d within = omega (arith, size_at xs i d (omega arith))
size_at (Query x c ∷ xs) (suc i) d within = omega (arith, size_at xs i d (omega arith))
size_at (Assign x e ∷ xs) (suc i) d within = omega (arith, size_at xs i d (omega arith))
size_at (If t b first other ∷ xs) (suc i) d within = omega (arith, size_at xs i d (omega arith))
size_at (Repeat n body ∷ xs) (suc i) d within = omega (arith, size_at xs i d (omega arith))
size_at (Leave ∷ xs) (suc i) d within = omega (arith, size_at xs i d (omega arith))

-- ---- joined lists

pub joined_assoc : (xs ys zs : Statements) → join_statements (join_statements xs ys) zs ≡ join_statements xs (join_statements ys zs)
joined_assoc end ys zs = refl
joined_assoc (command c xs) ys zs = ap (command c) (joined_assoc xs ys zs)
joined_assoc (query x c xs) ys zs = ap (query x c) (joined_assoc xs ys zs)
joined_assoc (assign x e xs) ys zs = ap (assign x e) (joined_assoc xs ys zs)
joined_assoc (choose t b first other xs) ys zs = ap (choose t b first other) (joined_assoc xs ys zs)
joined_assoc (again n body xs) ys zs = ap (again n body) (joined_assoc xs ys zs)
joined_assoc (leave xs) ys zs = ap leave (joined_assoc xs ys zs)

pub joined-end : (xs : Statements) → join_statements xs end ≡ xs
joined-end end = refl
joined-end (command c xs) = ap (command c) (joined-end xs)
joined-end (query x c xs) = ap (query x c) (joined-end xs)
joined-end (assign x e xs) = ap (assign x e) (joined-end xs)
joined-end (choose t b first other xs) = ap (choose t b first other) (joined-end xs)
joined-end (again n body xs) = ap (again n body) (joined-end xs)
joined-end (leave xs) = ap leave (joined-end xs)
