-- A list of statements is the statement at an index joined with those after it, and no statement is larger than its
-- list. By this the check's functions that go down into bodies come to an end, and their loops keep what they have so
-- far. It goes by induction on the list.
use Rattle.std.proofs.Common.{ℕ, zero, suc, ◌<◌, ◌≤◌, List, [], ◌∷◌, length, get_or, arith}
use Rattle.qs_script.specs.Types.{Stmt, Command}
use Rattle.qs_script.specs.tree.Views.{stmts_of, single, size_of}

-- a single statement is at most as large as the list in which it stands
pub size_at : (xs : List Stmt) (i : ℕ) (d : Stmt) → i < length xs → size_of (single (get_or xs i d)) ≤ size_of (stmts_of xs)
size_at [] i d within = absurd (omega arith)
size_at (Command c ∷ xs) zero d within = omega arith
size_at (_ ∷ xs) zero d within = omega arith
size_at (Command c ∷ xs) (suc i) d within = omega (arith, size_at xs i d (omega arith))
size_at (_ ∷ xs) (suc i) d within = omega (arith, size_at xs i d (omega arith))
