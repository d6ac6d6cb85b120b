-- The load and the weight of a list of statements are those of its first statement and those of the rest together, and
-- a cap on a number can be put before or after it is multiplied. The loops that compute the load and the weight of a
-- block are proved with it. It goes by cases on the first statement, and for the cap by arithmetic.
use Rattle.std.proofs.Common.{◌≡◌, ℕ, zero, suc, ◌+◌, ◌*◌, ◌<◌, min, List, ◌∷◌, length, get_or, drop, arith, add-one, drop-cons}
use Rattle.qs_program.specs.declared.code.Stmt.{Stmt}
use Rattle.qs_program.specs.declared.code.Stmt.TheVariants.{Command}
use Rattle.qs_program.specs.audit.Loads.{load_of, weight_of}
use Rattle.qs_program.specs.Views.{statements_of, single}

pub load_of-cons : (s : Stmt) (xs : List Stmt) (h : ℕ) → load_of (statements_of (s ∷ xs)) h ≡ load_of (single s) h + load_of (statements_of xs) h
load_of-cons (Command c) xs h = omega arith
load_of-cons _ xs h = omega arith

pub load_of_drop : (xs : List Stmt) (i h : ℕ) (d : Stmt) → i < length xs → load_of (statements_of (drop i xs)) h ≡ load_of (single (get_or xs i d)) h + load_of (statements_of (drop (i + 1) xs)) h
load_of_drop xs i h d within = rw (drop-cons xs i d within, add-one) (load_of-cons (get_or xs i d) (drop (suc i) xs) h)

pub weight_of-cons : (s : Stmt) (xs : List Stmt) → weight_of (statements_of (s ∷ xs)) ≡ weight_of (single s) + weight_of (statements_of xs)
weight_of-cons (Command c) xs = omega arith
weight_of-cons _ xs = omega arith

pub weight_of_drop : (xs : List Stmt) (i : ℕ) (d : Stmt) → i < length xs → weight_of (statements_of (drop i xs)) ≡ weight_of (single (get_or xs i d)) + weight_of (statements_of (drop (i + 1) xs))
weight_of_drop xs i d within = rw (drop-cons xs i d within, add-one) (weight_of-cons (get_or xs i d) (drop (suc i) xs))

-- a cap commutes with a product
pub min_mul : (n x top : ℕ) → min (n * min x top) top ≡ min (n * x) top
min_mul zero x top = omega arith
min_mul (suc n) x top = grind arith

-- counts that are capped may be added one after another
pub add_capped : (l t a b c top : ℕ) → c ≡ a + b → min (min (l + t * a) top + t * b) top ≡ min (l + t * c) top
add_capped l t a b c top e = let parts : t * c ≡ t * a + t * b = rw e (omega arith) in grind (arith, parts)

-- a cap commutes with a product, where more is added
pub min_add : (l n x top : ℕ) → min (l + min n top * x) top ≡ min (l + n * x) top
min_add l n x top =
    let capped : min (x * min n top) top ≡ min (x * n) top = min_mul x n top in
    let left : min n top * x ≡ x * min n top = omega arith in
    let right : n * x ≡ x * n = omega arith in
    omega (arith, capped, left, right)

pub times_again : (t n x : ℕ) → t * n * x ≡ t * (n * x + 0)
times_again t n x = grind arith
