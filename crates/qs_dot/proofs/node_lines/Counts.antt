-- How many anchors a list of statements has: those of its first statement and those of the others. What comes after the
-- anchors of a list is what comes after those of its statements, one after another; the loops that go through a body
-- stand on it.
use Rattle.qs_dot.proofs.Common.{◌≡◌, ℕ, suc, ◌+◌, ◌<◌, Bool, true, false, List, [], ◌∷◌, ◌++◌, length, get_or, drop, refl, ap, sym, ◌∙◌, length-append, arith, at_drop_more, drop-drop, Stmt, Command}
use Rattle.qs_dot.proofs.Common.{Query, Assign, If, IfElse, Repeat, Leave, Stmts, end, command, query, assign, choose, choose_else, again, leave, stmts_of, single, Name, call_anchors, expr_anchors}
use Rattle.qs_dot.proofs.Common.{anchors, given_anchors, anchor_count, rules}
use Rattle.qs_check.specs.declared.anchors.anchor.Anchor.TheVariants as m

given_count : (n : Name) (i : ℕ) (os : List Name) → length (given_anchors n i os) ≡ length os
given_count n i [] = refl
given_count n i (o ∷ os) = omega (arith, given_count n (suc i) os)

-- the anchors of a client that is started
pub started_count : (n t : Name) (os : List Name) → length os + 2 ≡ length (m.Client n ∷ m.Starts t (length os) ∷ given_anchors t 0 os)
started_count n t os = omega (arith, given_count t 0 os)

-- inside of a repeat there are as many as outside of one
pub same_count : (i j : Bool) (s : Stmts) → length (anchors i s) ≡ length (anchors j s)
same_count i j end = refl
same_count i j (command c rest) =
    omega (arith, length-append (call_anchors false c) (anchors i rest), length-append (call_anchors false c) (anchors j rest), same_count i j rest)
same_count i j (query x c rest) =
    omega (arith, length-append (call_anchors true c) (anchors i rest), length-append (call_anchors true c) (anchors j rest), same_count i j rest)
same_count i j (assign x e rest) =
    omega (arith, length-append (expr_anchors e) (anchors i rest), length-append (expr_anchors e) (anchors j rest), same_count i j rest)
same_count i j (choose t first rest) =
    omega (arith, length-append (anchors i first) (anchors i rest), length-append (anchors j first) (anchors j rest), same_count i j first, same_count i j rest)
same_count i j (choose_else t first other rest) =
    omega (arith, length-append (anchors i first) (anchors i other ++ anchors i rest), length-append (anchors j first) (anchors j other ++ anchors j rest), length-append (anchors i other) (anchors i rest), length-append (anchors j other) (anchors j rest), same_count i j first, same_count i j other, same_count i j rest)
same_count i j (again n body rest) =
    omega (arith, length-append (anchors true body) (anchors i rest), length-append (anchors true body) (anchors j rest), same_count i j rest)
same_count i j (leave rest) = omega (arith, same_count i j rest)

pub count-cons : (s : Stmt) (xs : List Stmt) → anchor_count (stmts_of (s ∷ xs)) ≡ anchor_count (single s) + anchor_count (stmts_of xs)
count-cons (Command c) xs =
    omega (arith, length-append (call_anchors false c) (anchors false (stmts_of xs)), length-append (call_anchors false c) [])
count-cons (Query x c) xs =
    omega (arith, length-append (call_anchors true c) (anchors false (stmts_of xs)), length-append (call_anchors true c) [])
count-cons (Assign x e) xs =
    omega (arith, length-append (expr_anchors e) (anchors false (stmts_of xs)), length-append (expr_anchors e) [])
count-cons (If t first) xs =
    omega (arith, length-append (anchors false first) (anchors false (stmts_of xs)), length-append (anchors false first) [])
count-cons (IfElse t first other) xs =
    omega (arith, length-append (anchors false first) (anchors false other ++ anchors false (stmts_of xs)), length-append (anchors false first) (anchors false other ++ []), length-append (anchors false other) (anchors false (stmts_of xs)), length-append (anchors false other) [])
count-cons (Repeat n body) xs =
    omega (arith, length-append (anchors true body) (anchors false (stmts_of xs)), length-append (anchors true body) [])
count-cons Leave xs = omega arith

-- the anchors of a repeat: its count, and those of its body
pub after_repeat : (n : ℕ) (body : Stmts) (es : List ℕ) → drop (anchor_count body) (drop 1 es) ≡ drop (anchor_count (single (Repeat n body))) es
after_repeat n body es = search (rules, drop-drop, same_count)

-- one statement more
pub after_more : (xs : List Stmt) (i : ℕ) (item : Stmt) (es after all : List ℕ)
    → drop (anchor_count (stmts_of (drop i xs))) es ≡ all → i < length xs → item ≡ get_or xs i item → after ≡ drop (anchor_count (single item)) es
    → drop (anchor_count (stmts_of (drop (i + 1) xs))) after ≡ all
after_more xs i item es after all h within item_is after_is =
    let rest = anchor_count (stmts_of (drop (i + 1) xs)) in
    let split : anchor_count (stmts_of (drop i xs)) ≡ anchor_count (single item) + rest =
    at_drop_more (λ ys. anchor_count (stmts_of ys)) xs i item within ∙ count-cons (get_or xs i item) (drop (i + 1) xs)
    ∙ ap (λ s. anchor_count (single s) + rest) (sym item_is) in
    ap (λ l. drop rest l) after_is ∙ drop-drop rest (anchor_count (single item)) es ∙ ap (λ n. drop n es) (sym split) ∙ h
