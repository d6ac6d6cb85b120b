-- The nodes of a list of statements are those of its first statement and then those of the others, which begin after
-- its anchors. The loop that goes through a body stands on it.
use Rattle.qs_dot.proofs.Common.{◌≡◌, ℕ, ◌+◌, ◌<◌, true, false, List, [], ◌∷◌, ◌++◌, length, get_or, drop, refl, ap, ap₂, sym, ◌∙◌, append-nil, append_assoc, length-append, arith, at_drop_more}
use Rattle.qs_dot.proofs.Common.{drop-drop, Stmt, Command, Query, Assign, If, IfElse, Repeat, Leave, stmts_of, single, call_anchors, expr_anchors, anchors, anchor_count, first_entry, statement_nodes}
use Rattle.qs_dot.proofs.node_lines.Counts.{same_count}

nodes-cons : (es : List ℕ) (s : Stmt) (xs : List Stmt) → statement_nodes es (stmts_of (s ∷ xs)) ≡ statement_nodes es (single s) ++ statement_nodes (drop (anchor_count (single s)) es) (stmts_of xs)
nodes-cons es (Command c) xs =
    ap (λ l. first_entry es ∷ statement_nodes (drop (length l) es) (stmts_of xs)) (sym (append-nil (call_anchors false c)))
nodes-cons es (Query x c) xs =
    let same : 1 + length (call_anchors true c) ≡ anchor_count (single (Query x c)) = omega (arith, length-append (call_anchors true c) []) in
    ap (λ n. first_entry es ∷ first_entry es ∷ statement_nodes (drop n es) (stmts_of xs)) same
nodes-cons es (Assign x e) xs =
    let same : 1 + length (expr_anchors e) ≡ anchor_count (single (Assign x e)) = omega (arith, length-append (expr_anchors e) []) in
    ap (λ n. first_entry es ∷ statement_nodes (drop n es) (stmts_of xs)) same
nodes-cons es (If t first) xs =
    let same : 2 + anchor_count first ≡ anchor_count (single (If t first)) = omega (arith, length-append (anchors false first) []) in
    ap₂ (λ (l r : List ℕ). first_entry es ∷ (l ++ statement_nodes r (stmts_of xs)))
    (sym (append-nil (statement_nodes (drop 2 es) first)))
    (drop-drop (anchor_count first) 2 es ∙ ap (λ n. drop n es) same)
nodes-cons es (IfElse t first other) xs =
    let inside = drop 2 es in
    let otherwise = drop (anchor_count first) inside in
    let one = statement_nodes inside first in
    let two = statement_nodes otherwise other in
    let same : 2 + anchor_count first + anchor_count other ≡ anchor_count (single (IfElse t first other)) =
    omega (arith, length-append (anchors false first) (anchors false other ++ []), length-append (anchors false other) []) in
    let left : drop (anchor_count other) otherwise ≡ drop (anchor_count (single (IfElse t first other))) es =
    ap (λ l. drop (anchor_count other) l) (drop-drop (anchor_count first) 2 es)
    ∙ drop-drop (anchor_count other) (2 + anchor_count first) es ∙ ap (λ n. drop n es) same in
    ap (λ l. first_entry es ∷ l) (sym (append_assoc one two (statement_nodes (drop (anchor_count other) otherwise) (stmts_of xs))))
    ∙ ap₂ (λ (l r : List ℕ). first_entry es ∷ ((one ++ l) ++ statement_nodes r (stmts_of xs))) (sym (append-nil two)) left
nodes-cons es (Repeat n body) xs =
    let same : 1 + anchor_count body ≡ anchor_count (single (Repeat n body)) =
    omega (arith, length-append (anchors true body) [], same_count true false body) in
    ap₂ (λ (l r : List ℕ). first_entry es ∷ first_entry es ∷ (l ++ statement_nodes r (stmts_of xs)))
    (sym (append-nil (statement_nodes (drop 1 es) body)))
    (drop-drop (anchor_count body) 1 es ∙ ap (λ n. drop n es) same)
nodes-cons es Leave xs = refl

-- one statement more
pub nodes_more : (xs : List Stmt) (i : ℕ) (item : Stmt) (es after before new all : List ℕ)
    → before ++ statement_nodes es (stmts_of (drop i xs)) ≡ all → i < length xs → item ≡ get_or xs i item
    → new ≡ before ++ statement_nodes es (single item) → after ≡ drop (anchor_count (single item)) es
    → new ++ statement_nodes after (stmts_of (drop (i + 1) xs)) ≡ all
nodes_more xs i item es after before new all h within item_is new_is after_is =
    let left = drop (i + 1) xs in
    let split : statement_nodes es (stmts_of (drop i xs)) ≡ statement_nodes es (single item) ++ statement_nodes (drop (anchor_count (single item)) es) (stmts_of left) =
    at_drop_more (λ ys. statement_nodes es (stmts_of ys)) xs i item within
    ∙ nodes-cons es (get_or xs i item) left
    ∙ ap (λ s. statement_nodes es (single s) ++ statement_nodes (drop (anchor_count (single s)) es) (stmts_of left)) (sym item_is) in
    ap₂ (λ (l r : List ℕ). l ++ statement_nodes r (stmts_of left)) new_is after_is
    ∙ append_assoc before (statement_nodes es (single item)) (statement_nodes (drop (anchor_count (single item)) es) (stmts_of left))
    ∙ ap (λ l. before ++ l) (sym split) ∙ h
