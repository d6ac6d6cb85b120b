-- The anchors of a list of statements are those of its first statement and of the others. The loop that goes through a
-- body adds the anchors of one statement after another.
use Rattle.std.proofs.Common.{◌≡◌, ℕ, suc, ◌+◌, ◌<◌, Bool, List, ◌∷◌, ◌++◌, length, get_or, drop, refl, ap, sym, ◌∙◌, append_assoc, add-one, drop-cons}
use Rattle.qs_script.specs.declared.tree.tree.Stmt.{Stmt}
use Rattle.qs_script.specs.declared.tree.tree.Stmt.TheVariants.{Leave}
use Rattle.qs_script.specs.tree.Views.{stmts_of, single}
use Rattle.qs_check.specs.declared.anchors.anchor.Anchor.{Anchor}
use Rattle.qs_check.specs.anchors.Anchors.{anchors}

anchors-cons : (inside : Bool) (s : Stmt) (xs : List Stmt) → anchors inside (stmts_of (s ∷ xs)) ≡ anchors inside (single s) ++ anchors inside (stmts_of xs)
anchors-cons inside Leave xs = refl
anchors-cons inside _ xs = simp append_assoc

anchors-drop : (inside : Bool) (xs : List Stmt) (i : ℕ) (d : Stmt) → i < length xs → anchors inside (stmts_of (drop i xs)) ≡ anchors inside (single (get_or xs i d)) ++ anchors inside (stmts_of (drop (i + 1) xs))
anchors-drop inside xs i d within = rw (drop-cons xs i d within, add-one) (anchors-cons inside (get_or xs i d) (drop (suc i) xs))

-- one statement more
pub goes_on : (inside : Bool) (xs : List Stmt) (i : ℕ) (item : Stmt) (before new all : List Anchor)
    → before ++ anchors inside (stmts_of (drop i xs)) ≡ all → i < length xs → item ≡ get_or xs i item → new ≡ before ++ anchors inside (single item)
    → new ++ anchors inside (stmts_of (drop (i + 1) xs)) ≡ all
goes_on inside xs i item before new all h within item_is new_is =
    let rest = anchors inside (stmts_of (drop (i + 1) xs)) in
    ap (λ x. x ++ rest) new_is ∙ append_assoc before (anchors inside (single item)) rest
    ∙ ap (λ x. before ++ x) (ap (λ s. anchors inside (single s) ++ rest) item_is ∙ sym (anchors-drop inside xs i item within)) ∙ h
