-- A loop over a list of statements that replaces names by numbers gives what the definition `body_of` says, and the
-- result is nested as deep as the text. The proof of the function that does this stands on it. The invariant is that
-- the statements made so far, joined with what the rest of the text stands for, are what the whole text stands for.
use Rattle.std.proofs.Common.{◌≡◌, ℕ, zero, suc, ◌+◌, ◌<◌, ◌≤◌, max, List, [], ◌∷◌, length, get_or, drop, refl, ap, sym, ◌∙◌, add-one, arith, drop-cons}
use Rattle.std.proofs.lemmas.List.{drop_all}
use Rattle.qs_objects.specs.declared.object.Kind.{Kind}
use Rattle.qs_script.specs.tree.Form as form
use Rattle.qs_script.specs.audit.tree.Tree as tree
use Rattle.qs_script.specs.declared.tree.tree.Stmt as text
use Rattle.qs_script.specs.declared.tree.tree.Stmt.TheVariants as t
use Rattle.qs_script.specs.tree.Views as views
use Rattle.qs_program.specs.audit.Numbering.{Name}
use Rattle.qs_program.specs.Sound.{levels_of}
use Rattle.qs_program.specs.audit.Statements.{Statements}
use Rattle.qs_program.specs.Statements.{join_statements}
use Rattle.qs_program.proofs.StatementLists.{joined_assoc, joined-end}
use Rattle.qs_check.specs.audit.resolution.Resolve.{body_of}

-- a list is nested as deep as its first statement, or as the others
first_levels : (s : text.Stmt) (xs : List text.Stmt) → form.levels_of (views.single s) ≤ form.levels_of (views.stmts_of (s ∷ xs))
first_levels (t.Command c) xs = omega arith
first_levels _ xs = omega arith

later_levels : (s : text.Stmt) (xs : List text.Stmt) → form.levels_of (views.stmts_of xs) ≤ form.levels_of (views.stmts_of (s ∷ xs))
later_levels (t.Command c) xs = omega arith
later_levels _ xs = omega arith

-- a statement of a list is nested no deeper than the list
pub levels_at : (xs : List text.Stmt) (i : ℕ) (d : text.Stmt) → i < length xs → form.levels_of (views.single (get_or xs i d)) ≤ form.levels_of (views.stmts_of xs)
levels_at [] i d within = absurd (omega arith)
levels_at (x ∷ xs) zero d within = first_levels x xs
levels_at (x ∷ xs) (suc i) d within = omega (arith, levels_at xs i d (omega arith), later_levels x xs)

-- names, kinds and variables, as body_of takes them
module _ (os : List Name) (ks : List Kind) (vs : List Name) where
  body_of-cons : (s : text.Stmt) (xs : List text.Stmt) → body_of os ks vs (views.stmts_of (s ∷ xs)) ≡ join_statements (body_of os ks vs (views.single s)) (body_of os ks vs (views.stmts_of xs))
  body_of-cons (t.Command c) xs = refl
  body_of-cons _ xs = refl

  body_of-drop : (xs : List text.Stmt) (i : ℕ) (d : text.Stmt) → i < length xs → body_of os ks vs (views.stmts_of (drop i xs)) ≡ join_statements (body_of os ks vs (views.single (get_or xs i d))) (body_of os ks vs (views.stmts_of (drop (i + 1) xs)))
  body_of-drop xs i d within = rw (drop-cons xs i d within, add-one) (body_of-cons (get_or xs i d) (drop (suc i) xs))

  -- statements by number are nested as the text's
  pub levels_same : (body : tree.Stmts) → levels_of (body_of os ks vs body) ≡ form.levels_of body
  levels_same tree.end = refl
  levels_same (tree.command c rest) = ap (max 1) (levels_same rest)
  levels_same (tree.query x c rest) = ap (max 1) (levels_same rest)
  levels_same (tree.assign x e rest) = ap (max 1) (levels_same rest)
  levels_same (tree.choose t one rest) = omega (arith, levels_same one, levels_same rest)
  levels_same (tree.choose_else t one other rest) = omega (arith, levels_same one, levels_same other, levels_same rest)
  levels_same (tree.again n body rest) = omega (arith, levels_same body, levels_same rest)
  levels_same (tree.leave rest) = ap (max 1) (levels_same rest)

  module _ (xs : List text.Stmt) (i : ℕ) (code : Statements)
      (so_far : body_of os ks vs (views.stmts_of xs) ≡ join_statements code (body_of os ks vs (views.stmts_of (drop i xs)))) where
    pub goes_on : (item : text.Stmt) (new : Statements) → i < length xs → item ≡ get_or xs i item → new ≡ join_statements code (body_of os ks vs (views.single item)) → body_of os ks vs (views.stmts_of xs) ≡ join_statements new (body_of os ks vs (views.stmts_of (drop (i + 1) xs)))
    goes_on item new within item_is new_is =
        let later : Statements = body_of os ks vs (views.stmts_of (drop (i + 1) xs)) in
        so_far
        ∙ ap (join_statements code) (body_of-drop xs i item within ∙ ap (λ x. join_statements (body_of os ks vs (views.single x)) later) (sym item_is))
        ∙ sym (joined_assoc code (body_of os ks vs (views.single item)) later)
        ∙ ap (λ x. join_statements x later) (sym new_is)

    pub all_done : length xs ≤ i → code ≡ body_of os ks vs (views.stmts_of xs)
    all_done past = sym (so_far ∙ rw (drop_all i xs past) (joined-end code))
