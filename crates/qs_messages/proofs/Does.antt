-- Statements do something where the first of them does or the others do. The walk over a list of statements, which ends
-- with the first one that does it, stands on this; it goes by cases of the statement.
use Rattle.std.proofs.Common.{◌≡◌, ℕ, suc, ◌+◌, ◌<◌, ◌≤◌, Bool, true, false, ◌||◌, List, ◌∷◌, length, get_or, drop, refl, sym, ap, ◌∙◌, add-one}
use Rattle.std.proofs.Math.Seq.{drop-cons}
use Rattle.std.proofs.lemmas.List.{drop_all}
use Rattle.qs_program.specs.declared.code.Stmt.{Stmt}
use Rattle.qs_program.specs.declared.code.Stmt.TheVariants.{Command, Query, Assign, If, Repeat, Leave}
use Rattle.qs_program.specs.Views.{single, statements_of}
use Rattle.qs_messages.specs.declared.warned.doings.Doing.{Doing}
use Rattle.qs_messages.specs.Doings.{does}

or_false : (b : Bool) → (b || false) ≡ b
or_false true = refl
or_false false = refl

or_true : (b : Bool) → (b || true) ≡ true
or_true true = refl
or_true false = refl

module _ (d : Doing) where
  does-cons : (s : Stmt) (xs : List Stmt) → does d (statements_of (s ∷ xs)) ≡ (does d (statements_of xs) || does d (single s))
  does-cons (Command c) xs = refl
  does-cons (Query x c) xs = refl
  does-cons (Assign x e) xs = refl
  does-cons (If t b first other) xs = refl
  does-cons (Repeat n body) xs = refl
  does-cons Leave xs = sym (or_false (does d (statements_of xs)))

  does-drop : (xs : List Stmt) (i : ℕ) (s : Stmt) → i < length xs
      → does d (statements_of (drop i xs)) ≡ (does d (statements_of (drop (i + 1) xs)) || does d (single (get_or xs i s)))
  does-drop xs i s within = rw (drop-cons xs i s within, add-one) (does-cons (get_or xs i s) (drop (suc i) xs))

  module _ (xs : List Stmt) (i : ℕ) (item : Stmt) (within : i < length xs) (is_item : item ≡ get_or xs i item)
      (so_far : does d (statements_of (drop i xs)) ≡ does d (statements_of xs)) where
    here : does d (statements_of xs) ≡ (does d (statements_of (drop (i + 1) xs)) || does d (single item))
    here = sym so_far ∙ does-drop xs i item within ∙ ap (λ s. does d (statements_of (drop (i + 1) xs)) || does d (single s)) (sym is_item)

    pub found : does d (single item) ≡ true → true ≡ does d (statements_of xs)
    found h = sym (here ∙ ap (λ b. does d (statements_of (drop (i + 1) xs)) || b) h ∙ or_true (does d (statements_of (drop (i + 1) xs))))

    pub passed : does d (single item) ≡ false → does d (statements_of (drop (i + 1) xs)) ≡ does d (statements_of xs)
    passed h = sym (here ∙ ap (λ b. does d (statements_of (drop (i + 1) xs)) || b) h ∙ or_false (does d (statements_of (drop (i + 1) xs))))

  -- none of them has done it
  pub none : (xs : List Stmt) (i : ℕ) → length xs ≤ i → does d (statements_of (drop i xs)) ≡ does d (statements_of xs) → false ≡ does d (statements_of xs)
  none xs i past so_far = ap (λ ys. does d (statements_of ys)) (sym (drop_all i xs past)) ∙ so_far
