-- Two texts are the same where each two statements at one place are, and two lists are related place by place from some
-- place on where they are so at that place and after it: the comparison goes over two lists at once and uses this. The
-- lists are taken apart at the place, and the statements by cases on their form.
use Rattle.std.proofs.Common.{◌≡◌, ◌<◌, ◌≤◌, ◌+◌, ℕ, List, [], ◌∷◌, length, get_or, drop, drop-cons, rules}
use Rattle.qs_meaning.proofs.Common.{AllZip, Statements}
use Rattle.std.proofs.lemmas.List.{drop_all}
use Rattle.std.proofs.lemmas.List.Elements.{AllZip-get_or}
use Rattle.qs_meaning.specs.Alike.{SameStatements}
use Rattle.qs_program.specs.Views.{single, statements_of}
use Rattle.qs_program.specs.declared.code.Stmt.{Stmt}

pub zip_step : {X : Type 0} (R : X → X → Type 0) (xs ys : List X) (i : ℕ) (d e : X) → i < length xs → i < length ys
    → R (get_or xs i d) (get_or ys i e) → AllZip R (drop (i + 1) xs) (drop (i + 1) ys) → AllZip R (drop i xs) (drop i ys)
zip_step R xs ys i d e a b here later = search (rules, drop-cons, drop)

-- the same by two items of which it is known where they stand
pub zip_at : {X : Type 0} (R : X → X → Type 0) (xs ys : List X) (i : ℕ) (x y : X) → i < length xs → x ≡ get_or xs i x → y ≡ get_or ys i y
    → AllZip R xs ys → R x y
zip_at R xs ys i x y a is is' whole = search (rules, AllZip-get_or)

pub zip_step_at : {X : Type 0} (R : X → X → Type 0) (xs ys : List X) (i : ℕ) (x y : X) → i < length xs → i < length ys → x ≡ get_or xs i x
    → y ≡ get_or ys i y → R x y → AllZip R (drop (i + 1) xs) (drop (i + 1) ys) → AllZip R (drop i xs) (drop i ys)
zip_step_at R xs ys i x y a b is is' here later = search (rules, zip_step)

pub zip_end : {X : Type 0} (R : X → X → Type 0) (xs ys : List X) (i : ℕ) → length xs ≤ i → length ys ≤ i → AllZip R (drop i xs) (drop i ys)
zip_end R xs ys i a b = rw (drop_all i xs a, drop_all i ys b) tt

-- statements are the same where each two at one place are
module _ (O V : ℕ → ℕ → Type 0) where
  abbrev pub SameStmt : Stmt → Stmt → Type 0
  SameStmt x y = SameStatements O V (single x) (single y)

  joined : (x y : Stmt) (xs ys : List Stmt) → SameStmt x y → SameStatements O V (statements_of xs) (statements_of ys)
      → SameStatements O V (statements_of (x ∷ xs)) (statements_of (y ∷ ys))
  joined v w xs ys s r = search rules

  parted : (x y : Stmt) (xs ys : List Stmt) → SameStatements O V (statements_of (x ∷ xs)) (statements_of (y ∷ ys))
      → SameStmt x y × SameStatements O V (statements_of xs) (statements_of ys)
  parted v w xs ys s = search rules

  pub statements_same : (xs ys : List Stmt) → AllZip SameStmt xs ys → SameStatements O V (statements_of xs) (statements_of ys)
  statements_same [] [] s = tt
  statements_same [] (y ∷ ys) s = absurd s
  statements_same (x ∷ xs) [] s = absurd s
  statements_same (x ∷ xs) (y ∷ ys) s = joined x y xs ys s.0 (statements_same xs ys s.1)

  -- one list is empty and the other is not
  none_some : (y : Stmt) (ys : List Stmt) → SameStatements O V (statements_of []) (statements_of (y ∷ ys)) → ⊥
  none_some v ys s = search rules

  some_none : (x : Stmt) (xs : List Stmt) → SameStatements O V (statements_of (x ∷ xs)) (statements_of []) → ⊥
  some_none v xs s = search rules

  pub same_statements : (xs ys : List Stmt) → SameStatements O V (statements_of xs) (statements_of ys) → AllZip SameStmt xs ys
  same_statements [] [] s = tt
  same_statements [] (y ∷ ys) s = absurd (none_some y ys s)
  same_statements (x ∷ xs) [] s = absurd (some_none x xs s)
  same_statements (x ∷ xs) (y ∷ ys) s = let k = parted x y xs ys s in (k.0, same_statements xs ys k.1)

  pub listed : (b c : Statements) (xs ys : List Stmt) → b ≡ statements_of xs → c ≡ statements_of ys → SameStatements O V b c → AllZip SameStmt xs ys
  listed b c xs ys e f s = search (rules, same_statements)

  pub unlisted : (b c : Statements) (xs ys : List Stmt) → b ≡ statements_of xs → c ≡ statements_of ys → AllZip SameStmt xs ys → SameStatements O V b c
  unlisted b c xs ys e f s = search (rules, statements_same)
