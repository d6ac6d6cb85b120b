-- What was read so far, followed by what the texts that are left stand for, is what the whole list stands for, and one
-- text that stands for nothing spoils the list. The loops of `parts_of` and `orders_in` have this as their invariant,
-- `read_with`. It goes by cases on what the next text stands for.
use Rattle.std.proofs.Common.{◌≡◌, ℕ, List, [], ◌∷◌, ◌++◌, Option, Some, None, refl, sym, ap, append_assoc, option_map}
use Rattle.qs_line.specs.audit.Parts.{each_in}

module _ {A : Type 0} (one : List ℕ → Option A) where
  -- what was read so far, and then the texts that are left
  abbrev pub read_with : List A → List (List ℕ) → Option (List A)
  read_with found texts = option_map (λ rest. found ++ rest) (each_in one texts)

  pub read_with-some : (found : List A) (next : A) (text : List ℕ) (texts : List (List ℕ)) → one text ≡ Some next
      → read_with found (text ∷ texts) ≡ read_with (found ++ next ∷ []) texts
  read_with-some found next text texts e = rw e (go (each_in one texts))
    where
      go : (o : Option (List A)) → option_map (λ rest. found ++ rest) (option_map (λ more. next ∷ more) o) ≡ option_map (λ rest. (found ++ next ∷ []) ++ rest) o
      go None = refl
      go (Some rest) = ap Some (sym (append_assoc found (next ∷ []) rest))

  pub read_with-none : (found : List A) (text : List ℕ) (texts : List (List ℕ)) → one text ≡ None → read_with found (text ∷ texts) ≡ None
  read_with-none found text texts e = rw e refl
