-- When one more text is added at the end, the whole is the texts before it and this one. The functions that write the
-- graphs of a program, block by block and client by client, stand on it. It takes the definition of the texts up to a
-- number one number further, and joins what each step has added.
use Rattle.std.proofs.Common.{◌≡◌, ℕ, ◌+◌, List, [], ◌++◌, refl, ap, sym, subst, ◌∙◌, append_assoc, add-one}
use Rattle.qs_text.specs.Texts.{AreTextsUpTo, IsAdded}

-- the text of one more place
pub one_text_more : (IsText : ℕ → List ℕ → Type 0) (n : ℕ) (before all : List ℕ) → AreTextsUpTo n IsText before → IsAdded (IsText n) before all
    → AreTextsUpTo (n + 1) IsText all
one_text_more IsText n before all texts (last, is, e) = rw add-one (before, last, texts, is, e)

-- the text of one more place, after what was there
pub one_added_more : (IsText : ℕ → List ℕ → Type 0) (n : ℕ) (first before all : List ℕ) → IsAdded (AreTextsUpTo n IsText) first before
    → IsAdded (IsText n) before all → IsAdded (AreTextsUpTo (n + 1) IsText) first all
one_added_more IsText n first before all (texts, are, e) (last, is, f) =
    (texts ++ last, one_text_more IsText n texts (texts ++ last) are (last, is, refl), f ∙ ap (λ l. l ++ last) e ∙ append_assoc first texts last)

-- what was added where nothing was
pub added_first : (IsText : List ℕ → Type 0) (first all : List ℕ) → first ≡ [] → IsAdded IsText first all → IsText all
added_first IsText first all none (text, is, e) = subst IsText (sym (e ∙ ap (λ l. l ++ text) none)) is
