-- Names that are none of those that were seen, and none the same as another: one name more, and one name less. Each
-- goes by induction on the names.
use Rattle.std.proofs.Common.{◌≡◌, false, ◌||◌, List, [], ◌∷◌, ◌++◌, refl, ap, sym, ◌∙◌}
use Rattle.std.proofs.lemmas.Cmp.{nat_list_eq_equiv}
use Rattle.std.proofs.lemmas.List.Folds.{list_any-append}
use Rattle.std.specs.List.{AllByRecursion, IsDistinct}
use Rattle.std.proofs.lemmas.Bool.{or_from, or_parts}
use mathlib.Core.Bool.{or-false}
use Rattle.qs_program.specs.audit.Numbering.{Name, same_name, is_among}

-- no name is among none
pub unseen : (ns : List Name) → AllByRecursion (λ m. is_among [] m ≡ false) ns
unseen [] = tt
unseen (m ∷ ns) = (refl, unseen ns)

-- names that are none of those seen, and none the same as another
abbrev pub Fresh : List Name → List Name → Type 0
Fresh seen ns = AllByRecursion (λ n. is_among seen n ≡ false) ns × IsDistinct same_name ns

among_last : (seen : List Name) (n m : Name) → is_among (seen ++ n ∷ []) m ≡ (is_among seen m || same_name m n)
among_last seen n m = list_any-append (same_name m) seen (n ∷ []) ∙ ap (λ b. is_among seen m || b) (or-false (same_name m n))

unseen_first : (seen : List Name) (n : Name) (ns : List Name) → AllByRecursion (λ m. is_among (seen ++ n ∷ []) m ≡ false) ns → AllByRecursion (λ m. is_among seen m ≡ false) ns
unseen_first seen n [] h = tt
unseen_first seen n (m ∷ ns) h = ((or_parts (is_among seen m) (same_name m n) (sym (among_last seen n m) ∙ h.0)).0, unseen_first seen n ns h.1)

unseen_last : (seen : List Name) (n : Name) (ns : List Name) → AllByRecursion (λ m. is_among (seen ++ n ∷ []) m ≡ false) ns → AllByRecursion (λ m. same_name n m ≡ false) ns
unseen_last seen n [] h = tt
unseen_last seen n (m ∷ ns) h =
    (nat_list_eq_equiv.symm n m ∙ (or_parts (is_among seen m) (same_name m n) (sym (among_last seen n m) ∙ h.0)).1, unseen_last seen n ns h.1)

unseen_both : (seen : List Name) (n : Name) (ns : List Name) → AllByRecursion (λ m. is_among seen m ≡ false) ns → AllByRecursion (λ m. same_name n m ≡ false) ns → AllByRecursion (λ m. is_among (seen ++ n ∷ []) m ≡ false) ns
unseen_both seen n [] h k = tt
unseen_both seen n (m ∷ ns) h k =
    (among_last seen n m ∙ or_from (is_among seen m) (same_name m n) h.0 (nat_list_eq_equiv.symm m n ∙ k.0), unseen_both seen n ns h.1 k.1)

pub fresh_more : (seen : List Name) (n : Name) (ns : List Name) → is_among seen n ≡ false → Fresh (seen ++ n ∷ []) ns → Fresh seen (n ∷ ns)
unfolding IsDistinct
fresh_more seen n ns h k = ((h, unseen_first seen n ns k.0), (unseen_last seen n ns k.0, k.1))

pub fresh_rest : (seen : List Name) (n : Name) (ns : List Name) → Fresh seen (n ∷ ns) → (is_among seen n ≡ false) × Fresh (seen ++ n ∷ []) ns
unfolding IsDistinct
fresh_rest seen n ns h = (h.0.0, (unseen_both seen n ns h.0.1 h.1.0, h.1.1))

pub no_fresh : (seen : List Name) → Fresh seen []
unfolding IsDistinct
no_fresh seen = (tt, tt)
