-- A block's list that is kept by the numbers of its objects: a name is in it where its number is, and a further object
-- changes nothing.
use Rattle.std.proofs.Common.{◌≡◌, ℕ, Bool, true, false, ◌||◌, ◌==◌, List, [], ◌∷◌, ◌++◌, get_or, refl, ap, sym, subst, ◌∙◌, arith, length-append}
use Rattle.std.proofs.Math.ListN.{get_or-append}
use Rattle.std.proofs.lemmas.List.{map-append}
use Rattle.std.specs.Cmp.Lexicographic.{same_text}
use Rattle.std.specs.List.{list_any}
use Rattle.qs_program.specs.audit.Numbering.{Name, same_name, is_among, found_at}
use Rattle.qs_check.proofs.fault_places.Inner.{all_both}
use Rattle.qs_program.proofs.Found.{same_name-refl, is_among-append, found_within, found_append, name_at, same, apart}
use Rattle.qs_check.specs.fault_places.Listed.{names_at, IsFirst, AreFirst}

-- ---- a further object

first_append : (objects : List Name) (o : Name) (i : ℕ) → IsFirst objects i → IsFirst (objects ++ o ∷ []) i
first_append objects o i f =
    let here : get_or (objects ++ o ∷ []) i [] ≡ get_or objects i [] = get_or-append objects (o ∷ []) [] i f.within in
    record {
      within = omega (arith, length-append objects (o ∷ []), f.within);
      among = rw here (is_among-append objects (o ∷ []) (get_or objects i []) f.among);
      first = rw here (found_append objects (o ∷ []) (get_or objects i []) f.among ∙ f.first);
    }

pub are_first_append : (objects : List Name) (o : Name) (numbers : List ℕ) → AreFirst objects numbers → AreFirst (objects ++ o ∷ []) numbers
are_first_append objects o [] f = tt
are_first_append objects o (i ∷ is) f = (first_append objects o i f.0, are_first_append objects o is f.1)

pub names_append : (objects : List Name) (o : Name) (numbers : List ℕ) → AreFirst objects numbers → names_at (objects ++ o ∷ []) numbers ≡ names_at objects numbers
names_append objects o [] f = refl
names_append objects o (i ∷ is) f = rw (get_or-append objects (o ∷ []) [] i f.0.within, names_append objects o is f.1) refl

-- ---- a further number

found_first : (objects : List Name) (o : Name) → is_among objects o ≡ true → IsFirst objects (found_at objects o)
found_first objects o h =
    let here : get_or objects (found_at objects o) [] ≡ o = sym (name_at objects o h) in
    record { within = found_within objects o h; among = rw here h; first = ap (found_at objects) here }

pub are_first_more : (objects : List Name) (numbers : List ℕ) (o : Name) → AreFirst objects numbers → is_among objects o ≡ true → AreFirst objects (numbers ++ found_at objects o ∷ [])
are_first_more objects numbers o f h = all_both (IsFirst objects) numbers (found_at objects o ∷ []) f (found_first objects o h, tt)

pub names_more : (objects : List Name) (numbers : List ℕ) (o : Name) → is_among objects o ≡ true → names_at objects (numbers ++ found_at objects o ∷ []) ≡ names_at objects numbers ++ o ∷ []
names_more objects numbers o h = map-append (λ i. get_or objects i []) numbers (found_at objects o ∷ []) ∙ ap (λ n. names_at objects numbers ++ n ∷ []) (sym (name_at objects o h))

-- ---- a name that is looked for

or_same : (a b c d : Bool) → a ≡ b → c ≡ d → (a || c) ≡ (b || d)
or_same a b c d e f = cc

alike_yes : (objects : List Name) (o : Name) (i : ℕ) → IsFirst objects i → same_name o (get_or objects i []) ≡ true → same_name o (get_or objects i []) ≡ (found_at objects o == i)
alike_yes objects o i f h =
    let text : o ≡ get_or objects i [] = same_text o (get_or objects i []) (sym h) in
    let number : found_at objects o ≡ i = ap (found_at objects) text ∙ f.first in
    h ∙ sym (rw number (same i))

alike_no : (objects : List Name) (o : Name) (i : ℕ) → is_among objects o ≡ true → same_name o (get_or objects i []) ≡ false → same_name o (get_or objects i []) ≡ (found_at objects o == i)
alike_no objects o i h differ =
    differ ∙ sym (apart (found_at objects o) i (λ e.
    let text : o ≡ get_or objects i [] = name_at objects o h ∙ ap (λ j. get_or objects j []) e in
    let yes : same_name o (get_or objects i []) ≡ true = subst (λ x. same_name o x ≡ true) text (same_name-refl o) in
    cc))

alike : (objects : List Name) (o : Name) (i : ℕ) → IsFirst objects i → is_among objects o ≡ true → (b : Bool) → same_name o (get_or objects i []) ≡ b → same_name o (get_or objects i []) ≡ (found_at objects o == i)
alike objects o i f h true e = alike_yes objects o i f e
alike objects o i f h false e = alike_no objects o i h e

-- a declared name is in the list where its number is
pub among_names : (objects : List Name) (numbers : List ℕ) (o : Name) → AreFirst objects numbers → is_among objects o ≡ true
    → is_among (names_at objects numbers) o ≡ list_any (λ n. found_at objects o == n) numbers
among_names objects [] o f h = refl
among_names objects (i ∷ is) o f h =
    or_same (same_name o (get_or objects i [])) (found_at objects o == i) (is_among (names_at objects is) o) (list_any (λ n. found_at objects o == n) is)
    (alike objects o i f.0 h (same_name o (get_or objects i [])) refl) (among_names objects is o f.1 h)
