-- A text tells what it is of, whatever comes behind it. A number ends where no digit comes, and all else that is written
-- is the same in both texts or ends with such a byte; so two equal texts are cut at the same places, from the front for
-- the parts of a state, and from the last place down for texts one after another.
use Rattle.std.proofs.Common.{◌≡◌, ◌<◌, ◌≤◌, ◌⊎◌, ◌^◌, ℕ, zero, suc, List, [], ◌∷◌, ◌++◌, codes, length, get_or, flat_map, refl, sym, ap, ◌∙◌, ℤ, pos, negsuc, decimal, append_assoc, arith, inl, inr}
use Rattle.std.specs.Fmt.{signed_decimal}
use Rattle.std.specs.List.{AllByRecursion, join_by}
use Rattle.std.specs.Str.Parse.{AllDigits}
use Rattle.std.proofs.lemmas.Fmt.{decimal_is_IsNumeral, decimal_injective}
use Rattle.std.proofs.lemmas.Str.Parse.{digit_from_value}
use Rattle.qs_objects.specs.audit.Act.{Content, State, account, buffer, grid}
use Rattle.qs_objects.specs.audit.Objects.{kind_of, values_of}
use Rattle.qs_objects.specs.Objects.{AreRowsOf, IsInRange}
use Rattle.qs_objects.specs.audit.Rows.{join_rows}
use Rattle.qs_objects.proofs.GridRows.{equal_long, rows_tell}
use Rattle.std.proofs.Common.{subst}
use Rattle.qs_program.specs.audit.Numbering.{Name}
use Rattle.qs_program.specs.audit.Values.{Locals}
use Rattle.qs_text.proofs.Joined.{each_place_more}
use Rattle.qs_text.specs.TellApart.{AreSame, AreWords, IsOfWords, IsWord, StatesTellApart, VariablesTellApart}
use Rattle.qs_text.specs.audit.Texts.{texts_up_to}
use Rattle.qs_text.specs.Variables.{variable_text, variables_text}
use Rattle.qs_text.specs.audit.Words.{content_text, state_text, values_text}

head : {X : Type 0} {x y : X} {xs ys : List X} → ◌≡◌ {A = List X} (x ∷ xs) (y ∷ ys) → x ≡ y
head e = cc

tail : {X : Type 0} {x y : X} {xs ys : List X} → ◌≡◌ {A = List X} (x ∷ xs) (y ∷ ys) → xs ≡ ys
tail e = cc

-- what is in front of both texts
pub cancel : (xs us vs : List ℕ) → xs ++ us ≡ xs ++ vs → us ≡ vs
cancel xs us vs e = (equal_long xs xs us vs refl e).1

-- a front of each text, with what comes behind it in one
pub regroup : (xs ys zs ws us vs : List ℕ) → (xs ++ ys) ++ us ≡ (zs ++ ws) ++ vs → xs ++ (ys ++ us) ≡ zs ++ (ws ++ vs)
regroup xs ys zs ws us vs e = sym (append_assoc xs ys us) ∙ (e ∙ append_assoc zs ws vs)

-- the same of texts of four parts, whose first is the same
four_parts : (a b c d us : List ℕ) → a ++ b ++ c ++ d ++ us ≡ a ++ (b ++ (c ++ (d ++ us)))
four_parts a b c d us =
    append_assoc (a ++ b ++ c) d us ∙ (append_assoc (a ++ b) c (d ++ us) ∙ append_assoc a b (c ++ (d ++ us)))

after_first : (a b c d x y z us vs : List ℕ) → a ++ b ++ c ++ d ++ us ≡ a ++ x ++ y ++ z ++ vs → b ++ (c ++ (d ++ us)) ≡ x ++ (y ++ (z ++ vs))
after_first a b c d x y z us vs e =
    cancel a (b ++ (c ++ (d ++ us))) (x ++ (y ++ (z ++ vs))) (sym (four_parts a b c d us) ∙ (e ∙ four_parts a x y z vs))

-- ---- numbers

-- a text that begins with no digit
abbrev pub IsBehind : List ℕ → Type 0
IsBehind us = (get_or us 0 0 < 48) ⊎ (57 < get_or us 0 0)

no_digit : (us : List ℕ) (c : ℕ) (cs vs : List ℕ) → IsBehind us → AllDigits 10 (c ∷ cs) → us ≡ c ∷ vs → ⊥
no_digit us c cs vs behind digits e = grind (arith, digit_from_value c digits.0, ap (λ l. get_or l 0 0) e)

digits_tell : (ds es us vs : List ℕ) → AllDigits 10 ds → AllDigits 10 es → IsBehind us → IsBehind vs → ds ++ us ≡ es ++ vs → (ds ≡ es) × (us ≡ vs)
digits_tell [] [] us vs x y a b e = (refl, e)
digits_tell [] (c ∷ es) us vs x y a b e = absurd (no_digit us c es (es ++ vs) a y e)
digits_tell (c ∷ ds) [] us vs x y a b e = absurd (no_digit vs c ds (ds ++ us) b x (sym e))
digits_tell (c ∷ ds) (d ∷ es) us vs x y a b e =
    let first = head e in let rest = digits_tell ds es us vs x.1 y.1 a b (tail e) in
    ((λ i. first i ∷ rest.0 i), rest.1)

no_minus : (ds us vs : List ℕ) → 0 < length ds → AllDigits 10 ds → ds ++ us ≡ 45 ∷ vs → ⊥
no_minus [] us vs some x e = omega (arith, some)
no_minus (c ∷ ds) us vs some x e = omega (arith, digit_from_value c x.0, head e)

module _ (n : ℕ) (less : n < 2 ^ 64) where
  some_digits : 0 < length (decimal n)
  some_digits = (decimal_is_IsNumeral n less).0.0

  all_digits : AllDigits 10 (decimal n)
  all_digits = (decimal_is_IsNumeral n less).0.1

below : (n : ℕ) → IsWord (pos n) → n < 2 ^ 64
below n fits = let less = fits.sfits in omega (arith, less)

below_negated : (n : ℕ) → IsWord (negsuc n) → suc n < 2 ^ 64
below_negated n fits = let less = fits.sfits in omega (arith, less)

pub number_tells : (y z : ℤ) (us vs : List ℕ) → IsWord y → IsWord z → IsBehind us → IsBehind vs
    → signed_decimal y ++ us ≡ signed_decimal z ++ vs → (y ≡ z) × (us ≡ vs)
number_tells (pos m) (pos n) us vs x y a b e =
    let p = below m x in let q = below n y in
    let both = digits_tell (decimal m) (decimal n) us vs (all_digits m p) (all_digits n q) a b e in
    (ap pos (decimal_injective m n p q both.0), both.1)
number_tells (pos m) (negsuc n) us vs x y a b e =
    let p = below m x in absurd (no_minus (decimal m) us (decimal (suc n) ++ vs) (some_digits m p) (all_digits m p) e)
number_tells (negsuc m) (pos n) us vs x y a b e =
    let q = below n y in absurd (no_minus (decimal n) vs (decimal (suc m) ++ us) (some_digits n q) (all_digits n q) (sym e))
number_tells (negsuc m) (negsuc n) us vs x y a b e =
    let p = below_negated m x in let q = below_negated n y in
    let both = digits_tell (decimal (suc m)) (decimal (suc n)) us vs (all_digits (suc m) p) (all_digits (suc n) q) a b (tail e) in
    let same : suc m ≡ suc n = decimal_injective (suc m) (suc n) p q both.0 in
    (ap negsuc (omega (arith, same)), both.1)

-- a number begins with a digit or a minus, so with no bracket
digits_low : (ds us : List ℕ) → 0 < length ds → AllDigits 10 ds → get_or (ds ++ us) 0 0 < 58
digits_low [] us some x = absurd (omega (arith, some))
digits_low (c ∷ ds) us some x = omega (arith, digit_from_value c x.0)

number_low : (z : ℤ) (us : List ℕ) → IsWord z → get_or (signed_decimal z ++ us) 0 0 < 58
number_low (pos n) us x = digits_low (decimal n) us (some_digits n (below n x)) (all_digits n (below n x))
number_low (negsuc n) us x = let h : 45 < 58 = omega arith in h

no_bracket : (y : ℤ) (us vs : List ℕ) → IsWord y → 93 ∷ us ≡ signed_decimal y ++ vs → ⊥
no_bracket y us vs a e =
    let first : 93 ≡ get_or (signed_decimal y ++ vs) 0 0 = ap (λ l. get_or l 0 0) e in omega (arith, number_low y vs a, first)

-- ---- values between brackets, with a byte between each two

module _ (between : ℕ) (apart : between < 48) where
  -- the values after the first
  abbrev pub later_text : List ℤ → List ℕ
  later_text xs = flat_map (λ z. (between ∷ []) ++ signed_decimal z) xs

  later_behind : (xs : List ℤ) (us : List ℕ) → IsBehind (later_text xs ++ 93 ∷ us)
  later_behind [] us = inr (omega arith)
  later_behind (x ∷ xs) us = inl (omega (arith, apart))

  first_tells : (x y : ℤ) (xs ys : List ℤ) (us vs : List ℕ) → IsWord x → IsWord y
      → (signed_decimal x ++ later_text xs) ++ 93 ∷ us ≡ (signed_decimal y ++ later_text ys) ++ 93 ∷ vs
      → (x ≡ y) × (later_text xs ++ 93 ∷ us ≡ later_text ys ++ 93 ∷ vs)
  first_tells x y xs ys us vs a b e =
      number_tells x y (later_text xs ++ 93 ∷ us) (later_text ys ++ 93 ∷ vs) a b (later_behind xs us) (later_behind ys vs)
      (regroup (signed_decimal x) (later_text xs) (signed_decimal y) (later_text ys) (93 ∷ us) (93 ∷ vs) e)

  later_tell : (xs ys : List ℤ) (us vs : List ℕ) → AllByRecursion IsWord xs → AllByRecursion IsWord ys
      → later_text xs ++ 93 ∷ us ≡ later_text ys ++ 93 ∷ vs → (xs ≡ ys) × (us ≡ vs)
  later_tell [] [] us vs a b e = (refl, tail e)
  later_tell [] (y ∷ ys) us vs a b e = absurd (let h : 93 ≡ between = head e in omega (arith, h, apart))
  later_tell (x ∷ xs) [] us vs a b e = absurd (let h : between ≡ 93 = head e in omega (arith, h, apart))
  later_tell (x ∷ xs) (y ∷ ys) us vs a b e =
      let first = first_tells x y xs ys us vs a.0 b.0 (tail e) in
      let rest = later_tell xs ys us vs a.1 b.1 first.1 in
      ((λ i. first.0 i ∷ rest.0 i), rest.1)

  joined_tell : (xs ys : List ℤ) (us vs : List ℕ) → AllByRecursion IsWord xs → AllByRecursion IsWord ys
      → join_by signed_decimal (between ∷ []) xs ++ 93 ∷ us ≡ join_by signed_decimal (between ∷ []) ys ++ 93 ∷ vs → (xs ≡ ys) × (us ≡ vs)
  joined_tell [] [] us vs a b e = (refl, tail e)
  joined_tell [] (y ∷ ys) us vs a b e =
      absurd (no_bracket y us (later_text ys ++ 93 ∷ vs) b.0 (e ∙ append_assoc (signed_decimal y) (later_text ys) (93 ∷ vs)))
  joined_tell (x ∷ xs) [] us vs a b e =
      absurd (no_bracket x vs (later_text xs ++ 93 ∷ us) a.0 (sym e ∙ append_assoc (signed_decimal x) (later_text xs) (93 ∷ us)))
  joined_tell (x ∷ xs) (y ∷ ys) us vs a b e =
      let first = first_tells x y xs ys us vs a.0 b.0 e in
      let rest = later_tell xs ys us vs a.1 b.1 first.1 in
      ((λ i. first.0 i ∷ rest.0 i), rest.1)

  abbrev pub listed : List ℤ → List ℕ
  listed xs = codes "[" ++ join_by signed_decimal (between ∷ []) xs ++ codes "]"

  pub values_tell : (xs ys : List ℤ) (us vs : List ℕ) → AllByRecursion IsWord xs → AllByRecursion IsWord ys
      → listed xs ++ us ≡ listed ys ++ vs → (xs ≡ ys) × (us ≡ vs)
  values_tell xs ys us vs a b e =
      joined_tell xs ys us vs a b
      (tail (regroup (codes "[" ++ join_by signed_decimal (between ∷ []) xs) (codes "]") (codes "[" ++ join_by signed_decimal (between ∷ []) ys) (codes "]") us vs e))

-- ---- objects

-- a size, a space, and what comes then
pub size_tells : (m n : ℕ) → m ≤ 1024 → n ≤ 1024 → (us vs : List ℕ)
    → signed_decimal (pos m) ++ (codes " " ++ us) ≡ signed_decimal (pos n) ++ (codes " " ++ vs) → (m ≡ n) × (us ≡ vs)
size_tells m n a b us vs e =
    let both = number_tells (pos m) (pos n) (codes " " ++ us) (codes " " ++ vs) (record { sfits = omega (arith, a) }) (record { sfits = omega (arith, b) })
    (inl (omega arith)) (inl (omega arith)) e in
    ((let h : ◌≡◌ {A = ℤ} (pos m) (pos n) = both.0 in cc), tail both.1)

module _ (c d : Content) (us vs : List ℕ) where
  abbrev pub ContentTells : Type 0
  ContentTells =
      IsInRange c → IsInRange d → AllByRecursion IsWord (values_of c) → AllByRecursion IsWord (values_of d) → IsBehind us → IsBehind vs
      → content_text (kind_of c) (values_of c) ++ us ≡ content_text (kind_of d) (values_of d) ++ vs → (c ≡ d) × (us ≡ vs)

buffers_tell : (k m : ℕ) (xs ys : List ℤ) (us vs : List ℕ) → ContentTells (buffer k xs) (buffer m ys) us vs
buffers_tell k m xs ys us vs x y v w p q e =
    let size = size_tells k m x.1 y.1 (values_text xs ++ us) (values_text ys ++ vs)
    (after_first (codes " buffer ") (signed_decimal (pos k)) (codes " ") (values_text xs) (signed_decimal (pos m)) (codes " ") (values_text ys) us vs e) in
    let values = values_tell 32 (omega arith) xs ys us vs v w size.1 in
    ((λ i. buffer (size.0 i) (values.0 i)), values.1)

grids_tell : (k l : ℕ) (rows others : List (List ℤ)) (us vs : List ℕ) → ContentTells (grid k rows) (grid l others) us vs
grids_tell k l rows others us vs x y v w p q e =
    let front = λ (rows : List (List ℤ)). codes " grid " ++ signed_decimal (pos (length rows)) ++ codes " " in
    let behind = λ (k : ℕ) (rows : List (List ℤ)) (us : List ℕ). signed_decimal (pos k) ++ (codes " " ++ (values_text (join_rows rows) ++ us)) in
    let parts = λ (k : ℕ) (rows : List (List ℤ)) (us : List ℕ). four_parts (front rows) (signed_decimal (pos k)) (codes " ") (values_text (join_rows rows)) us in
    let many = size_tells (length rows) (length others) (omega (arith, x.1)) (omega (arith, y.1)) (behind k rows us) (behind l others vs)
    (cancel (codes " grid ") (signed_decimal (pos (length rows)) ++ (codes " " ++ behind k rows us)) (signed_decimal (pos (length others)) ++ (codes " " ++ behind l others vs))
    (regroup (codes " grid ") (signed_decimal (pos (length rows))) (codes " grid ") (signed_decimal (pos (length others))) (codes " " ++ behind k rows us) (codes " " ++ behind l others vs)
    (regroup (codes " grid " ++ signed_decimal (pos (length rows))) (codes " ") (codes " grid " ++ signed_decimal (pos (length others))) (codes " ") (behind k rows us) (behind l others vs)
    (sym (parts k rows us) ∙ (e ∙ parts l others vs))))) in
    let wide = size_tells k l (omega (arith, x.3)) (omega (arith, y.3)) (values_text (join_rows rows) ++ us) (values_text (join_rows others) ++ vs) many.1 in
    let values = values_tell 32 (omega arith) (join_rows rows) (join_rows others) us vs v w wide.1 in
    let same = rows_tell k rows others x.4 (subst (λ m. AreRowsOf m others) (sym wide.0) y.4) many.0 values.0 in
    ((λ i. grid (wide.0 i) (same i)), values.1)

content_tells : (c d : Content) (us vs : List ℕ) → ContentTells c d us vs
content_tells (account b) (account c) us vs x y v w p q e =
    let both = number_tells b c us vs v.0 w.0 p q (cancel (codes " account ") (signed_decimal b ++ us) (signed_decimal c ++ vs) e) in
    (ap account both.0, both.1)
content_tells (buffer k xs) (buffer m ys) us vs x y v w p q e = buffers_tell k m xs ys us vs x y v w p q e
content_tells (grid k rows) (grid l others) us vs x y v w p q e = grids_tell k l rows others us vs x y v w p q e
content_tells _ _ us vs x y v w p q e = absurd (let h = head (tail e) in omega (arith, h))

pub state_tells : (name : List ℕ) (s t : State) (us vs : List ℕ) → IsInRange s.content → IsInRange t.content → IsOfWords s → IsOfWords t
    → IsBehind us → IsBehind vs → state_text name s ++ us ≡ state_text name t ++ vs → (s ≡ t) × (us ≡ vs)
state_tells name s t us vs x y v w p q e =
    let word = codes " refused " in let left = signed_decimal s.refused in let right = signed_decimal t.refused in
    let content = content_tells s.content t.content (word ++ (left ++ us)) (word ++ (right ++ vs)) x y v.values w.values (inl (omega arith)) (inl (omega arith))
    (after_first name (content_text (kind_of s.content) (values_of s.content)) word left (content_text (kind_of t.content) (values_of t.content)) word right us vs e) in
    let refused = number_tells s.refused t.refused us vs v.refused w.refused p q (cancel word (left ++ us) (right ++ vs) content.1) in
    ((λ i. record { content = content.0 i; refused = refused.0 i }), refused.1)

-- ---- texts one after another

-- each text tells what it is of where what comes behind it is fit for that, as each text is with what is behind it
module _ (f g : ℕ → List ℕ) (Same : ℕ → Type 0) (IsFit : List ℕ → Type 0) (fit : (i : ℕ) (us : List ℕ) → IsFit (f i ++ us) × IsFit (g i ++ us)) (top : ℕ)
    (tells : (i : ℕ) → i < top → (us vs : List ℕ) → IsFit us → IsFit vs → f i ++ us ≡ g i ++ vs → Same i × (us ≡ vs)) where
  pub texts_tell : (n : ℕ) → n ≤ top → (us vs : List ℕ) → IsFit us → IsFit vs → texts_up_to n f ++ us ≡ texts_up_to n g ++ vs
      → ((i : ℕ) → i < n → Same i) × (us ≡ vs)
  texts_tell zero within us vs a b e = ((λ i less. absurd (omega (arith, less))), e)
  texts_tell (suc n) within us vs a b e =
      let before = texts_tell n (omega (arith, within)) (f n ++ us) (g n ++ vs) (fit n us).0 (fit n vs).1
      (regroup (texts_up_to n f) (f n) (texts_up_to n g) (g n) us vs e) in
      let last = tells n (omega (arith, within)) us vs a b before.1 in
      ((λ i less. each_place_more Same n before.0 last.0 i (omega (arith, less))), last.1)

-- ---- variables

module _ (names : List Name) (l m : Locals) (a : AreWords (length names) l) (b : AreWords (length names) m) where
  variable_tells : (x : ℕ) → x < length names → (us vs : List ℕ) → IsBehind us → IsBehind vs
      → variable_text names l x ++ us ≡ variable_text names m x ++ vs → (get_or l x (pos 0) ≡ get_or m x (pos 0)) × (us ≡ vs)
  variable_tells x less us vs p q e =
      let own = signed_decimal (get_or l x (pos 0)) in let other = signed_decimal (get_or m x (pos 0)) in let name = get_or names x [] in
      number_tells (get_or l x (pos 0)) (get_or m x (pos 0)) us vs (a x less) (b x less) p q
      (tail (cancel name (codes " " ++ (own ++ us)) (codes " " ++ (other ++ vs)) (after_first (codes " ") name (codes " ") own name (codes " ") other us vs e)))

  pub variables_tell : (us vs : List ℕ) → IsBehind us → IsBehind vs → variables_text names l ++ us ≡ variables_text names m ++ vs
      → AreSame (length names) l m × (us ≡ vs)
  variables_tell us vs p q e =
      texts_tell (variable_text names l) (variable_text names m) (λ x. get_or l x (pos 0) ≡ get_or m x (pos 0)) IsBehind
      (λ x us. (inl (omega arith), inl (omega arith))) (length names) variable_tells (length names) (omega arith) us vs p q e

-- with nothing behind
ended : {x y : List ℕ} → x ≡ y → x ++ [] ≡ y ++ []
ended {x} {y} e = ap (λ l. l ++ []) e

pub states_tell_apart : StatesTellApart
states_tell_apart name s t x y v w e = (state_tells name s t [] [] x y v w (inl (omega arith)) (inl (omega arith)) (ended e)).0

pub variables_tell_apart : VariablesTellApart
variables_tell_apart names l m a b e = (variables_tell names l m a b [] [] (inl (omega arith)) (inl (omega arith)) (ended e)).0
