-- The rows of a grid, as the code keeps them: one after another in one list. Cut into rows again, the list has the
-- cells, the sums and the changes that the rows have; the contracts of `src/grid.rt`, which speak of rows, stand on it.
-- It goes by induction on the rows, of which each takes as many cells off the front of the list as there are columns.
use Rattle.std.proofs.Common.{◌≡◌, ℕ, zero, suc, ◌+◌, ◌*◌, ◌-◌, ◌<◌, ◌≤◌, Bool, true, false, ◌&&◌, not, List, [], ◌∷◌, ◌++◌, length, get_or, set, take, drop, replicate, refl, ap, sym, ◌∙◌, subst, arith, ℤ, pos, negsuc, ◌+ℤ◌, None, Some, if◌then◌else◌, take-append-drop}
use Rattle.std.proofs.lemmas.Bool.Decides.{nat_tests}
use Rattle.std.proofs.lemmas.List.{take-replicate, drop-replicate, take-set-le, drop-set-lt, drop-set-add, length-drop, length-take-le, length-replicate, length-set, get_or-drop, get_or-take}
use Rattle.std.proofs.Math.Seq.{take-set-lt}
use Rattle.qs_objects.specs.audit.Act.{Content, State, account, below, buffer, cell_at, clamp_to_word, grid, grid_act, outside, unless, row_at, size_of, with_cell}
use Rattle.qs_objects.specs.audit.Objects.{kind_of, values_of}
use Rattle.qs_objects.specs.Objects.{AreRowsOf, IsInRange, cut_rows, place}
use Rattle.qs_objects.specs.audit.Rows.{join_rows}
use Rattle.qs_objects.specs.declared.Op.TheVariants.{AddCell}

pub cut_length : (n k : ℕ) (cells : List ℤ) → length (cut_rows n k cells) ≡ n
cut_length zero k cells = refl
cut_length (suc n) k cells = ap suc (cut_length n k (drop k cells))

after : (m k : ℕ) (cells : List ℤ) → drop m (drop k cells) ≡ drop (m + k) cells
after m zero cells = let same : m ≡ m + 0 = omega arith in ap (λ j. drop j cells) same
after zero (suc k) cells = let same : suc k ≡ 0 + suc k = omega arith in ap (λ j. drop j cells) same
after (suc m) (suc k) [] = let on : suc (m + suc k) ≡ suc m + suc k = omega arith in ap (λ j. drop {A = ℤ} j []) on
after (suc m) (suc k) (x ∷ cells) =
    let on : suc m + k ≡ m + suc k = omega arith in
    let back : suc (m + suc k) ≡ suc m + suc k = omega arith in
    after (suc m) k cells ∙ ap (λ j. drop j cells) on ∙ ap (λ j. drop j (x ∷ cells)) back

-- a row is its stretch of the list
pub cut_row : (n k : ℕ) (cells : List ℤ) (r : ℕ) → r < n → get_or (cut_rows n k cells) r [] ≡ take k (drop (r * k) cells)
cut_row zero k cells r less = absurd (omega (arith, less))
cut_row (suc n) k cells zero less =
    let none : 0 ≡ 0 * k = omega arith in
    ap (λ m. take k (drop m cells)) none
cut_row (suc n) k cells (suc r) less =
    let on : r * k + k ≡ suc r * k = omega arith in
    cut_row n k (drop k cells) r (omega (arith, less)) ∙ ap (take k) (after (r * k) k cells ∙ ap (λ m. drop m cells) on)

pub cut_even : (n k : ℕ) (cells : List ℤ) → length cells ≡ n * k → AreRowsOf k (cut_rows n k cells)
cut_even zero k cells long = tt
cut_even (suc n) k cells long = (
  length-take-le k cells (omega (arith, long)),
  cut_even n k (drop k cells) (omega (arith, long, length-drop k cells)),
)

-- all rows, one after another, are the list
pub cut_joined : (n k : ℕ) (cells : List ℤ) → length cells ≡ n * k → join_rows (cut_rows n k cells) ≡ cells
cut_joined zero k [] long = refl
cut_joined zero k (x ∷ cells) long = absurd (omega (arith, long))
cut_joined (suc n) k cells long =
    ap (λ rest. take k cells ++ rest) (cut_joined n k (drop k cells) (omega (arith, long, length-drop k cells))) ∙ take-append-drop k cells

-- one number in each cell
pub cut_filled : (n k : ℕ) (v : ℤ) → cut_rows n k (replicate (n * k) v) ≡ replicate n (replicate k v)
cut_filled zero k v = refl
cut_filled (suc n) k v =
    let all : k ≤ suc n * k = omega arith in
    let rest : suc n * k - k ≡ n * k = omega arith in
    (λ i. take-replicate k (suc n * k) v all i ∷ cut_rows n k ((drop-replicate k (suc n * k) v ∙ ap (λ m. replicate m v) rest) i))
    ∙ ap (λ rows. replicate k v ∷ rows) (cut_filled n k v)

-- another number in one cell
pub cut_set : (n k : ℕ) (cells : List ℤ) (r c : ℕ) (v : ℤ) → r < n → c < k
    → cut_rows n k (set cells (r * k + c) v) ≡ set (cut_rows n k cells) r (set (get_or (cut_rows n k cells) r []) c v)
cut_set zero k cells r c v row column = absurd (omega (arith, row))
cut_set (suc n) k cells zero c v row column =
    let first : 0 * k + c ≡ c = omega arith in
    ap (λ j. take k (set cells j v) ∷ cut_rows n k (drop k (set cells j v))) first
    ∙ ap (λ xs. xs ∷ cut_rows n k (drop k (set cells c v))) (take-set-lt k cells c v column)
    ∙ ap (λ xs. set (take k cells) c v ∷ cut_rows n k xs) (drop-set-lt k cells c v column)
cut_set (suc n) k cells (suc r) c v row column =
    let on : suc r * k + c ≡ k + (r * k + c) = omega arith in
    ap (λ j. take k (set cells j v) ∷ cut_rows n k (drop k (set cells j v))) on
    ∙ ap (λ xs. xs ∷ cut_rows n k (drop k (set cells (k + (r * k + c)) v))) (take-set-le k cells (k + (r * k + c)) v (omega arith))
    ∙ ap (λ xs. take k cells ∷ cut_rows n k xs) (drop-set-add k cells (r * k + c) v)
    ∙ ap (λ rows. take k cells ∷ rows) (cut_set n k (drop k cells) r c v (omega (arith, row)) column)

-- the number in one cell
pub cut_get : (n k : ℕ) (cells : List ℤ) (r c : ℕ) → r < n → c < k → get_or (get_or (cut_rows n k cells) r []) c (pos 0) ≡ get_or cells (r * k + c) (pos 0)
cut_get n k cells r c row column =
    ap (λ xs. get_or xs c (pos 0)) (cut_row n k cells r row)
    ∙ get_or-take k (drop (r * k) cells) c (pos 0) column
    ∙ get_or-drop (r * k) cells c (pos 0)

-- ---- by the numbers of a request

row_below : (r : ℤ) (n : ℕ) → below r n ≡ true → size_of r < n
row_below (pos r) n h = grind (arith, nat_tests, h)
row_below (negsuc r) n h = cc

both_true : (a b : Bool) → not (a && b) ≡ false → (a ≡ true) × (b ≡ true)
both_true true true h = (refl, refl)
both_true _ _ h = cc

pub inside : (n k : ℕ) (r c : ℤ) → outside n k r c ≡ false → (size_of r < n) × (size_of c < k)
inside n k r c h = let both = both_true (below r n) (below c k) h in (row_below r n both.0, row_below c k both.1)

pub cell_set : (n k : ℕ) (cells : List ℤ) (r c v : ℤ) → outside n k r c ≡ false → cut_rows n k (set cells (place k r c) v) ≡ with_cell (cut_rows n k cells) r c v
cell_set n k cells r c v h = let both = inside n k r c h in cut_set n k cells (size_of r) (size_of c) v both.0 both.1

pub cell_get : (n k : ℕ) (cells : List ℤ) (r c : ℤ) → outside n k r c ≡ false → cell_at (cut_rows n k cells) r c ≡ get_or cells (place k r c) (pos 0)
cell_get n k cells r c h = let both = inside n k r c h in cut_get n k cells (size_of r) (size_of c) both.0 both.1

pub row_get : (n k : ℕ) (cells : List ℤ) (r : ℤ) → below r n ≡ true → row_at (cut_rows n k cells) r ≡ take k (drop (size_of r * k) cells)
row_get n k cells r h = cut_row n k cells (size_of r) (row_below r n h)

-- ---- rows of as many cells as there are columns

pub even_filled : (n k : ℕ) (v : ℤ) → AreRowsOf k (replicate n (replicate k v))
even_filled zero k v = tt
even_filled (suc n) k v = (length-replicate k v, even_filled n k v)

even_set : (k : ℕ) (rows : List (List ℤ)) (r c : ℕ) (v : ℤ) → AreRowsOf k rows → AreRowsOf k (set rows r (set (get_or rows r []) c v))
even_set k [] r c v even = tt
even_set k (row ∷ rows) zero c v even = (length-set row c v ∙ even.0, even.1)
even_set k (row ∷ rows) (suc r) c v even = (even.0, even_set k rows r c v even.1)

pub even_with_cell : (k : ℕ) (rows : List (List ℤ)) (r c v : ℤ) → AreRowsOf k rows → AreRowsOf k (with_cell rows r c v)
even_with_cell k rows r c v even = even_set k rows (size_of r) (size_of c) v even

-- what a request for a cell that is there is given
pub picked : (o : Bool) (p q : ℕ) → (if o then None else Some p) ≡ Some q → (o ≡ false) × (q ≡ p)
picked true p q h = cc
picked false p q h = (refl, cc)

-- a number is added to the cell at this place
pub cell_added : (s : State) (n k : ℕ) (cells : List ℤ) (r c v x : ℤ) (p : ℕ) → outside n k r c ≡ false → p ≡ place k r c
    → x ≡ clamp_to_word (get_or cells p (pos 0) +ℤ v)
    → (record { content = grid k (cut_rows n k (set cells p x)); refused = s.refused }, None) ≡ grid_act s k (cut_rows n k cells) AddCell (r ∷ c ∷ v ∷ [])
cell_added s n k cells r c v x p out at is =
    let rows = cut_rows n k cells in
    let old : get_or cells p (pos 0) ≡ cell_at rows r c = ap (λ j. get_or cells j (pos 0)) at ∙ sym (cell_get n k cells r c out) in
    let sum : x ≡ clamp_to_word (cell_at rows r c +ℤ v) = is ∙ ap (λ z. clamp_to_word (z +ℤ v)) old in
    let new : cut_rows n k (set cells p x) ≡ with_cell rows r c (clamp_to_word (cell_at rows r c +ℤ v)) =
    (λ i. cut_rows n k (set cells (at i) (sum i))) ∙ cell_set n k cells r c (clamp_to_word (cell_at rows r c +ℤ v)) out in
    let there : outside (length rows) k r c ≡ false = ap (λ m. outside m k r c) (cut_length n k cells) ∙ out in
    (λ i. (record { content = grid k (new i); refused = s.refused }, None))
    ∙ sym (ap (λ b. unless b s (grid k (with_cell rows r c (clamp_to_word (cell_at rows r c +ℤ v))))) there)

-- ---- what is shown of an object tells it

pub equal_long : {X : Type 0} (xs ys us vs : List X) → length xs ≡ length ys → xs ++ us ≡ ys ++ vs → (xs ≡ ys) × (us ≡ vs)
equal_long [] [] us vs long e = (refl, e)
equal_long [] (y ∷ ys) us vs long e = absurd (let h : 0 ≡ length (y ∷ ys) = long in omega (arith, h))
equal_long (x ∷ xs) [] us vs long e = absurd (let h : length (x ∷ xs) ≡ 0 = long in omega (arith, h))
equal_long {X} (x ∷ xs) (y ∷ ys) us vs long e =
    let first : x ≡ y = cc in
    let others : ◌≡◌ {A = List X} (xs ++ us) (ys ++ vs) = cc in
    let rest = equal_long xs ys us vs (let h : length (x ∷ xs) ≡ length (y ∷ ys) = long in omega (arith, h)) others in
    ((λ i. first i ∷ rest.0 i), rest.1)

-- rows of so many cells each, by all cells
pub rows_tell : (k : ℕ) (xs ys : List (List ℤ)) → AreRowsOf k xs → AreRowsOf k ys → length xs ≡ length ys → join_rows xs ≡ join_rows ys → xs ≡ ys
rows_tell k [] [] a b long e = refl
rows_tell k [] (y ∷ ys) a b long e = absurd (let h : 0 ≡ length (y ∷ ys) = long in omega (arith, h))
rows_tell k (x ∷ xs) [] a b long e = absurd (let h : length (x ∷ xs) ≡ 0 = long in omega (arith, h))
rows_tell k (x ∷ xs) (y ∷ ys) a b long e =
    let parts = equal_long x y (join_rows xs) (join_rows ys) (a.0 ∙ sym b.0) e in
    let rest = rows_tell k xs ys a.1 b.1 (let h : length (x ∷ xs) ≡ length (y ∷ ys) = long in omega (arith, h)) parts.1 in
    λ i. parts.0 i ∷ rest i

same_content : (c d : Content) → IsInRange c → IsInRange d → kind_of c ≡ kind_of d → values_of c ≡ values_of d → c ≡ d
same_content (account b) (account c) x y kind values = let e : b ≡ c = cc in ap account e
same_content (buffer k xs) (buffer m ys) x y kind values = let e : k ≡ m = cc in λ i. buffer (e i) (values i)
same_content (grid k rows) (grid m others) x y kind values =
    let many : length rows ≡ length others = cc in
    let wide : k ≡ m = cc in
    λ i. grid (wide i) ((rows_tell k rows others x.4 (subst (λ n. AreRowsOf n others) (sym wide) y.4) many values) i)
same_content _ _ x y kind values = cc

-- an object in range, by its kind, its values and its counter
pub same_state : (s t : State) → IsInRange s.content → IsInRange t.content → kind_of s.content ≡ kind_of t.content → values_of s.content ≡ values_of t.content
    → s.refused ≡ t.refused → s ≡ t
same_state s t x y kind values refused =
    let content = same_content s.content t.content x y kind values in
    λ i. record { content = content i; refused = refused i }
