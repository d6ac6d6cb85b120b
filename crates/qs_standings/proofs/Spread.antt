-- The variables of all clients in one list, one client's behind another's: what is read at one client, what becomes of
-- all where one client's are others, and that all are 0 where all numbers are. Each goes by induction on the clients,
-- whose first one's numbers are the front of the list.
use Rattle.std.proofs.Common.{◌≡◌, ◌<◌, ◌≤◌, ◌+◌, ◌-◌, ◌*◌, ℕ, zero, suc, List, [], ◌∷◌, ◌++◌, length, get_or, take, drop, replicate, refl, sym, ap, ap₂, ◌∙◌, arith, append_assoc, append-nil, add-one, length-append, ℤ, pos, slice_set, swap, mul-le-mul_left}
use Rattle.qs_standings.proofs.Common.{drop-drop, drop-replicate, drop_at, length-drop, length-replicate, length-take, Locals, most_variables, nil_from_length, replicate-append-replicate, take-append-drop, take_all, take_at, take_more, zeros}
use Rattle.std.proofs.lemmas.List.Edits.{swap_is}
use Rattle.qs_standings.specs.Rows.{overwritten}
use Rattle.qs_standings.specs.Variables.{IsSpread, spread, widened}
use Rattle.qs_standings.proofs.NextRows.{over_behind, over_whole}

-- a client's numbers lie within those of all
pub segment : (c n w : ℕ) → c < n → c * w + w ≤ n * w
segment c n w less = let h : suc c ≤ n = omega (arith, less) in omega (arith, mul-le-mul_left w h)

pub spread_long : (w n : ℕ) (vs : List ℤ) → length (spread w n vs) ≡ n
spread_long w zero vs = refl
spread_long w (suc n) vs = ap suc (spread_long w n (drop w vs))

-- one client's
pub spread_at : (w n c : ℕ) (vs : List ℤ) → c < n → get_or (spread w n vs) c zeros ≡ widened w (drop (c * w) vs)
spread_at w zero c vs less = absurd (omega (arith, less))
spread_at w (suc n) zero vs less = λ i. widened w (drop (let e : 0 ≡ 0 * w = omega arith in e i) vs)
spread_at w (suc n) (suc c) vs less =
    spread_at w n c (drop w vs) (omega (arith, less))
    ∙ ap (widened w) (drop-drop (c * w) w vs ∙ (λ i. drop (let e : w + c * w ≡ suc c * w = omega arith in e i) vs))

widened_long : (w : ℕ) (vs : List ℤ) → w ≤ most_variables → w ≤ length vs → length (widened w vs) ≡ most_variables
widened_long w vs few long =
    let back : length (drop w zeros) ≡ most_variables - w = length-drop w zeros in
    omega (arith, few, long, length-take w vs, back, length-append (take w vs) (drop w zeros))

pub each_long : (w n c : ℕ) (vs : List ℤ) → w ≤ most_variables → n * w ≤ length vs → c < n → length (get_or (spread w n vs) c zeros) ≡ most_variables
each_long w n c vs few long less =
    ap length (spread_at w n c vs less) ∙ widened_long w (drop (c * w) vs) few (omega (arith, long, segment c n w less, length-drop (c * w) vs))

-- the first client's numbers are the front
spread_front : (w n : ℕ) (xs rest : List ℤ) → length xs ≡ w → spread w (suc n) (xs ++ rest) ≡ (xs ++ drop w zeros) ∷ spread w n rest
spread_front w n xs rest long = λ i. (take_at xs rest w long i ++ drop w zeros) ∷ spread w n (drop_at xs rest w long i)

front_long : (w n : ℕ) (vs : List ℤ) → suc n * w ≤ length vs → length (take w vs) ≡ w
front_long w n vs long = let cut = length-take w vs in omega (arith, long, cut)

rest_long : (w n : ℕ) (vs : List ℤ) → suc n * w ≤ length vs → n * w ≤ length (drop w vs)
rest_long w n vs long = let cut = length-drop w vs in omega (arith, long, cut)

-- One client's are others; of these all are 0 that have no place.
pub spread_over : (w n c place : ℕ) (vs : List ℤ) (v : Locals) → place ≡ c * w → c < n → n * w ≤ length vs → length (take w v) ≡ w
    → drop w v ≡ drop w zeros → spread w n (overwritten vs place (take w v)) ≡ slice_set (spread w n vs) c v
spread_over w zero c place vs v is less long room past = absurd (omega (arith, less))
spread_over w (suc n) zero place vs v is less long room past =
    let here : place ≡ 0 = omega (arith, is) in
    let put : overwritten vs place (take w v) ≡ take w v ++ drop w vs =
    (λ i. overwritten (sym (take-append-drop w vs) i) (here i) (take w v))
    ∙ over_whole (take w vs) (drop w vs) (take w v) (front_long w n vs long ∙ sym room) in
    ap (spread w (suc n)) put ∙ spread_front w n (take w v) (drop w vs) room
    ∙ ap (λ (l : Locals). l ∷ spread w n (drop w vs)) (ap (λ xs. take w v ++ xs) (sym past) ∙ take-append-drop w v)
spread_over w (suc n) (suc c) place vs v is less long room past =
    let front = front_long w n vs long in
    let here : place ≡ length (take w vs) + c * w = omega (arith, is, front) in
    let put : overwritten vs place (take w v) ≡ take w vs ++ overwritten (drop w vs) (c * w) (take w v) =
    (λ i. overwritten (sym (take-append-drop w vs) i) (here i) (take w v)) ∙ over_behind (take w vs) (drop w vs) (c * w) (take w v) in
    ap (spread w (suc n)) put ∙ spread_front w n (take w vs) (overwritten (drop w vs) (c * w) (take w v)) front
    ∙ ap (λ ls. widened w vs ∷ ls) (spread_over w n c (c * w) (drop w vs) v refl (omega (arith, less)) (rest_long w n vs long) room past)

-- all are 0
zeros_are : (w : ℕ) → w ≤ most_variables → replicate w (pos 0) ++ drop w zeros ≡ zeros
zeros_are w few =
    ap (λ xs. replicate w (pos 0) ++ xs) (drop-replicate w most_variables (pos 0))
    ∙ (replicate-append-replicate w (most_variables - w) (pos 0) ∙ (λ i. replicate (let e : w + (most_variables - w) ≡ most_variables = omega (arith, few) in e i) (pos 0)))

pub spread_zeros : (w n : ℕ) → w ≤ most_variables → spread w n (replicate (n * w) (pos 0)) ≡ replicate n zeros
spread_zeros w zero few = refl
spread_zeros w (suc n) few =
    ap (spread w (suc n))
    ((λ i. replicate (let e : suc n * w ≡ w + n * w = omega arith in e i) (pos 0)) ∙ sym (replicate-append-replicate w (n * w) (pos 0)))
    ∙ (spread_front w n (replicate w (pos 0)) (replicate (n * w) (pos 0)) (length-replicate w (pos 0))
    ∙ ap₂ (λ (l : Locals) ls. l ∷ ls) (zeros_are w few) (spread_zeros w n few))

-- one client more, of which all numbers have a place
pub spread_more : (n : ℕ) (xs ys : List ℤ) → length xs ≡ n * most_variables → length ys ≡ most_variables
    → spread most_variables (n + 1) (xs ++ ys) ≡ spread most_variables n xs ++ ys ∷ []
spread_more n xs ys long all = ap (λ m. spread most_variables m (xs ++ ys)) (add-one n) ∙ more n xs ys long all
  where
    more : (n : ℕ) (xs ys : List ℤ) → length xs ≡ n * most_variables → length ys ≡ most_variables
        → spread most_variables (suc n) (xs ++ ys) ≡ spread most_variables n xs ++ ys ∷ []
    more zero xs ys long all =
        let none : xs ≡ [] = nil_from_length xs (omega (arith, long)) in
        ap (λ zs. spread most_variables 1 (zs ++ ys)) none ∙ ap (λ (l : Locals). l ∷ []) (append-nil (take most_variables ys) ∙ take_all most_variables ys (omega (arith, all)))
    more (suc n) xs ys long all =
        let front = front_long most_variables n xs (omega (arith, long)) in
        ap (spread most_variables (suc (suc n))) (ap (λ zs. zs ++ ys) (sym (take-append-drop most_variables xs)) ∙ append_assoc (take most_variables xs) (drop most_variables xs) ys)
        ∙ (spread_front most_variables (suc n) (take most_variables xs) (drop most_variables xs ++ ys) front
        ∙ ap (λ ls. widened most_variables xs ∷ ls) (more n (drop most_variables xs) ys (omega (arith, long, length-drop most_variables xs)) all))

-- a client of those that are there
pub of_all : (w n c : ℕ) (vs : List ℤ) (ls : List Locals) → spread w n vs ≡ ls → c < length ls → c < n
of_all w n c vs ls is less = let e = sym (spread_long w n vs) ∙ ap length is in omega (arith, less, e)

pub place_within : (w n c : ℕ) (vs : List ℤ) (ls : List Locals) → spread w n vs ≡ ls → c < length ls → IsSpread w n vs → c * w + w ≤ length vs
place_within w n c vs ls is less there =
    let all = there.all in let within = segment c n w (of_all w n c vs ls is less) in omega (arith, all, within)

pub in_all : (w n c : ℕ) (vs : List ℤ) (ls : List Locals) → spread w n vs ≡ ls → c < n → c < length ls
in_all w n c vs ls is less = let e = sym (spread_long w n vs) ∙ ap length is in omega (arith, less, e)

pub all_are : (w n : ℕ) (vs : List ℤ) (ls : List Locals) → spread w n vs ≡ ls → length ls ≡ n
all_are w n vs ls is = sym (ap length is) ∙ spread_long w n vs

pub read_at_client : (w n c place : ℕ) (vs all : List ℤ) (ls : List Locals) → spread w n vs ≡ ls → c < length ls → place ≡ c * w → all ≡ vs
    → widened w (drop place all) ≡ get_or ls c zeros
read_at_client w n c place vs all ls is less here same =
    (λ i. widened w (drop (here i) (same i))) ∙ sym (spread_at w n c vs (of_all w n c vs ls is less)) ∙ ap (λ xs. get_or xs c zeros) is

-- behind the width all are 0
narrow : (w n c : ℕ) (vs : List ℤ) → n * w ≤ length vs → c < n → drop w (get_or (spread w n vs) c zeros) ≡ drop w zeros
narrow w n c vs all less =
    let rest = length-drop (c * w) vs in
    let front = length-take w (drop (c * w) vs) in
    ap (drop w) (spread_at w n c vs less) ∙ drop_at (take w (drop (c * w) vs)) (drop w zeros) w (omega (arith, all, segment c n w less, rest, front))

front_of : (w : ℕ) (v : Locals) → w ≤ most_variables → length v ≡ most_variables → length (take w v) ≡ w
front_of w v few long = let cut = length-take w v in omega (arith, few, long, cut)

-- one client's were put
pub changed_at : (w n c place : ℕ) (vs row : List ℤ) (v : Locals) (ls : List Locals) → spread w n vs ≡ ls → IsSpread w n vs → c < n → length v ≡ most_variables
    → drop w v ≡ drop w zeros → place ≡ c * w → row ≡ overwritten vs place (take w v) → spread w n row ≡ slice_set ls c v
changed_at w n c place vs row v ls is there less long past here put =
    ap (spread w n) put ∙ spread_over w n c place vs v here less there.all (front_of w v there.narrow long) past ∙ ap (λ xs. slice_set xs c v) is

-- two clients' were put in each other's places
module _ (w n a b : ℕ) (vs : List ℤ) (ls : List Locals) (is : spread w n vs ≡ ls) (there : IsSpread w n vs) (one : a < length ls) (other : b < length ls) where
  abbrev first : Locals
  first = get_or ls a zeros

  abbrev second : Locals
  second = get_or ls b zeros

  long_at : (c : ℕ) → c < length ls → length (get_or ls c zeros) ≡ most_variables
  long_at c less = ap (λ xs. length (get_or xs c zeros)) (sym is) ∙ each_long w n c vs there.narrow there.all (of_all w n c vs ls is less)

  past_at : (c : ℕ) → c < length ls → drop w (get_or ls c zeros) ≡ drop w zeros
  past_at c less = ap (λ xs. drop w (get_or xs c zeros)) (sym is) ∙ narrow w n c vs there.all (of_all w n c vs ls is less)

  pub exchanged_at : (p q : ℕ) (row both : List ℤ) (x y : Locals) → x ≡ first → y ≡ second → p ≡ a * w → q ≡ b * w → row ≡ overwritten vs p (take w y)
      → length row ≡ length vs → both ≡ overwritten row q (take w x) → spread w n both ≡ swap ls a b
  exchanged_at p q row both x y is_first is_second here there_q put long put_both =
      let all = there.all in
      let still : IsSpread w n row = record { narrow = there.narrow; few = there.few; all = omega (arith, all, long) } in
      let once : spread w n row ≡ slice_set ls a second =
      changed_at w n a p vs row second ls is there (of_all w n a vs ls is one) (long_at b other) (past_at b other) here (put ∙ ap (λ l. overwritten vs p (take w l)) is_second) in
      let twice : spread w n both ≡ slice_set (slice_set ls a second) b first =
      changed_at w n b q row both first (slice_set ls a second) once still (of_all w n b vs ls is other) (long_at a one) (past_at a one) there_q (put_both ∙ ap (λ l. overwritten row q (take w l)) is_first) in
      twice ∙ swap_is ls a b zeros one other

-- one client more of a list of all
pub wide_more : (n : ℕ) (ls : List Locals) (xs ys new : List ℤ) → n < length ls → length xs ≡ n * most_variables → length ys ≡ most_variables
    → spread most_variables n xs ≡ take n ls → ys ≡ get_or ls n zeros → new ≡ xs ++ ys → spread most_variables (n + 1) new ≡ take (n + 1) ls
wide_more n ls xs ys new less long all before here now =
    ap (spread most_variables (n + 1)) now
    ∙ (spread_more n xs ys long all ∙ ((λ i. before i ++ here i ∷ []) ∙ sym (take_more ls n zeros less)))

-- the rest of a client's numbers, as code compares it
pub rest_zeros : (place n : ℕ) (v : Locals) → length v ≡ most_variables → most_variables ≤ n + place → take n (drop place v) ≡ take n (drop place zeros) → drop place v ≡ drop place zeros
rest_zeros place n v long all same =
    let own = length-drop place v in
    let none : length (drop place zeros) ≡ most_variables - place = length-drop place zeros in
    sym (take_all n (drop place v) (omega (arith, long, all, own))) ∙ (same ∙ take_all n (drop place zeros) (omega (arith, all, none)))
