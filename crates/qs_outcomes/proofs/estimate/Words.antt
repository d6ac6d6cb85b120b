-- All words with so many of each letter at most stand in one list, which is made by putting in one letter after
-- another: of each word what has only the letters before stands in the list before, and `puts` has each way to put in
-- the next letter. The list is as long as Pascal's recursion says, or shorter.
use Rattle.std.proofs.Common.{◌≡◌, ◌==◌, ℕ, zero, suc, ◌+◌, ◌-◌, ◌≤◌, ◌<◌, ◌*◌, Bool, true, false, cond, if◌then◌else◌, List, [], ◌∷◌, ◌++◌, length, map, filter, flat_map, count_by, nat_lt, refl, sym, ap, ◌∙◌, subst, arith, ◌⊎◌, inl, inr, length-append}
use Rattle.qs_outcomes.proofs.Common.{AllByRecursion, each_join, each_map, eqb_apart, eqb_self, has_back, has_front, has_map, HasOne, le-ltb, length-map, lt-ltb, mul-le-mul_right, num_cases, sum_by-append, sum_by-cons}
use Rattle.qs_outcomes.proofs.Mapped.{each_mapped, has_flat, has_mapped}
use Rattle.qs_outcomes.specs.estimate.Estimates.{insertions, most_from, most_orders}

-- how often a letter stands in a word
abbrev pub times : ℕ → List ℕ → ℕ
times c v = count_by (λ x. x == c) v

-- a word without the letters from a number on
abbrev pub below : ℕ → List ℕ → List ℕ
below k v = filter (λ x. nat_lt x k) v

pub times-here : (c x : ℕ) (v : List ℕ) → x ≡ c → times c (x ∷ v) ≡ suc (times c v)
times-here c x v e =
    let same : (x == c) ≡ true = subst (λ d. (x == d) ≡ true) e (eqb_self x) in
    sum_by-cons (λ y. cond (y == c) 1 0) x v ∙ ap (λ b. cond b 1 0 + times c v) same ∙ omega arith

pub times-there : (c x : ℕ) (v : List ℕ) → (x == c) ≡ false → times c (x ∷ v) ≡ times c v
times-there c x v e = sum_by-cons (λ y. cond (y == c) 1 0) x v ∙ ap (λ b. cond b 1 0 + times c v) e ∙ omega arith

pub times-cons : (c x : ℕ) (v : List ℕ) → times c (x ∷ v) ≡ (if x == c then suc (times c v) else times c v)
times-cons c x v = let e = sum_by-cons (λ y. cond (y == c) 1 0) x v in grind (arith, e)

below-in : (k x : ℕ) (v : List ℕ) → x < k → below k (x ∷ v) ≡ x ∷ below k v
below-in k x v less = ap (λ b. cond b (x ∷ below k v) (below k v)) (lt-ltb x k less)

below-out : (k x : ℕ) (v : List ℕ) → k ≤ x → below k (x ∷ v) ≡ below k v
below-out k x v past = ap (λ b. cond b (x ∷ below k v) (below k v)) (le-ltb x k past)

pub times-append : (c : ℕ) (v w : List ℕ) → times c (v ++ w) ≡ times c v + times c w
times-append c v w = sum_by-append (λ y. cond (y == c) 1 0) v w

-- ---- where a letter stands among the next ones

data Place (c x : ℕ) : Type 0 where
  before : x < c → Place c x
  here : x ≡ c → Place c x
  past : suc c ≤ x → (x == c) ≡ false → Place c x

apart_less : (c x : ℕ) → x < c → (x == c) ≡ false
apart_less c x less = eqb_apart x c (λ e. omega (arith, e, less))

place : (c x : ℕ) → Place c x
place c x = by_test (nat_lt x c) refl (num_cases x c)
  where
    by_test : (b : Bool) → nat_lt x c ≡ b → (x ≡ c) ⊎ ((x == c) ≡ false) → Place c x
    by_test true e either = before (grind (arith, e))
    by_test false e (inl same) = here same
    by_test false e (inr other) = past (grind (arith, e, other)) other

-- ---- putting in

-- a word with up to so many of one letter put in
abbrev puts : ℕ → ℕ → List ℕ → List (List ℕ)
puts c zero w = w ∷ []
puts c (suc b) [] = [] ∷ map (λ v. c ∷ v) (puts c b [])
puts c (suc b) (x ∷ w) = map (λ v. c ∷ v) (puts c b (x ∷ w)) ++ map (λ v. x ∷ v) (puts c (suc b) w)

pub no_others : (b : ℕ) → insertions b 0 ≡ suc b
no_others zero = refl
no_others (suc b) = refl

puts-length : (c b : ℕ) (w : List ℕ) → length (puts c b w) ≡ insertions b (length w)
puts-length c zero w = refl
puts-length c (suc b) [] = ap suc (length-map (puts c b []) (λ v. c ∷ v) ∙ puts-length c b [] ∙ no_others b)
puts-length c (suc b) (x ∷ w) =
    let joined = length-append (map (λ v. c ∷ v) (puts c b (x ∷ w))) (map (λ v. x ∷ v) (puts c (suc b) w)) in
    let left : length (map (λ v. c ∷ v) (puts c b (x ∷ w))) ≡ insertions b (suc (length w)) = length-map (puts c b (x ∷ w)) (λ v. c ∷ v) ∙ puts-length c b (x ∷ w) in
    let right : length (map (λ v. x ∷ v) (puts c (suc b) w)) ≡ insertions (suc b) (length w) = length-map (puts c (suc b) w) (λ v. x ∷ v) ∙ puts-length c (suc b) w in
    omega (arith, joined, left, right)

has_behind : (x : ℕ) (v : List ℕ) (ws : List (List ℕ)) → HasOne (λ w. v ≡ w) ws → HasOne (λ w. x ∷ v ≡ w) (map (λ w. x ∷ w) ws)
has_behind x v ws h = has_mapped {P = λ w. v ≡ w} (λ w. x ∷ v ≡ w) (λ w. x ∷ w) (λ w e. ap (λ u. x ∷ u) e) ws h

put_first : (c b : ℕ) (v w : List ℕ) → HasOne (λ u. v ≡ u) (puts c b w) → HasOne (λ u. c ∷ v ≡ u) (puts c (suc b) w)
put_first c b v [] h = inr (has_behind c v (puts c b []) h)
put_first c b v (x ∷ w) h = has_front (λ u. c ∷ v ≡ u) (map (λ u. c ∷ u) (puts c b (x ∷ w))) (map (λ u. x ∷ u) (puts c (suc b) w)) (has_behind c v (puts c b (x ∷ w)) h)

same_below : (c : ℕ) (v : List ℕ) → times c v ≡ 0 → below (suc c) v ≡ below c v
same_below c [] none = refl
same_below c (x ∷ v) none = by_place (place c x) (same_below c v)
  where
    by_place : Place c x → (times c v ≡ 0 → below (suc c) v ≡ below c v) → below (suc c) (x ∷ v) ≡ below c (x ∷ v)
    by_place (before less) on = below-in (suc c) x v (omega (arith, less)) ∙ ap (λ u. x ∷ u) (on (sym (times-there c x v (apart_less c x less)) ∙ none)) ∙ sym (below-in c x v less)
    by_place (here e) on = absurd (let more = times-here c x v e in omega (arith, more, none))
    by_place (past less other) on = below-out (suc c) x v less ∙ on (sym (times-there c x v other) ∙ none) ∙ sym (below-out c x v (omega (arith, less)))

put_in : (c b : ℕ) (v : List ℕ) → times c v ≤ b → HasOne (λ w. below (suc c) v ≡ w) (puts c b (below c v))
put_in c zero v few = inl (same_below c v (omega (arith, few)))
put_in c (suc b) [] few = inl refl
put_in c (suc b) (x ∷ v) few = by_place (place c x) (put_in c b v) (put_in c (suc b) v)
  where
    by_place : Place c x → (times c v ≤ b → HasOne (λ w. below (suc c) v ≡ w) (puts c b (below c v)))
        → (times c v ≤ suc b → HasOne (λ w. below (suc c) v ≡ w) (puts c (suc b) (below c v)))
        → HasOne (λ w. below (suc c) (x ∷ v) ≡ w) (puts c (suc b) (below c (x ∷ v)))
    by_place (before less) fewer same =
        subst (λ u. HasOne (λ w. u ≡ w) (puts c (suc b) (below c (x ∷ v)))) (sym (below-in (suc c) x v (omega (arith, less))))
        (subst (λ u. HasOne (λ w. x ∷ below (suc c) v ≡ w) (puts c (suc b) u)) (sym (below-in c x v less))
        (has_back (λ w. x ∷ below (suc c) v ≡ w) (map (λ u. c ∷ u) (puts c b (x ∷ below c v))) (map (λ u. x ∷ u) (puts c (suc b) (below c v)))
        (has_behind x (below (suc c) v) (puts c (suc b) (below c v)) (same (let t = times-there c x v (apart_less c x less) in omega (arith, t, few))))))
    by_place (here e) fewer same =
        subst (λ u. HasOne (λ w. u ≡ w) (puts c (suc b) (below c (x ∷ v)))) (sym (below-in (suc c) x v (omega (arith, e)) ∙ ap (λ y. y ∷ below (suc c) v) e))
        (subst (λ u. HasOne (λ w. c ∷ below (suc c) v ≡ w) (puts c (suc b) u)) (sym (below-out c x v (omega (arith, e))))
        (put_first c b (below (suc c) v) (below c v) (fewer (let more = times-here c x v e in omega (arith, more, few)))))
    by_place (past less other) fewer same =
        subst (λ u. HasOne (λ w. u ≡ w) (puts c (suc b) (below c (x ∷ v)))) (sym (below-out (suc c) x v less))
        (subst (λ u. HasOne (λ w. below (suc c) v ≡ w) (puts c (suc b) u)) (sym (below-out c x v (omega (arith, less))))
        (same (let t = times-there c x v other in omega (arith, t, few))))

pub below_all : (c : ℕ) (v : List ℕ) → ((i : ℕ) → times (c + i) v ≡ 0) → below c v ≡ v
below_all c [] none = refl
below_all c (x ∷ v) none = by_place (nat_lt x c) refl (below_all c v)
  where
    later : (i : ℕ) → times (c + i) v ≡ 0
    later i =
        let one = sum_by-cons (λ y. cond (y == c + i) 1 0) x v in
        let all = none i in omega (arith, one, all)

    by_place : (b : Bool) → nat_lt x c ≡ b → (((i : ℕ) → times (c + i) v ≡ 0) → below c v ≡ v) → below c (x ∷ v) ≡ x ∷ v
    by_place true e on = below-in c x v (grind (arith, e)) ∙ ap (λ u. x ∷ u) (on later)
    by_place false e on =
        let past : c ≤ x = grind (arith, e) in
        let here : x ≡ c + (x - c) = omega (arith, past) in
        let more = times-here (c + (x - c)) x v here in
        let all = none (x - c) in absurd (omega (arith, more, all))

-- ---- all words

-- words over the letters before a number, with so many of each letter from that number on put in
abbrev words_from : ℕ → List (List ℕ) → List ℕ → List (List ℕ)
words_from c ws [] = ws
words_from c ws (b ∷ bs) = words_from (suc c) (flat_map (puts c b) ws) bs

abbrev pub words : List ℕ → List (List ℕ)
words bs = words_from 0 ([] ∷ []) bs

-- each letter from a number on stands in the word as often as the list says, or less
abbrev pub AreFew : ℕ → List ℕ → List ℕ → Type 0
AreFew c [] v = below c v ≡ v
AreFew c (b ∷ bs) v = (times c v ≤ b) × AreFew (suc c) bs v

words_in : (c : ℕ) (bs : List ℕ) (ws : List (List ℕ)) (v : List ℕ) → HasOne (λ w. below c v ≡ w) ws → AreFew c bs v → HasOne (λ w. v ≡ w) (words_from c ws bs)
words_in c [] ws v h few = has_map (λ w e. sym few ∙ e) ws h
words_in c (b ∷ bs) ws v h few =
    words_in (suc c) bs (flat_map (puts c b) ws) v
    (has_flat (λ w. below (suc c) v ≡ w) (puts c b) (λ w (e : below c v ≡ w). subst (λ u. HasOne (λ w. below (suc c) v ≡ w) (puts c b u)) e (put_in c b v few.0)) ws h)
    few.1

none_below : (v : List ℕ) → below 0 v ≡ []
none_below [] = refl
none_below (x ∷ v) = below-out 0 x v (omega arith) ∙ none_below v

pub word_in : (bs v : List ℕ) → AreFew 0 bs v → HasOne (λ w. v ≡ w) (words bs)
word_in bs v few = words_in 0 bs ([] ∷ []) v (inl (none_below v)) few

-- ---- how many words

more_others : (b m : ℕ) → insertions b m ≤ insertions b (suc m)
more_others zero m = omega arith
more_others (suc b) m = omega arith

with_more : (b m k : ℕ) → insertions b m ≤ insertions b (k + m)
with_more b m zero = let e : zero + m ≡ m = omega arith in subst (λ n. insertions b m ≤ insertions b n) (sym e) (omega arith)
with_more b m (suc k) =
    let e : suc k + m ≡ suc (k + m) = omega arith in
    let first = with_more b m k in let more = more_others b (k + m) in
    subst (λ n. insertions b m ≤ insertions b n) (sym e) (omega (arith, first, more))

grows : (b m n : ℕ) → m ≤ n → insertions b m ≤ insertions b n
grows b m n up = let e : (n - m) + m ≡ n = omega (arith, up) in subst (λ k. insertions b m ≤ insertions b k) e (with_more b m (n - m))

puts-within : (c b : ℕ) (w : List ℕ) → AllByRecursion (λ v. length v ≤ length w + b) (puts c b w)
puts-within c zero w = (omega arith, tt)
puts-within c (suc b) [] =
    (omega arith, each_mapped (λ v. length v ≤ 0 + suc b) (λ v. c ∷ v) (λ v (h : length v ≤ 0 + b). (let up : length (c ∷ v) ≤ 0 + suc b = omega (arith, h) in up)) (puts c b []) (puts-within c b []))
puts-within c (suc b) (x ∷ w) =
    each_join (λ v. length v ≤ length (x ∷ w) + suc b) (map (λ v. c ∷ v) (puts c b (x ∷ w))) (map (λ v. x ∷ v) (puts c (suc b) w))
    (each_mapped (λ v. length v ≤ length (x ∷ w) + suc b) (λ v. c ∷ v) (λ v (h : length v ≤ length (x ∷ w) + b). (let up : length (c ∷ v) ≤ length (x ∷ w) + suc b = omega (arith, h) in up)) (puts c b (x ∷ w)) (puts-within c b (x ∷ w)))
    (each_mapped (λ v. length v ≤ length (x ∷ w) + suc b) (λ v. x ∷ v) (λ v (h : length v ≤ length w + suc b). (let up : length (x ∷ v) ≤ length (x ∷ w) + suc b = omega (arith, h) in up)) (puts c (suc b) w) (puts-within c (suc b) w))

flat-within : (c b m : ℕ) (ws : List (List ℕ)) → AllByRecursion (λ w. length w ≤ m) ws → AllByRecursion (λ w. length w ≤ m + b) (flat_map (puts c b) ws)
flat-within c b m [] each = tt
flat-within c b m (w ∷ ws) each =
    each_join (λ v. length v ≤ m + b) (puts c b w) (flat_map (puts c b) ws)
    (let short : length w ≤ m = each.0 in each_map (λ v (h : length v ≤ length w + b). (let up : length v ≤ m + b = omega (arith, h, short) in up)) (puts c b w) (puts-within c b w))
    (flat-within c b m ws each.1)

flat-long : (c b m : ℕ) (ws : List (List ℕ)) → AllByRecursion (λ w. length w ≤ m) ws → length (flat_map (puts c b) ws) ≤ length ws * insertions b m
flat-long c b m [] each = omega arith
flat-long c b m (w ∷ ws) each =
    let joined = length-append (puts c b w) (flat_map (puts c b) ws) in
    let one = puts-length c b w in
    let up = grows b (length w) m each.0 in
    let rest = flat-long c b m ws each.1 in omega (arith, joined, one, up, rest)

words-long : (c m : ℕ) (bs : List ℕ) (ws : List (List ℕ)) → AllByRecursion (λ w. length w ≤ m) ws → length (words_from c ws bs) ≤ length ws * most_from m bs
words-long c m [] ws each = omega arith
words-long c m (b ∷ bs) ws each =
    let rest = words-long (suc c) (m + b) bs (flat_map (puts c b) ws) (flat-within c b m ws each) in
    let first : length (flat_map (puts c b) ws) * most_from (m + b) bs ≤ length ws * insertions b m * most_from (m + b) bs = mul-le-mul_right (most_from (m + b) bs) (flat-long c b m ws each) in
    omega (arith, rest, first)

pub words_few : (bs : List ℕ) → length (words bs) ≤ most_orders bs
words_few bs = let long = words-long 0 0 bs ([] ∷ []) ((let none : length {A = ℕ} [] ≤ 0 = omega arith in none), tt) in omega (arith, long)
