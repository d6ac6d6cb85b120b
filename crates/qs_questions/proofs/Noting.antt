-- One end after another is noted, and the values are those of the ends so far: what is listed stays in its order, each
-- number is among them, and each is counted. The lists go by induction on what stands before the place that changes.
use Rattle.std.proofs.Common.{◌≡◌, inl, inr, ℕ, zero, suc, ◌+◌, ◌<◌, ◌≤◌, Bool, true, false, cond, List, [], ◌∷◌, ◌++◌, length, map, get_or, set, take, drop, subst, refl, ap, ap₂, sym, ◌∙◌, arith, length-append, ℤ, pos, ◌<ℤ◌, ◌≤ℤ◌}
use Rattle.std.proofs.lemmas.Bool.Decides.{Decides-int_eq}
use Rattle.std.proofs.lemmas.List.{drop_all, get_or_append_left, get_or_push, length-map, length-take-le, map_push, set_split, take-append-drop, take_all, take_more}
use Rattle.std.proofs.Math.Seq.{drop-cons}
use Rattle.std.proofs.lemmas.List.Sums.{count_by-le-length, sum_by-cons, sum_by_push}
use Rattle.std.specs.List.{count_by, insert}
use Rattle.std.specs.Ordering.{int_eq}
use Rattle.qs_meaning.proofs.Each.{each_back, each_both, each_front, each_join, each_map, each_snoc}
use Rattle.qs_questions.proofs.Common.{AllByRecursion, ints}
use Rattle.qs_standings.proofs.Lists.{has_back, has_either, has_front, has_some, pairs_front, pairs_join}
use Rattle.qs_standings.specs.Lists.{EachTwo, HasOne}
use Rattle.qs_questions.specs.Noting.{AreBelow, IsNoted, StartsAbove, StartsFrom, with_more, with_one}
use Rattle.qs_questions.specs.SumValues.{AreAscending, AreValuesIn, IsValueIn}
use Rattle.qs_questions.specs.declared.sums.SumValue.{SumValue}

-- ---- numbers

less_other : (a b : ℤ) → a <ℤ b → a ≡ b → ⊥
less_other a b less same = omega (arith, ints)

more_other : (a b : ℤ) → b <ℤ a → a ≡ b → ⊥
more_other a b less same = omega (arith, ints)

less_less : (a b c : ℤ) → a <ℤ b → b <ℤ c → a <ℤ c
less_less a b c h k = omega (arith, ints)

not_true : (b : Bool) → (b ≡ true → ⊥) → b ≡ false
not_true true h = absurd (h refl)
not_true false h = refl

-- ---- lists in which one element changes, or a new one stands

module _ {X : Type 0} (ys : List X) (x y : X) where
  each_put : (P : X → Type 0) → (P x → P y) → (xs : List X) → AllByRecursion P (xs ++ x ∷ ys) → AllByRecursion P (xs ++ y ∷ ys)
  each_put P f [] h = (f h.0, h.1)
  each_put P f (z ∷ zs) h = (h.0, each_put P f zs h.1)

  has_put : (P : X → Type 0) → (P x → P y) → (xs : List X) → HasOne P (xs ++ x ∷ ys) → HasOne P (xs ++ y ∷ ys)
  has_put P f [] (inl h) = inl (f h)
  has_put P f [] (inr h) = inr h
  has_put P f (z ∷ zs) (inl h) = inl h
  has_put P f (z ∷ zs) (inr h) = inr (has_put P f zs h)

  pairs_put : (R : X → X → Type 0) → ((z : X) → R x z → R y z) → ((z : X) → R z x → R z y) → (xs : List X)
      → EachTwo R (xs ++ x ∷ ys) → EachTwo R (xs ++ y ∷ ys)
  pairs_put R f g [] h = (each_map f ys h.0, h.1)
  pairs_put R f g (z ∷ zs) h = (each_put (R z) (g z) zs h.0, pairs_put R f g zs h.1)

module _ {X : Type 0} (R : X → X → Type 0) where
  pairs_back : (xs ys : List X) → EachTwo R (xs ++ ys) → EachTwo R ys
  pairs_back [] ys h = h
  pairs_back (x ∷ xs) ys h = pairs_back xs ys h.1

  pairs_across : (xs ys : List X) → EachTwo R (xs ++ ys) → AllByRecursion (λ x. AllByRecursion (R x) ys) xs
  pairs_across [] ys h = tt
  pairs_across (x ∷ xs) ys h = (each_back (R x) xs ys h.0, pairs_across xs ys h.1)

has_between : {X : Type 0} (P : X → Type 0) (xs ys : List X) (y : X) → HasOne P (xs ++ ys) → HasOne P (xs ++ y ∷ ys)
has_between P xs ys y h = elim (has_either P xs ys h) [ inl a ↦ has_front P xs (y ∷ ys) a | inr b ↦ has_back P xs (y ∷ ys) (inr b) ]

each_at : {X : Type 0} (P : X → Type 0) (d : X) (xs : List X) (k : ℕ) → k < length xs → AllByRecursion P xs → P (get_or xs k d)
each_at P d [] k less h = absurd (omega arith)
each_at P d (x ∷ xs) zero less h = h.0
each_at P d (x ∷ xs) (suc k) less h = each_at P d xs k (omega arith) h.1

-- ---- what is said of a value, with one number more

module _ (ns : List ℤ) (v : ℤ) where
  abbrev grown : List ℤ
  grown = ns ++ v ∷ []

  longer : length grown ≡ length ns + 1
  longer = length-append ns (v ∷ [])

  counts : (w : ℤ) (b : Bool) → int_eq w v ≡ b → count_by (int_eq w) grown ≡ count_by (int_eq w) ns + cond b 1 0
  counts w b e = sum_by_push (λ n. cond (int_eq w n) 1 0) ns v ∙ ap (λ t. count_by (int_eq w) ns + cond t 1 0) e

  at_front : (k : ℕ) → k < length ns → get_or grown k (pos 0) ≡ get_or ns k (pos 0)
  at_front k less = get_or_append_left ns (v ∷ []) (pos 0) k less

  kept : (x : SumValue) → (x.value ≡ v → ⊥) → IsValueIn ns x → IsValueIn grown x
  kept x other is =
      let differs = not_true (int_eq x.value v) (λ e. other ((Decides-int_eq x.value v).0 e)) in
      let few = is.within in
      let same : count_by (int_eq x.value) grown ≡ count_by (int_eq x.value) ns + 0 = counts x.value false differs in
      record {
        ends = omega (arith, same);
        within = omega (arith, longer);
        here = at_front x.first few ∙ is.here;
        before = λ k less same. is.before k less (sym (at_front k (omega (arith, less))) ∙ same);
      }

  counted : (x : SumValue) → x.value ≡ v → IsValueIn ns x → IsValueIn grown (with_more x)
  counted x same is =
      let few = is.within in
      record {
        ends = ap (λ n. n + 1) is.ends ∙ sym (counts x.value true ((Decides-int_eq x.value v).1 same));
        within = omega (arith, longer);
        here = at_front x.first few ∙ is.here;
        before = λ k less at. is.before k less (sym (at_front k (omega (arith, less))) ∙ at);
      }

  none_counted : (ms : List ℤ) → AllByRecursion (λ m. m ≡ v → ⊥) ms → count_by (int_eq v) ms ≡ 0
  none_counted [] h = refl
  none_counted (m ∷ ms) h =
      let differs = not_true (int_eq v m) (λ e. h.0 (sym ((Decides-int_eq v m).0 e))) in
      sum_by-cons (λ n. cond (int_eq v n) 1 0) m ms
      ∙ ap₂ (λ b rest. cond b 1 0 + rest) differs (none_counted ms h.1)

  first_there : AllByRecursion (λ n. n ≡ v → ⊥) ns → IsValueIn grown (with_one v (length ns))
  first_there none = record {
    ends = sym (counts v true ((Decides-int_eq v v).1 refl) ∙ ap (λ n. n + 1) (none_counted ns none));
    within = omega (arith, longer);
    here = get_or_push ns v (pos 0) (length ns) refl;
    before = λ k less same.
        each_at (λ n. n ≡ v → ⊥) (pos 0) ns k less none (sym (at_front k less) ∙ same);
  }

  all_kept : (xs : List SumValue) → AllByRecursion (λ x. x.value ≡ v → ⊥) xs → AllByRecursion (IsValueIn ns) xs
      → AllByRecursion (IsValueIn grown) xs
  all_kept xs others are = each_both kept xs others are

  below_others : (xs : List SumValue) → AreBelow v xs → AllByRecursion (λ x. x.value ≡ v → ⊥) xs
  below_others xs below = each_map (λ x less. less_other x.value v less) xs below

  above_others : (xs : List SumValue) → AllByRecursion (λ x. v <ℤ x.value) xs → AllByRecursion (λ x. x.value ≡ v → ⊥) xs
  above_others xs above = each_map (λ x less. more_other x.value v less) xs above

  -- ---- the value is listed

  module _ (before after : List SumValue) (x : SumValue) (below : AreBelow v before) (same : x.value ≡ v)
      (are : AreValuesIn ns (before ++ x ∷ after)) where
    behind : AllByRecursion (λ y. v <ℤ y.value) after
    behind =
        subst (λ w. AllByRecursion (λ (y : SumValue). w <ℤ y.value) after) same
        (pairs_back (λ (a b : SumValue). a.value <ℤ b.value) before (x ∷ after) are.ascending).0

    one_counted : AreValuesIn grown (before ++ with_more x ∷ after)
    one_counted =
        let back = each_back (IsValueIn ns) before (x ∷ after) are.exact in
        record {
          ascending = pairs_put after x (with_more x) (λ (a b : SumValue). a.value <ℤ b.value) (λ z h. h) (λ z h. h) before are.ascending;
          listed = each_snoc (λ n. HasOne (λ (y : SumValue). y.value ≡ n) (before ++ with_more x ∷ after)) ns v
              (each_map (λ n h. has_put after x (with_more x) (λ (y : SumValue). y.value ≡ n) (λ e. e) before h) ns are.listed)
              (has_back (λ (y : SumValue). y.value ≡ v) before (with_more x ∷ after) (inl same));
          exact = each_join (IsValueIn grown) before (with_more x ∷ after)
              (all_kept before (below_others before below) (each_front (IsValueIn ns) before (x ∷ after) are.exact))
              (counted x same back.0, all_kept after (above_others after behind) back.1);
        }

  -- ---- the value is new

  all_above : (xs : List SumValue) → StartsAbove v xs → AreAscending xs → AllByRecursion (λ x. v <ℤ x.value) xs
  all_above [] h up = tt
  all_above (x ∷ xs) h up = (h, each_map (λ y less. less_less v x.value y.value h less) xs up.0)

  module _ (before after : List SumValue) (below : AreBelow v before) (from : StartsAbove v after)
      (are : AreValuesIn ns (before ++ after)) where
    Less : SumValue → SumValue → Type 0
    Less a b = a.value <ℤ b.value

    over : AllByRecursion (λ y. v <ℤ y.value) after
    over = all_above after from (pairs_back (λ (a b : SumValue). a.value <ℤ b.value) before after are.ascending)

    new_one : SumValue
    new_one = with_one v (length ns)

    none_yet : AllByRecursion (λ n. n ≡ v → ⊥) ns
    none_yet =
        let others = each_join (λ (x : SumValue). x.value ≡ v → ⊥) before after (below_others before below) (above_others after over) in
        each_map (λ n h e. has_some (λ (x : SumValue) is other. other (is ∙ e)) (before ++ after) h others) ns are.listed

    one_new : AreValuesIn grown (before ++ with_one v (length ns) ∷ after)
    one_new =
        let up = are.ascending in
        record {
          ascending = pairs_join (λ (a b : SumValue). a.value <ℤ b.value) before (with_one v (length ns) ∷ after)
              (pairs_front (λ (a b : SumValue). a.value <ℤ b.value) before after up)
              (over, pairs_back (λ (a b : SumValue). a.value <ℤ b.value) before after up)
              (each_both (λ (x : SumValue) less all. (less, all)) before below
              (pairs_across (λ (a b : SumValue). a.value <ℤ b.value) before after up));
          listed = each_snoc (λ n. HasOne (λ (y : SumValue). y.value ≡ n) (before ++ with_one v (length ns) ∷ after)) ns v
              (each_map (λ n h. has_between (λ (y : SumValue). y.value ≡ n) before after (with_one v (length ns)) h) ns are.listed)
              (has_back (λ (y : SumValue). y.value ≡ v) before (with_one v (length ns) ∷ after) (inl refl));
          exact = each_join (IsValueIn grown) before (with_one v (length ns) ∷ after)
              (all_kept before (below_others before below) (each_front (IsValueIn ns) before after are.exact))
              (first_there none_yet, all_kept after (above_others after over) (each_back (IsValueIn ns) before after are.exact));
        }

  -- ---- either

  pub noted_is : (old new : List SumValue) → IsNoted v (length ns) old new → AreValuesIn ns old → AreValuesIn grown new
  noted_is old new (before, after, below, inl (x, same, was, is)) are =
      subst (AreValuesIn grown) (sym is) (one_counted before after x below same (subst (AreValuesIn ns) was are))
  noted_is old new (before, after, below, inr (from, was, is)) are =
      subst (AreValuesIn grown) (sym is) (one_new before after below from (subst (AreValuesIn ns) was are))

-- ---- ends, one after another

module _ {X : Type 0} (f : X → ℤ) (ends : List X) (i : ℕ) where
  so_far : i ≤ length ends → length (map f (take i ends)) ≡ i
  so_far few = length-map (take i ends) f ∙ length-take-le i ends few

  -- no value has more ends than there are
  pub few_ends : (xs : List SumValue) → i ≤ length ends → AllByRecursion (IsValueIn (map f (take i ends))) xs → AllByRecursion (λ x. x.ends ≤ i) xs
  few_ends xs few are =
      each_map (λ x is. let e : x.ends ≤ length (map f (take i ends)) = omega (arith, is.ends, count_by-le-length (int_eq x.value) (map f (take i ends))) in
      subst (λ n. x.ends ≤ n) (so_far few) e) xs are

  -- the values of one end more
  pub one_end_more : (d : X) (v : ℤ) (old new : List SumValue) → i < length ends → v ≡ f (get_or ends i d) → IsNoted v i old new
      → AreValuesIn (map f (take i ends)) old → AreValuesIn (map f (take (i + 1) ends)) new
  one_end_more d v old new less value noted are =
      let ns = map f (take i ends) in
      let more : map f (take (i + 1) ends) ≡ ns ++ v ∷ [] =
      ap (map f) (take_more ends i d less) ∙ map_push f (take i ends) (get_or ends i d) ∙ ap (λ w. ns ++ w ∷ []) (sym value) in
      subst (λ ms. AreValuesIn ms new) (sym more)
      (noted_is ns v old new (subst (λ n. IsNoted v n old new) (sym (so_far (omega arith))) noted) are)

  -- where all ends are noted, the values are theirs, and each was first had at one of them
  pub all_ends : (xs : List SumValue) → length ends ≤ i → AreValuesIn (map f (take i ends)) xs
      → AreValuesIn (map f ends) xs × AllByRecursion (λ x. x.first < length ends) xs
  all_ends xs past are =
      let all : AreValuesIn (map f ends) xs = subst (λ es. AreValuesIn (map f es) xs) (take_all i ends past) are in
      (all, each_map (λ x is. subst (λ n. x.first < n) (length-map ends f) is.within) xs all.exact)

-- ---- the code changes a list at a place

split_at : {X : Type 0} (xs : List X) (i : ℕ) (d : X) → i < length xs → xs ≡ take i xs ++ get_or xs i d ∷ drop (suc i) xs
split_at xs i d less = sym (take-append-drop i xs) ∙ ap (λ ys. take i xs ++ ys) (drop-cons xs i d less)

module _ (v : ℤ) (end : ℕ) (xs new : List SumValue) (i : ℕ) (below : AreBelow v (take i xs)) where
  pub noted_again : (x : SumValue) → i < length xs → x ≡ get_or xs i x → x.value ≡ v → new ≡ set xs i (with_more x)
      → IsNoted v end xs new
  noted_again x less item same is = (
    take i xs,
    drop (suc i) xs,
    below,
    inl (x, same, split_at xs i x less ∙ ap (λ y. take i xs ++ y ∷ drop (suc i) xs) (sym item), is ∙ set_split xs i (with_more x) less),
  )

  pub noted_first : StartsAbove v (drop i xs) → new ≡ insert xs i (with_one v end) → IsNoted v end xs new
  noted_first above is = (take i xs, drop i xs, below, inr (above, sym (take-append-drop i xs), is))

greater : (a b : ℤ) → a ≤ℤ b → (b ≡ a → ⊥) → a <ℤ b
greater a b from other = omega (arith, ints)

pub starts_above : (v : ℤ) (xs : List SumValue) (i : ℕ) (x : SumValue) → i < length xs → x ≡ get_or xs i x → StartsFrom v (drop i xs)
    → (x.value ≡ v → ⊥) → StartsAbove v (drop i xs)
starts_above v xs i x less item from other =
    let cut : drop i xs ≡ x ∷ drop (suc i) xs = drop-cons xs i x less ∙ ap (λ y. y ∷ drop (suc i) xs) (sym item) in
    let first : v ≤ℤ x.value = subst (StartsFrom v) cut from in
    subst (StartsAbove v) (sym cut) (greater v x.value first other)

pub starts_nowhere : (v : ℤ) (xs : List SumValue) (i : ℕ) → length xs ≤ i → StartsAbove v (drop i xs)
starts_nowhere v xs i past = subst (StartsAbove v) (sym (drop_all i xs past)) tt
