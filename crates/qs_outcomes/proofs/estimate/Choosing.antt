-- All choices of how many blocks each client has done, up to so many of each: one list, in which no two are equal. It
-- is as long as the product of one more than each number.
use Rattle.std.proofs.Common.{◌≡◌, ℕ, zero, suc, ◌≤◌, ◌*◌, List, [], ◌∷◌, ◌++◌, length, map, refl, sym, ap, ◌∙◌, subst, arith, length-append}
use Rattle.qs_outcomes.proofs.Common.{AllByRecursion, AllZip, each_join, each_map, every, length-map, NoTwo, pairs_join}
use Rattle.qs_outcomes.proofs.Mapped.{each_mapped, two_mapped}
use Rattle.qs_outcomes.specs.estimate.Estimates.{least_orders}

-- each number up to one, before each of these
abbrev with_first : ℕ → List (List ℕ) → List (List ℕ)
with_first zero vs = map (λ v. zero ∷ v) vs
with_first (suc k) vs = map (λ v. suc k ∷ v) vs ++ with_first k vs

abbrev pub vectors : List ℕ → List (List ℕ)
vectors [] = [] ∷ []
vectors (b ∷ bs) = with_first b (vectors bs)

first-long : (k : ℕ) (vs : List (List ℕ)) → length (with_first k vs) ≡ suc k * length vs
first-long zero vs = length-map vs (λ v. zero ∷ v) ∙ omega arith
first-long (suc k) vs =
    let joined = length-append (map (λ v. suc k ∷ v) vs) (with_first k vs) in
    let one = length-map vs (λ v. suc k ∷ v) in
    let rest = first-long k vs in omega (arith, joined, one, rest)

pub vectors-long : (bs : List ℕ) → length (vectors bs) ≡ least_orders bs
vectors-long [] = refl
vectors-long (b ∷ bs) = first-long b (vectors bs) ∙ ap (λ n. suc b * n) (vectors-long bs)

-- a list that begins with a number up to this one
abbrev BeginsWithin : ℕ → List ℕ → Type 0
BeginsWithin k [] = ⊥
BeginsWithin k (x ∷ v) = x ≤ k

begin_within : (k : ℕ) (vs : List (List ℕ)) → AllByRecursion (BeginsWithin k) (with_first k vs)
begin_within zero vs = each_mapped {P = λ v. Unit {0}} (BeginsWithin zero) (λ v. zero ∷ v) (λ v h. (let low : zero ≤ zero = omega arith in low)) vs (every (λ v. tt) vs)
begin_within (suc k) vs =
    each_join (BeginsWithin (suc k)) (map (λ v. suc k ∷ v) vs) (with_first k vs)
    (each_mapped {P = λ v. Unit {0}} (BeginsWithin (suc k)) (λ v. suc k ∷ v) (λ v h. (let low : suc k ≤ suc k = omega arith in low)) vs (every (λ v. tt) vs))
    (each_map up (with_first k vs) (begin_within k vs))
  where
    up : (v : List ℕ) → BeginsWithin k v → BeginsWithin (suc k) v
    up [] h = h
    up (x ∷ v) h = omega (arith, h)

map_apart : (x : ℕ) (vs : List (List ℕ)) → NoTwo ◌≡◌ vs → NoTwo ◌≡◌ (map (λ v. x ∷ v) vs)
map_apart x vs apart = two_mapped (λ v w. v ≡ w → ⊥) (λ v w. v ≡ w → ⊥) (λ v. x ∷ v) (λ v w differ (e : x ∷ v ≡ x ∷ w). differ (let tail : v ≡ w = cc in tail)) vs apart

first_apart : (k : ℕ) (vs : List (List ℕ)) → NoTwo ◌≡◌ vs → NoTwo ◌≡◌ (with_first k vs)
first_apart zero vs apart = map_apart zero vs apart
first_apart (suc k) vs apart =
    pairs_join (λ v w. v ≡ w → ⊥) (map (λ v. suc k ∷ v) vs) (with_first k vs) (map_apart (suc k) vs apart) (first_apart k vs apart) (others vs)
  where
    other : (u : List ℕ) → AllByRecursion (λ w. suc k ∷ u ≡ w → ⊥) (with_first k vs)
    other u = each_map {Q = λ w. suc k ∷ u ≡ w → ⊥} (λ w (h : BeginsWithin k w) (e : suc k ∷ u ≡ w). (let low : suc k ≤ k = subst (BeginsWithin k) (sym e) h in omega (arith, low))) (with_first k vs) (begin_within k vs)

    others : (us : List (List ℕ)) → AllByRecursion (λ v. AllByRecursion (λ w. v ≡ w → ⊥) (with_first k vs)) (map (λ v. suc k ∷ v) us)
    others [] = tt
    others (u ∷ us) = (other u, others us)

pub vectors_apart : (bs : List ℕ) → NoTwo ◌≡◌ (vectors bs)
vectors_apart [] = (tt, tt)
vectors_apart (b ∷ bs) = first_apart b (vectors bs) (vectors_apart bs)

first_within : (k b : ℕ) (bs : List ℕ) (vs : List (List ℕ)) → k ≤ b → AllByRecursion (λ v. AllZip ◌≤◌ v bs) vs → AllByRecursion (λ v. AllZip ◌≤◌ v (b ∷ bs)) (with_first k vs)
first_within zero b bs vs up each = each_mapped (λ v. AllZip ◌≤◌ v (b ∷ bs)) (λ v. zero ∷ v) (λ v (h : AllZip ◌≤◌ v bs). (up, h)) vs each
first_within (suc k) b bs vs up each =
    each_join (λ v. AllZip ◌≤◌ v (b ∷ bs)) (map (λ v. suc k ∷ v) vs) (with_first k vs)
    (each_mapped (λ v. AllZip ◌≤◌ v (b ∷ bs)) (λ v. suc k ∷ v) (λ v (h : AllZip ◌≤◌ v bs). (up, h)) vs each)
    (first_within k b bs vs (omega (arith, up)) each)

pub vectors_within : (bs : List ℕ) → AllByRecursion (λ v. AllZip ◌≤◌ v bs) (vectors bs)
vectors_within [] = (tt, tt)
vectors_within (b ∷ bs) = first_within b b bs (vectors bs) (omega arith) (vectors_within bs)
