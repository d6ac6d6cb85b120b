-- Two arranged configurations of which one is a change of the other are the same. Else some client would have a lesser
-- place in the one than in the other. Then all of its class up to this client would have to stand before it in the
-- other, which are too many for the numbers that are left.
use Rattle.std.proofs.Common.{◌≡◌, ℕ, suc, ◌<◌, ◌≤◌, arith, if◌then◌else◌, ◌==◌, List, [], ◌∷◌, drop, refl, sym, ap, ◌∙◌, subst, inl, inr, ℤ, nat_abs, IsTrue, Ordering, Less, Equal, Greater}
use Rattle.qs_alike.proofs.Common.{cases_eq, cases_lt, int_cmp, is_le, nat_tests, ordering_reverse, slice_cmp}
use Rattle.std.specs.Cmp.{IsTotalOrder}
use Rattle.std.specs.BTreeMap.Comparable.{le_lt_trans}
use Rattle.std.specs.FinMap.{int_cmp-IsAntisymmetric, slice_cmp-IsAntisymmetric}
use Rattle.std.proofs.lemmas.Cmp.{int_cmp_total, lists_total, tied_itself}
use Rattle.indexmap.proofs.IndexTableLemmas.Probe.{Into, OneToOne, pigeonhole}
use Rattle.qs_alike.specs.Changes.{changed}
use Rattle.qs_alike.specs.Arranged.{ArrangedOnce, place_of}

abbrev order : List ℤ → List ℤ → Ordering
order u v = slice_cmp int_cmp u v

pub total : IsTotalOrder order
total = lists_total int_cmp_total

abbrev IsLess : List ℤ → List ℤ → Type 0
IsLess u v = order u v ≡ Less

not_before_itself : (u : List ℤ) → IsLess u u → ⊥
not_before_itself u l = let e : Less ≡ Equal = sym l ∙ tied_itself total u in cc

at_most : (u v : List ℤ) → (IsLess v u → ⊥) → IsTrue (is_le (order u v))
at_most u v none = by (order u v) refl
  where
    by : (r : Ordering) → order u v ≡ r → IsTrue (is_le (order u v))
    by Greater e = absurd (none (total.antisymm v u ∙ ap ordering_reverse e))
    by _ e = ap is_le e

-- lists by the numbers of clients, ordered in each class; the second has what the first has, at other numbers of the
-- same class
module _ (k : ℕ → ℕ) (a b : ℕ → List ℤ) (to from : ℕ → ℕ)
    (there : (c : ℕ) → from (to c) ≡ c) (alike : (c : ℕ) → k (to c) ≡ k c) (same : (c : ℕ) → b (to c) ≡ a c)
    (first : (c d : ℕ) → c < d → k c ≡ k d → IsLess (a d) (a c) → ⊥)
    (other : (c d : ℕ) → c < d → k c ≡ k d → IsLess (b d) (b c) → ⊥) where
  moved : ℕ → ℕ → ℕ
  moved c d = if k d == k c then to d else d

  up_to : (f : ℕ → List ℤ) → ((c d : ℕ) → c < d → k c ≡ k d → IsLess (f d) (f c) → ⊥)
      → (c d : ℕ) → c ≤ d → k c ≡ k d → IsLess (f d) (f c) → ⊥
  up_to f sorted c d h e l = elim (cases_eq c d) [
    | inl is ↦ not_before_itself (f c) (subst (λ n. IsLess (f n) (f c)) (sym is) l)
    | inr apart ↦ sorted c d (let other : c ≡ d → ⊥ = apart in omega (arith, h, other)) e l
  ]

  none_less : (c : ℕ) → IsLess (a c) (b c) → ⊥
  unfolding moved
  none_less c l = let q : suc c ≤ c = pigeonhole (suc c) c (moved c) into one in omega (arith, q)
    where
      before : (d : ℕ) → d ≤ c → k d ≡ k c → to d < c
      before d h e = elim (cases_lt (to d) c) [
        | inl less ↦ less
        | inr past ↦
            let low : IsLess (a d) (b c) = le_lt_trans total (a d) (a c) (b c) (at_most (a d) (a c) (up_to a first d c h e)) l in
            absurd (up_to b other c (to d) past (sym e ∙ sym (alike d)) (subst (λ u. IsLess u (b c)) (sym (same d)) low))
      ]

      into : Into (moved c) (suc c) c
      into d h = let behind = before d in grind (arith, nat_tests)

      one : OneToOne (moved c) (suc c)
      one i j h m is = let i_there = there i in let j_there = there j in let i_alike = alike i in let j_alike = alike j in grind (arith, nat_tests)

count_in : List ℤ → ℕ
count_in [] = 0
count_in (x ∷ xs) = nat_abs x

pub arranged_once : ArrangedOnce
unfolding count_in
arranged_once k x is g first other =
    λ i. record { begun = λ c. ap count_in (each c) i; locals = λ c. ap (drop 1) (each c) i; states = g.states }
  where
    a : ℕ → List ℤ
    a = place_of g

    b : ℕ → List ℤ
    b = place_of (changed x g)

    each : (c : ℕ) → place_of (changed x g) c ≡ place_of g c
    each c = by (order (place_of (changed x g) c) (place_of g c)) refl
      where
        by : (r : Ordering) → order (place_of (changed x g) c) (place_of g c) ≡ r → place_of (changed x g) c ≡ place_of g c
        by Less e =
            let none = none_less k (place_of (changed x g)) (place_of g) x.old x.new is.back
            (λ d. sym (is.alike (x.old d)) ∙ ap k (is.back d)) (λ d. refl) other first in
            absurd (none c e)
        by Equal e = slice_cmp-IsAntisymmetric int_cmp-IsAntisymmetric (place_of (changed x g) c) (place_of g c) e
        by Greater e =
            let none = none_less k (place_of g) (place_of (changed x g)) x.new x.old is.there
            is.alike (λ d. ap (place_of g) (is.there d)) first other in
            absurd (none c (total.antisymm (place_of g c) (place_of (changed x g) c) ∙ ap ordering_reverse e))
