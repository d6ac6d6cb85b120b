-- Where two alike clients are exchanged, a standing stays one, and what it holds becomes what it holds then. So the places
-- of a class are put in order one after another: the least of those that are left comes first.
use Rattle.std.proofs.Common.{◌≡◌, ℕ, ◌+◌, ◌<◌, ◌≤◌, arith, true, false, ◌==◌, [], length, sym, ap, ◌∙◌, subst, ⊎_elim, inl, inr, append-nil, Less, Greater}
use Rattle.qs_alike.proofs.Common.{cases_eq, cases_lt, Configuration, configuration_in, exchanged, flipped, int_cmp, IsStanding, nat_tests, ordering_reverse, ProgramShape, slice_cmp, StandingShape, zeros}
use Rattle.std.proofs.lemmas.List.Edits.{length-swap}
use Rattle.indexmap.proofs.ReorderLemmas.{exchange-twice, get_or-swap}
use Rattle.qs_objects.proofs.Choices.{eqb_self, num_cases}
use Rattle.qs_alike.specs.Arranged.{IsArranged, IsArrangedBelow, compared, place_of}
use Rattle.qs_alike.specs.Changes.{AreClasses, Becomes, Change, Classes, IsChange, changed}
use Rattle.qs_alike.proofs.Arranging.{total}
use Rattle.qs_alike.proofs.Orders.{leads, legal_changed}
use Rattle.qs_alike.proofs.Composing.{becomes_then}

-- two clients in each other's places
abbrev pub flip : ℕ → ℕ → Change
flip c d = record { new = flipped c d; old = flipped c d }

pub flipped_first : (c d : ℕ) → flipped c d c ≡ d
flipped_first c d = grind (arith, nat_tests)

pub flipped_second : (c d : ℕ) → flipped c d d ≡ c
flipped_second c d = grind (arith, nat_tests)

pub flipped_other : (c d n : ℕ) → (n ≡ c → ⊥) → (n ≡ d → ⊥) → flipped c d n ≡ n
flipped_other c d n one two = grind (arith, nat_tests)

-- what two have in common they have in each other's places
pub flip_alike : {A : Type 0} (k : ℕ → A) (c d : ℕ) → k c ≡ k d → (n : ℕ) → k (flipped c d n) ≡ k n
flip_alike k c d same n = grind (arith, nat_tests)

pub flip_is : (k : Classes) (c d : ℕ) → k c ≡ k d → IsChange k (flip c d)
flip_is k c d same = record { there = exchange-twice c d; back = exchange-twice c d; alike = flip_alike k c d same }

module _ (p : ProgramShape) (k : Classes) (are : AreClasses p k) (s : StandingShape) (is : IsStanding p s.order s) (c d : ℕ)
    (here : c < length p.clients) (there : d < length p.clients) (same : k c ≡ k d) where
  pub flips : configuration_in (exchanged c d s) ≡ changed (flip c d) (configuration_in s)
  flips =
      let begun = get_or-swap s.begun c d 0 (subst (λ n. c < n) (sym is.begun) here) (subst (λ n. d < n) (sym is.begun) there) in
      let locals = get_or-swap s.locals c d zeros (subst (λ n. c < n) (sym is.locals) here) (subst (λ n. d < n) (sym is.locals) there) in
      λ i. record { begun = λ n. begun n i; locals = λ n. locals n i; states = (configuration_in s).states }

  pub stands_exchanged : IsStanding p (exchanged c d s).order (exchanged c d s)
  stands_exchanged = record {
    begun = length-swap s.begun c d ∙ is.begun;
    locals = length-swap s.locals c d ∙ is.locals;
    states = is.states;
    legal = legal_changed p k are (flip c d) (flip_is k c d same) s.order is.legal;
    reduced = record { rest = []; whole = sym (append-nil (exchanged c d s).order); reduced = tt };
    stands = flips ∙ (ap (changed (flip c d)) is.stands ∙ sym (leads p k are (flip c d) (flip_is k c d same) s.order));
  }

  pub becomes_exchanged : Becomes k (configuration_in s) (configuration_in (exchanged c d s))
  becomes_exchanged = (flip c d, flip_is k c d same, flips)

-- of a class the place at a client is the least of those behind it, before a number
abbrev pub IsLeastUpTo : Classes → Configuration → ℕ → ℕ → Type 0
IsLeastUpTo k g c to = (d : ℕ) → c < d → d < to → k c ≡ k d → compared g d c ≡ Less → ⊥

module _ (k : Classes) (g : Configuration) (c d : ℕ) (behind : c < d) (same : k c ≡ k d) where
  abbrev h : Configuration
  h = changed (flip c d) g

  stays_behind : (b e : ℕ) → b < c → b < e → b < flipped c d e
  stays_behind b e before less = let after = behind in grind (arith, nat_tests)

  -- what comes before both is in order still
  pub below_exchanged : IsArrangedBelow k g c → IsArrangedBelow k h c
  below_exchanged below b e before less alike l =
      let fixed : flipped c d b ≡ b = flipped_other c d b (λ is. omega (arith, is, before)) (λ is. omega (arith, is, before, behind)) in
      below b (flipped c d e) before (stays_behind b e before less) (alike ∙ sym (flip_alike k c d same e))
      (subst (λ n. slice_cmp int_cmp (place_of g (flipped c d e)) (place_of g n) ≡ Less) fixed l)

  -- and the lesser place comes first
  pub least_exchanged : compared g d c ≡ Less → IsLeastUpTo k g c d → IsLeastUpTo k h c (d + 1)
  least_exchanged lesser least e after within alike l =
      let first : place_of h c ≡ place_of g d = ap (place_of g) (flipped_first c d) in
      ⊎_elim
      (λ (is : e ≡ d).
      let second : place_of h e ≡ place_of g c = ap (place_of g) (ap (flipped c d) is ∙ flipped_second c d) in
      let turned : compared g c d ≡ Less = subst (λ u. slice_cmp int_cmp u (place_of g d) ≡ Less) second (subst (λ v. slice_cmp int_cmp (place_of h e) v ≡ Less) first l) in
      let greater : compared g c d ≡ Greater = total.antisymm (place_of g c) (place_of g d) ∙ ap ordering_reverse lesser in
      let z : Less ≡ Greater = sym turned ∙ greater in cc)
      (λ (other : (e == d) ≡ false).
      let differs : e ≡ d → ⊥ = λ is. (let t : (e == d) ≡ true = subst (λ x. (e == x) ≡ true) is (eqb_self e) in let z : true ≡ false = sym t ∙ other in cc) in
      let kept : place_of h e ≡ place_of g e = ap (place_of g) (flipped_other c d e (λ is. omega (arith, is, after)) differs) in
      let under : slice_cmp int_cmp (place_of g e) (place_of g d) ≡ Less =
      subst (λ u. slice_cmp int_cmp u (place_of g d) ≡ Less) kept (subst (λ v. slice_cmp int_cmp (place_of h e) v ≡ Less) first l) in
      least e after (omega (arith, within, differs)) alike (total.trans (place_of g e) (place_of g d) (place_of g c) under lesser))
      (num_cases e d)

-- where a standing is that in which the two are exchanged
module _ (p : ProgramShape) (k : Classes) (are : AreClasses p k) (s t : StandingShape) (is : IsStanding p s.order s) (c d : ℕ)
    (behind : c < d) (there : d < length p.clients) (same : k c ≡ k d) (now : t ≡ exchanged c d s) where
  here : c < length p.clients
  here = omega (arith, behind, there)

  pub standing_exchanged : IsStanding p t.order t
  standing_exchanged = subst (λ (t : StandingShape). IsStanding p t.order t) (sym now) (stands_exchanged p k are s is c d here there same)

  pub becomes_further : (g : Configuration) → Becomes k g (configuration_in s) → Becomes k g (configuration_in t)
  becomes_further g before =
      becomes_then k g (configuration_in s) (configuration_in t) before
      (subst (λ (t : StandingShape). Becomes k (configuration_in s) (configuration_in t)) (sym now) (becomes_exchanged p k are s is c d here there same))

  flips_now : configuration_in t ≡ changed (flip c d) (configuration_in s)
  flips_now = ap configuration_in now ∙ flips p k are s is c d here there same

  pub below_now : IsArrangedBelow k (configuration_in s) c → IsArrangedBelow k (configuration_in t) c
  below_now below = subst (λ g. IsArrangedBelow k g c) (sym flips_now) (below_exchanged k (configuration_in s) c d behind same below)

  pub least_now : compared (configuration_in s) d c ≡ Less → IsLeastUpTo k (configuration_in s) c d → IsLeastUpTo k (configuration_in t) c (d + 1)
  least_now lesser least = subst (λ g. IsLeastUpTo k g c (d + 1)) (sym flips_now) (least_exchanged k (configuration_in s) c d behind same lesser least)

pub least_kept : (k : Classes) (g : Configuration) (c d : ℕ) → (k c ≡ k d → compared g d c ≡ Less → ⊥) → IsLeastUpTo k g c d → IsLeastUpTo k g c (d + 1)
least_kept k g c d not least e after within alike l = elim (cases_eq e d) [
  | inl is ↦ not (subst (λ n. k c ≡ k n) is alike) (subst (λ n. compared g n c ≡ Less) is l)
  | inr apart ↦ least e after (let other : e ≡ d → ⊥ = apart in omega (arith, within, other)) alike l
]

pub none_before : (k : Classes) (g : Configuration) (c : ℕ) → IsLeastUpTo k g c (c + 1)
none_before k g c e after within alike l = omega (arith, after, within)

-- all that are behind are looked at: a number that is no client's is in a class of its own
pub below_more : (p : ProgramShape) (k : Classes) → AreClasses p k → (g : Configuration) (c to : ℕ) → c < length p.clients → length p.clients ≤ to
    → IsArrangedBelow k g c → IsLeastUpTo k g c to → IsArrangedBelow k g (c + 1)
below_more p k are g c to within all below least b e before less alike l = elim (cases_eq b c) [
  | inl is ↦ elim (cases_lt e to) [
    | inl inside ↦ least e (subst (λ n. n < e) is less) inside (subst (λ n. k n ≡ k e) is alike) (subst (λ n. compared g e n ≡ Less) is l)
    | inr past ↦ let same : e ≡ b = are.alone e b (omega (arith, all, past)) (sym alike) in omega (arith, same, less)
  ]
  | inr apart ↦ below b e (let other : b ≡ c → ⊥ = apart in omega (arith, before, other)) less alike l
]

pub nothing_below : (k : Classes) (g : Configuration) → IsArrangedBelow k g 0
nothing_below k g b e before less alike l = omega (arith, before)

pub all_below : (p : ProgramShape) (k : Classes) → AreClasses p k → (g : Configuration) (to : ℕ) → length p.clients ≤ to → IsArrangedBelow k g to → IsArranged k g
all_below p k are g to all below b e less alike l =
    ⊎_elim
    (λ (under : b < to). below b e under less alike l)
    (λ (past : to ≤ b). let same : b ≡ e = are.alone b e (omega (arith, all, past)) alike in omega (arith, same, less))
    (cases_lt b to)
