-- A search over all that is on the way comes to each choice of how many of its blocks each client has run: there is a
-- legal order for each choice, client by client, and where it leads tells the choice.
use Rattle.std.proofs.Common.{◌≡◌, ◌==◌, ◌<◌, ◌≤◌, ◌+◌, ◌*◌, ℕ, cond, if◌then◌else◌, zero, suc, false, List, [], ◌∷◌, ◌++◌, length, get_or, replicate, refl, sym, ap, ◌∙◌, arith}
use Rattle.qs_outcomes.proofs.Common.{AllZip, at_most, becomes_alone, blocks_of, Configuration, configuration-append, configuration_after, configuration_in, Counts, each_map, eqb_apart, eqb_self, first_configuration, has_map, HasOne, IsLegal, legal-join, legal-rest, legal_followed, LegalFrom, nat_tests, order_from, ProgramShape, put, same_list, StandingShape, Ticket}
use Rattle.std.proofs.lemmas.List.Elements.{length_all_zip}
use Rattle.std.proofs.lemmas.List.Folds.{sum_by-replicate}
use Rattle.qs_outcomes.specs.estimate.Estimates.{left}
use Rattle.qs_outcomes.specs.estimate.Laws.{LeastIsThere}
use Rattle.qs_outcomes.proofs.estimate.BlocksLeft.{begun_few, begun_more, left-long, left_of, word_named}
use Rattle.qs_outcomes.proofs.estimate.Choosing.{vectors, vectors-long, vectors_apart, vectors_within}
use Rattle.qs_outcomes.proofs.estimate.Words.{times, times-append, times-cons, times-here}

-- ---- an order for a choice

-- so many blocks of each client from a number on
abbrev runs_from : ℕ → List ℕ → List ℕ
runs_from c [] = []
runs_from c (k ∷ ks) = replicate k c ++ runs_from (suc c) ks

times-same : (c k : ℕ) → times c (replicate k c) ≡ k
times-same c k = sum_by-replicate (λ y. cond (y == c) 1 0) k c ∙ (ap (λ b. k * cond b 1 0) (eqb_self c) ∙ omega arith)

times-other : (d c k : ℕ) → (c == d) ≡ false → times d (replicate k c) ≡ 0
times-other d c k other = sum_by-replicate (λ y. cond (y == d) 1 0) k c ∙ (ap (λ b. k * cond b 1 0) other ∙ omega arith)

runs_before : (d c : ℕ) (ks : List ℕ) → d < c → times d (runs_from c ks) ≡ 0
runs_before d c [] less = refl
runs_before d c (k ∷ ks) less =
    let joined = times-append d (replicate k c) (runs_from (suc c) ks) in
    let first = times-other d c k (eqb_apart c d (λ e. omega (arith, e, less))) in
    let rest = runs_before d (suc c) ks (omega (arith, less)) in omega (arith, joined, first, rest)

runs_at : (c i : ℕ) (ks : List ℕ) → times (c + i) (runs_from c ks) ≡ get_or ks i 0
runs_at c i [] = refl
runs_at c zero (k ∷ ks) =
    let e : c + 0 ≡ c = omega arith in
    let joined = times-append c (replicate k c) (runs_from (suc c) ks) in
    let first = times-same c k in
    let rest = runs_before c (suc c) ks (omega arith) in
    ap (λ d. times d (runs_from c (k ∷ ks))) e ∙ omega (arith, joined, first, rest)
runs_at c (suc i) (k ∷ ks) =
    let e : c + suc i ≡ suc c + i = omega arith in
    let joined = times-append (suc c + i) (replicate k c) (runs_from (suc c) ks) in
    let first = times-other (suc c + i) c k (eqb_apart c (suc c + i) (λ same. omega (arith, same))) in
    let rest = runs_at (suc c) i ks in
    ap (λ d. times d (runs_from c (k ∷ ks))) e ∙ omega (arith, joined, first, rest)

-- a word with no more of a client than it has blocks left names a legal order
one_within : (f : ℕ → ℕ) (a d n m most : ℕ) → m ≡ (if a == d then suc n else n) → f d + m ≤ most → put f a (suc (f a)) d + n ≤ most
one_within f a d n m most e few = grind (arith, nat_tests)

named_legal : (p : ProgramShape) (begun : Counts) (cs : List ℕ) → ((d : ℕ) → begun d + times d cs ≤ blocks_of p d) → LegalFrom p begun (order_from begun cs)
named_legal p begun [] within = tt
named_legal p begun (c ∷ cs) within = (
  refl,
  (let few = within c in let more = times-here c c cs refl in omega (arith, few, more)),
  named_legal p (put begun c (suc (begun c))) cs
      (λ d. one_within begun c d (times d cs) (times d (c ∷ cs)) (blocks_of p d) (times-cons d c cs) (within d)),
)

-- ---- choices, place by place

zip_within : (v bs : List ℕ) (i : ℕ) → AllZip ◌≤◌ v bs → get_or v i 0 ≤ get_or bs i 0
zip_within [] [] i h = omega arith
zip_within (x ∷ v) (b ∷ bs) zero h = h.0
zip_within (x ∷ v) (b ∷ bs) (suc i) h = zip_within v bs i h.1
zip_within _ _ i h = absurd h

module _ (p : ProgramShape) (front : List Ticket) (legal : IsLegal p front) where
  -- where a choice was made: a number for each client, and each has begun so many more
  record HasChosen (v : List ℕ) (s : StandingShape) : Type 0 where
    long : length v ≡ length p.clients
    begun : (c : ℕ) → (configuration_in s).begun c ≡ (configuration_after p front).begun c + get_or v c 0

  one_choice : (v w : List ℕ) (s : StandingShape) → HasChosen v s → HasChosen w s → v ≡ w
  one_choice v w s h k = same_list 0 v w (h.long ∙ sym k.long) (λ c. (let a = h.begun c in let b = k.begun c in let same : get_or v c 0 ≡ get_or w c 0 = omega (arith, a, b) in same))

  rest_of : List ℕ → List Ticket
  rest_of v = order_from (configuration_after p front).begun (runs_from 0 v)

  within_left : (v : List ℕ) (d : ℕ) → AllZip ◌≤◌ v (left p front) → (configuration_after p front).begun d + times d (runs_from 0 v) ≤ blocks_of p d
  within_left v d h =
      let at : times d (runs_from 0 v) ≡ get_or v d 0 = ap (λ e. times e (runs_from 0 v)) (let e : d ≡ 0 + d = omega arith in e) ∙ runs_at 0 d v in
      let few = zip_within v (left p front) d h in
      let all = left_of p front d in
      let begun = begun_few p front d legal in omega (arith, at, few, all, begun)

  rest_legal : (v : List ℕ) → AllZip ◌≤◌ v (left p front) → IsLegal p (front ++ rest_of v)
  unfolding rest_of
  rest_legal v h = legal-join p (first_configuration p) front (order_from (configuration_after p front).begun (runs_from 0 v)) legal
      (named_legal p (configuration_after p front).begun (runs_from 0 v) (λ d. within_left v d h))

  rest_begun : (v : List ℕ) (c : ℕ) → (configuration_after p (front ++ rest_of v)).begun c ≡ (configuration_after p front).begun c + get_or v c 0
  unfolding rest_of
  rest_begun v c =
      let g = configuration_after p front in
      let rest = order_from g.begun (runs_from 0 v) in
      ap (λ (h : Configuration). h.begun c) (configuration-append p (first_configuration p) front rest)
      ∙ begun_more p g rest c
      ∙ ap (λ u. g.begun c + times c u) (word_named g.begun (runs_from 0 v))
      ∙ ap (λ n. g.begun c + n) (ap (λ e. times e (runs_from 0 v)) (let e : c ≡ 0 + c = omega arith in e) ∙ runs_at 0 c v)

  chosen : (ss : List StandingShape) → ((rest : List Ticket) → IsLegal p (front ++ rest) → HasOne (λ s. configuration_in s ≡ configuration_after p (front ++ rest)) ss)
      → (v : List ℕ) → AllZip ◌≤◌ v (left p front) → HasOne (HasChosen v) ss
  chosen ss all v h =
      has_map {P = λ s. configuration_in s ≡ configuration_after p (front ++ rest_of v)}
      (λ s e. record {
        long = length_all_zip ◌≤◌ v (left p front) h ∙ left-long (configuration_after p front).begun 0 p.clients;
        begun = λ c. ap (λ (g : Configuration). g.begun c) e ∙ rest_begun v c;
      })
      ss (all (rest_of v) (rest_legal v h))

pub least_is_there : LeastIsThere
least_is_there p k alone front legal count found =
    let few : length (vectors (left p front)) ≤ length found.0 =
    at_most (HasChosen p front legal) ◌≡◌ (one_choice p front legal) (vectors (left p front)) found.0 (vectors_apart (left p front))
    (each_map (λ v h. chosen p front legal found.0 all v h) (vectors (left p front)) (vectors_within (left p front))) in
    let long = vectors-long (left p front) in
    let all_long = found.1.count in omega (arith, few, long, all_long)
  where
    all : (rest : List Ticket) → IsLegal p (front ++ rest) → HasOne (λ s. configuration_in s ≡ configuration_after p (front ++ rest)) found.0
    all rest whole =
        has_map (λ s. becomes_alone k alone (configuration_after p (front ++ rest)) (configuration_in s)) found.0
        (found.2 rest whole (legal_followed p k (configuration_after p front) rest (legal-rest p (first_configuration p) front rest whole)))
