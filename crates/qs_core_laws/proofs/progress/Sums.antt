-- Sums of what stands at numbers, over a list and below a number, and how they change with one of them.
use Rattle.std.proofs.Common.{◌≡◌, ◌<◌, ◌≤◌, ◌∙◌, ◌+◌, ◌==◌, ◌||◌, ℕ, zero, suc, Bool, true, false, true≢false, if◌then◌else◌, List, [], ◌∷◌, length, refl, sym, ap, subst, ⊎_elim, arith, rules}
use Rattle.qs_played.proofs.Names.{apart_eqb, eqb_self, num_cases, is_in}
use Rattle.qs_core_laws.proofs.protocol.ClientInvariants.{Lined}

abbrev pub total : (ℕ → ℕ) → List ℕ → ℕ
total f [] = 0
total f (h ∷ hs) = f h + total f hs

abbrev pub below : (ℕ → ℕ) → ℕ → ℕ
below f zero = 0
below f (suc n) = below f n + f n

-- g is f but for one number
abbrev pub SameApart : ℕ → (ℕ → ℕ) → (ℕ → ℕ) → Type 0
SameApart k f g = (i : ℕ) → (k == i) ≡ false → g i ≡ f i

pub total_same : (f g : ℕ → ℕ) (hs : List ℕ) → ((i : ℕ) → g i ≡ f i) → total g hs ≡ total f hs
total_same f g v same = grind arith

total_apart : (f g : ℕ → ℕ) (k : ℕ) (hs : List ℕ) → SameApart k f g → is_in hs k ≡ false → total g hs ≡ total f hs
total_apart f g k [] same out = refl
total_apart f g k (h ∷ hs) same out =
    ⊎_elim
    (λ (is : k ≡ h). absurd (true≢false (sym (subst (λ h. (h == k || is_in hs k) ≡ true) is (rw (eqb_self k) refl)) ∙ out)))
    (λ (other : (k == h) ≡ false). let one = same h other in let others = total_apart f g k hs same (tail (h == k) out) in omega (arith, one, others))
    (num_cases k h)
  where
    tail : (b : Bool) → (b || is_in hs k) ≡ false → is_in hs k ≡ false
    tail v e = search (rules, true≢false)

pub total_changed : (may : ℕ → Bool) (f g : ℕ → ℕ) (k : ℕ) (hs : List ℕ) → Lined may hs → SameApart k f g
    → is_in hs k ≡ true → total g hs + f k ≡ total f hs + g k
total_changed may f g k [] lined same e = absurd (cc)
total_changed may f g k (h ∷ hs) lined same e =
    ⊎_elim
    (λ (is : k ≡ h).
    let others = total_apart f g k hs same (subst (λ h. is_in hs h ≡ false) (sym is) lined.0) in
    let at_f = ap f is in let at_g = ap g is in
    omega (arith, others, at_f, at_g))
    (λ (other : (k == h) ≡ false).
    let one = same h other in
    let others = total_changed may f g k hs lined.2 same (tail (h == k) (λ t. other_way h other t) e) in
    omega (arith, one, others))
    (num_cases k h)
  where
    other_way : (h : ℕ) → (k == h) ≡ false → (h == k) ≡ true → ⊥
    other_way h other t = let ne = apart_eqb k h other in let is : h ≡ k = grind (arith, t) in ne (sym is)

    tail : (b : Bool) → (b ≡ true → ⊥) → (b || is_in hs k) ≡ true → is_in hs k ≡ true
    tail v never e = search rules

pub below_same : (f g : ℕ → ℕ) (n : ℕ) → ((i : ℕ) → g i ≡ f i) → below g n ≡ below f n
below_same f g v same = grind arith

below_apart : (f g : ℕ → ℕ) (k n : ℕ) → SameApart k f g → n ≤ k → below g n ≡ below f n
below_apart f g k zero same low = refl
below_apart f g k (suc n) same low = grind (arith, below_apart f g k n same (omega (arith, low)))

pub below_changed : (f g : ℕ → ℕ) (k n : ℕ) → k < n → SameApart k f g → below g n + f k ≡ below f n + g k
below_changed f g k zero less same = absurd (omega (arith, less))
below_changed f g k (suc n) less same =
    ⊎_elim
    (λ (is : k ≡ n).
    let others = below_apart f g k n same (omega (arith, is)) in
    let at_f = ap f is in let at_g = ap g is in
    omega (arith, others, at_f, at_g))
    (λ (other : (k == n) ≡ false).
    let ne = apart_eqb k n other in
    let one = same n other in
    let others = below_changed f g k n (omega (arith, less, ne)) same in
    omega (arith, one, others))
    (num_cases k n)

abbrev pub one_if : Bool → ℕ
one_if b = if b then 1 else 0

-- how many numbers below n are in a list
pub below_listed : (hs : List ℕ) (n : ℕ) → below (λ i. one_if (is_in hs i)) n ≤ length hs
below_listed [] n = let none = zeros n in omega (arith, none)
  where
    zeros : (n : ℕ) → below (λ i. 0) n ≡ 0
    zeros zero = refl
    zeros (suc n) = let ih = zeros n in omega (arith, ih)
below_listed (h ∷ hs) n =
    let both = split n in let one = once n in let others = below_listed hs n in omega (arith, both, one, others)
  where
    either : (a b : Bool) → one_if (a || b) ≤ one_if (a) + one_if (b)
    either a b = search rules

    split : (n : ℕ)
        → below (λ i. one_if (is_in (h ∷ hs) i)) n ≤ below (λ i. one_if (h == i)) n + below (λ i. one_if (is_in hs i)) n
    split zero = omega arith
    split (suc n) = let ih = split n in let one = either (h == n) (is_in hs n) in omega (arith, ih, one)

    none_yet : (n : ℕ) → n ≤ h → below (λ i. one_if (h == i)) n ≡ 0
    none_yet zero low = refl
    none_yet (suc n) low =
        let ih = none_yet n (omega (arith, low)) in let one : one_if (h == n) ≡ 0 = apart (h == n) refl in omega (arith, ih, one)
      where
        apart : (b : Bool) → (h == n) ≡ b → one_if (b) ≡ 0
        apart v e = grind arith

    once : (n : ℕ) → below (λ i. one_if (h == i)) n ≤ 1
    once zero = omega arith
    once (suc n) =
        ⊎_elim
        (λ (is : h ≡ n). let none = none_yet n (omega (arith, is)) in let one : one_if (h == n) ≤ 1 = few (h == n) in omega (arith, none, one))
        (λ (other : (h == n) ≡ false). let ih = once n in let none : one_if (h == n) ≡ 0 = rw other refl in omega (arith, ih, none))
        (num_cases h n)
      where
        few : (b : Bool) → one_if (b) ≤ 1
        few v = grind arith
